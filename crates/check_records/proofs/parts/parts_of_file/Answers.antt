use Rattle.std.proofs.Common.{◌≡◌, ◌∙◌, ◌++◌, ℕ, List, [], ◌∷◌, length, map, sym, ap, arith}
use Rattle.std.proofs.lemmas.List.{append_assoc, map_push}
use Rattle.check_records.specs.declared.parts.Part.{Part}
use Rattle.check_records.specs.declared.parts.Part.TheVariants.{Program, Unit as AUnit}
use Rattle.check_records.specs.Parts.{numbers_below}
use Rattle.check_records.proofs.Numbers.{below_next}
use Rattle.check_records.proofs.PartLists.{same_length, programs_held, programs_few, units_few, parts_are, parts_there}
use Rattle.check_records.proofs.parts.parts_of_file.Goals as goal

pub overflow_cast-number : goal.overflow_cast-number
overflow_cast-number c =
    let (reach, is) = c.requires in
    let few = programs_few c.args.classes c.args.world.now reach is in
    omega (arith, few, c.searched_programs-number-end.ensures, c.loop-number-test.true)

pub loop-number-preserved : goal.loop-number-preserved
loop-number-preserved c =
    c.in_ok-push.ensures.items ∙ ap (λ (z : List Part). z ++ Program c.loop-number.number ∷ []) c.loop-number.invariant
    ∙ sym (map_push Program (numbers_below c.loop-number.number) c.loop-number.number) ∙ ap (λ (z : List ℕ). map Program z) (sym (below_next c.loop-number.number))

pub overflow_cast-number-in-loop-number-2 : goal.overflow_cast-number-in-loop-number-2
overflow_cast-number-in-loop-number-2 c =
    let (reach, is) = c.requires in
    let few = units_few c.args.classes c.args.world.now reach is in
    let count : length c.units.result.now.items ≡ length c.args.world.now.units = same_length c.units.result.now.items c.args.world.now.units c.units.ensures in
    omega (arith, few, count, c.units.result.now.ok.0, c.len-number-end.ensures, c.loop-number-2-test.true)

pub loop-number-2-preserved : goal.loop-number-2-preserved
loop-number-2-preserved c =
    let before : List Part = c.push_lists-2.new.parts.items in
    c.in_ok-push-2.ensures.items ∙ ap (λ (z : List Part). z ++ AUnit c.loop-number-2.number ∷ []) c.loop-number-2.invariant
    ∙ append_assoc before (map AUnit (numbers_below c.loop-number-2.number)) (AUnit c.loop-number-2.number ∷ [])
    ∙ ap (λ (z : List Part). before ++ z) (sym (map_push AUnit (numbers_below c.loop-number-2.number) c.loop-number-2.number) ∙ ap (λ (z : List ℕ). map AUnit z) (sym (below_next c.loop-number-2.number)))

pub returns-clause-parts : goal.returns-clause-parts
returns-clause-parts c =
    let (reach, is) = c.requires in
    let last : length c.units.result.now.items ≡ length c.args.world.now.units = same_length c.units.result.now.items c.args.world.now.units c.units.ensures in
    let programs : c.loop-number.number ≡ programs_held c.args.classes c.args.world.now = omega (arith, c.searched_programs-number-end.ensures, c.loop-number-test.false, c.loop-number.auto.number-end) in
    let units : c.loop-number-2.number ≡ length c.args.world.now.units = omega (arith, last, c.units.result.now.ok.0, c.len-number-end.ensures, c.loop-number-2-test.false, c.loop-number-2.auto.number-end) in
    parts_are c.args.classes c.args.world.now reach is c.loop-number.parts.items c.push_lists.new.parts.items c.push_lists-2.new.parts.items c.loop-number-2.parts.items
    (c.loop-number.invariant ∙ ap (λ (n : ℕ). map Program (numbers_below n)) programs) c.in_ok-push_lists.ensures c.in_ok-push_lists-2.ensures
    (c.loop-number-2.invariant ∙ ap (λ (n : ℕ). c.push_lists-2.new.parts.items ++ map AUnit (numbers_below n)) units)

pub returns-clause-there : goal.returns-clause-there
returns-clause-there c =
    let (reach, is) = c.requires in
    let last : length c.units.result.now.items ≡ length c.args.world.now.units = same_length c.units.result.now.items c.args.world.now.units c.units.ensures in
    let programs : c.loop-number.number ≡ programs_held c.args.classes c.args.world.now = omega (arith, c.searched_programs-number-end.ensures, c.loop-number-test.false, c.loop-number.auto.number-end) in
    let units : c.loop-number-2.number ≡ length c.args.world.now.units = omega (arith, last, c.units.result.now.ok.0, c.len-number-end.ensures, c.loop-number-2-test.false, c.loop-number-2.auto.number-end) in
    parts_there c.args.classes c.args.world.now reach is c.loop-number.parts.items c.push_lists.new.parts.items c.push_lists-2.new.parts.items c.loop-number-2.parts.items
    (c.loop-number.invariant ∙ ap (λ (n : ℕ). map Program (numbers_below n)) programs) c.in_ok-push_lists.ensures c.in_ok-push_lists-2.ensures
    (c.loop-number-2.invariant ∙ ap (λ (n : ℕ). c.push_lists-2.new.parts.items ++ map AUnit (numbers_below n)) units)

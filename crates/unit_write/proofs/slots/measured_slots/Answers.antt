use Rattle.std.proofs.Common.{◌≡◌, ◌≤◌, ◌+◌, ◌^◌, ◌∙◌, ℕ, List, length, take, sum, sym, ap, arith}
use Rattle.std.proofs.lemmas.List.{take_all}
use Rattle.slot_layout.specs.Rows.{most_slots}
use Rattle.expr_ops.specs.Expressions.{Operation}
use Rattle.entry_arena.specs.Arena.{Arena}
use Rattle.entry_read.specs.Slots.{operations_in, aims_of, slots_before}
use Rattle.unit_write.specs.inside.Marks.{AreShort}
use Rattle.unit_write.proofs.SlotAims.{slots_summed, aims_within}
use Rattle.unit_write.proofs.ListSlots.{counts_few}
use Rattle.unit_write.proofs.SlotMeasures.{fixed_lens, fixed_small}
use Rattle.unit_write.proofs.ShortSpans.{held_of, short_of}
use Rattle.unit_write.proofs.SlotRows.{spots_many, have_spots, have_list_spots, both_made, are_slots, ranges_inside, small_fixed}
use Rattle.unit_write.proofs.TakenUnits.{have_values}
use Rattle.unit_write.proofs.slots.measured_slots.Goals as goal

pub of-requires-clause-lens : goal.of-requires-clause-lens
of-requires-clause-lens c = fixed_lens c.args.unit.now.forest c.args.operations.now c.requires.operations c.slots_are_few.ensures.opcodes c.args.measured.now c.requires.measured

pub of-requires-clause-few : goal.of-requires-clause-few
of-requires-clause-few c =
    let f : Arena = c.args.unit.now.forest in
    let ops : ℕ → List Operation = operations_in f c.args.operations.now in
    let slots : List ℕ = c.args.measured.now.slots.items in
    let counted : length slots ≡ length f.values = c.requires.measured.slots_count in
    let all : sum slots ≡ sum (take (length f.values) slots) = ap sum (sym (take_all (length f.values) slots (omega (arith, counted)))) in
    let same : sum (take (length f.values) slots) ≡ slots_before f ops (length f.values) = slots_summed f ops slots (record { count = c.requires.measured.slots_count; each = c.requires.measured.slots }) (length f.values) (omega arith) in
    let many : length c.args.spots.now.items ≡ length (aims_of f ops) = spots_many c.args.unit.now ops c.args.spots.now.items c.requires.spots in
    let few : length c.args.spots.now.items + length c.args.lists.now ≤ most_slots = c.requires.few in
    omega arith

pub push_value_slots-requires-clause-fits : goal.push_value_slots-requires-clause-fits
push_value_slots-requires-clause-fits c =
    let short : AreShort c.args.unit.now.forest = short_of c.args.unit.now c.args.decls.now c.args.specs.now.items c.args.numbers.now.items c.requires.writable c.requires.room in
    fixed_small c.args.unit.now.forest c.args.operations.now c.requires.operations c.slots_are_few.ensures.opcodes short

pub push_value_slots-requires-clause-spots : goal.push_value_slots-requires-clause-spots
push_value_slots-requires-clause-spots c =
    let ops : ℕ → List Operation = operations_in c.args.unit.now.forest c.args.operations.now in
    have_spots c.args.unit.now c.args.decls.now c.args.specs.now.items c.args.numbers.now.items ops c.in_ok-marks.marks (c.in_ok-marks.ensures ops c.requires.measured) c.args.spots.now.items c.requires.spots

pub push_list_slots-requires-clause-spots : goal.push_list_slots-requires-clause-spots
push_list_slots-requires-clause-spots c =
    let ops : ℕ → List Operation = operations_in c.args.unit.now.forest c.args.operations.now in
    let (more, listed) = c.requires.lists in
    have_list_spots c.args.unit.now c.args.decls.now c.args.specs.now.items c.args.numbers.now.items ops c.in_ok-marks.marks (c.in_ok-marks.ensures ops c.requires.measured) more c.args.lists.now listed

pub push_list_slots-requires-clause-counts : goal.push_list_slots-requires-clause-counts
push_list_slots-requires-clause-counts c =
    let (more, listed) = c.requires.lists in
    counts_few c.args.unit.now more c.args.lists.now listed

pub push_list_slots-requires-clause-few : goal.push_list_slots-requires-clause-few
push_list_slots-requires-clause-few c =
    let f : Arena = c.args.unit.now.forest in
    let ops : ℕ → List Operation = operations_in f c.args.operations.now in
    let many : length c.args.spots.now.items ≡ length (aims_of f ops) = spots_many c.args.unit.now ops c.args.spots.now.items c.requires.spots in
    let count : c.value_count-number-end.result ≡ length f.values = c.value_count-number-end.ensures ∙ ap (λ (z : Arena). length z.values) c.forest.ensures in
    let all : c.loop-number.number ≡ length f.values = omega (arith, count, c.loop-number-test.false, c.loop-number.auto.number-end) in
    let made : length c.loop-number.slots.items ≡ length (aims_of f ops) = c.loop-number.invariant.count ∙ ap (slots_before f ops) all in
    let few : length c.args.spots.now.items + length c.args.lists.now ≤ most_slots = c.requires.few in
    omega (arith, many, made, few)

pub returns-clause-slots : goal.returns-clause-slots
returns-clause-slots c = λ more listed.
    let unit = c.args.unit.now in
    let f : Arena = unit.forest in
    let ops : ℕ → List Operation = operations_in f c.args.operations.now in
    let count : c.value_count-number-end.result ≡ length f.values = c.value_count-number-end.ensures ∙ ap (λ (z : Arena). length z.values) c.forest.ensures in
    let all : c.loop-number.number ≡ length f.values = omega (arith, count, c.loop-number-test.false, c.loop-number.auto.number-end) in
    let made = both_made unit ops c.in_ok-marks.marks c.args.spots.now.items c.args.lists.now c.loop-number.number c.loop-number.slots.items c.push_list_slots.new.slots.items c.requires.spots all c.loop-number.invariant c.in_ok-push_list_slots.ensures more listed in
    let valued = have_values unit c.args.decls.now (held_of unit c.args.decls.now c.args.specs.now.items c.args.numbers.now.items c.requires.writable) in
    are_slots unit c.args.decls.now c.args.specs.now.items c.args.numbers.now.items ops c.in_ok-marks.marks (c.in_ok-marks.ensures ops c.requires.measured) more c.args.spots.now.items c.args.lists.now c.requires.spots listed c.push_list_slots.new.slots.items made c.one_size.ensures valued

pub returns-clause-inside : goal.returns-clause-inside
returns-clause-inside c =
    let unit = c.args.unit.now in
    let f : Arena = unit.forest in
    let ops : ℕ → List Operation = operations_in f c.args.operations.now in
    let (more, listed) = c.requires.lists in
    let count : c.value_count-number-end.result ≡ length f.values = c.value_count-number-end.ensures ∙ ap (λ (z : Arena). length z.values) c.forest.ensures in
    let all : c.loop-number.number ≡ length f.values = omega (arith, count, c.loop-number-test.false, c.loop-number.auto.number-end) in
    let made = both_made unit ops c.in_ok-marks.marks c.args.spots.now.items c.args.lists.now c.loop-number.number c.loop-number.slots.items c.push_list_slots.new.slots.items c.requires.spots all c.loop-number.invariant c.in_ok-push_list_slots.ensures more listed in
    let valued = have_values unit c.args.decls.now (held_of unit c.args.decls.now c.args.specs.now.items c.args.numbers.now.items c.requires.writable) in
    let short : AreShort f = short_of unit c.args.decls.now c.args.specs.now.items c.args.numbers.now.items c.requires.writable c.requires.room in
    let within = aims_within (2 ^ 31) f ops (length f.values) (fixed_small f c.args.operations.now c.requires.operations c.slots_are_few.ensures.opcodes short) in
    ranges_inside unit c.args.decls.now c.args.specs.now.items c.args.numbers.now.items ops c.in_ok-marks.marks (c.in_ok-marks.ensures ops c.requires.measured) more c.args.spots.now.items c.args.lists.now c.requires.spots listed c.push_list_slots.new.slots.items made within valued

pub returns-clause-small : goal.returns-clause-small
returns-clause-small c =
    let unit = c.args.unit.now in
    let f : Arena = unit.forest in
    let ops : ℕ → List Operation = operations_in f c.args.operations.now in
    let (more, listed) = c.requires.lists in
    let count : c.value_count-number-end.result ≡ length f.values = c.value_count-number-end.ensures ∙ ap (λ (z : Arena). length z.values) c.forest.ensures in
    let all : c.loop-number.number ≡ length f.values = omega (arith, count, c.loop-number-test.false, c.loop-number.auto.number-end) in
    let made = both_made unit ops c.in_ok-marks.marks c.args.spots.now.items c.args.lists.now c.loop-number.number c.loop-number.slots.items c.push_list_slots.new.slots.items c.requires.spots all c.loop-number.invariant c.in_ok-push_list_slots.ensures more listed in
    let short : AreShort f = short_of unit c.args.decls.now c.args.specs.now.items c.args.numbers.now.items c.requires.writable c.requires.room in
    let within = aims_within (2 ^ 31) f ops (length f.values) (fixed_small f c.args.operations.now c.requires.operations c.slots_are_few.ensures.opcodes short) in
    small_fixed unit c.args.decls.now c.args.specs.now.items c.args.numbers.now.items ops c.in_ok-marks.marks (c.in_ok-marks.ensures ops c.requires.measured) more c.args.spots.now.items c.args.lists.now c.requires.spots listed c.push_list_slots.new.slots.items made within

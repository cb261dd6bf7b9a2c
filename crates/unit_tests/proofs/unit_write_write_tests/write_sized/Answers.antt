use Rattle.std.proofs.Common.{rules, ◌≡◌, ◌<◌, ◌^◌, ℕ, List, [], length, sym, subst}
use Rattle.std.specs.List.{All}
use Rattle.unit_write.specs.Lens.{AreLensFor}
use Rattle.unit_write.specs.Moved.{NewValues}
use Rattle.unit_write.proofs.LensLaws.{lens_fit}
use Rattle.unit_tests.proofs.unit_write_write_tests.write_sized.Goals as goal

pub is_writable-requires-clause-lens : goal.is_writable-requires-clause-lens
is_writable-requires-clause-lens c =
    let f = c.args.unit.now.forest in
    let ends = c.in_ok-expressions.ensures.ends in
    let anew : NewValues = record { held = c.in_ok-held.held.items; ends = c.in_ok-expressions.expressions.ends.items; expressions = [] } in
    let count : length c.in_ok-held.held.items ≡ length f.values = search rules in
    let small : length f.section < 2 ^ 63 = search rules in
    let narrow : All (λ (n : ℕ). n < 2 ^ 32) c.in_ok-held.held.items = search rules in
    subst (λ (z : List ℕ). AreLensFor f z) (sym c.in_ok-lens.ensures) (lens_fit f anew count ends.rise.each ends small narrow)

pub place_unit-requires-clause-lens : goal.place_unit-requires-clause-lens
place_unit-requires-clause-lens c =
    let f = c.args.unit.now.forest in
    let ends = c.in_ok-expressions.ensures.ends in
    let anew : NewValues = record { held = c.in_ok-held.held.items; ends = c.in_ok-expressions.expressions.ends.items; expressions = [] } in
    let count : length c.in_ok-held.held.items ≡ length f.values = search rules in
    let small : length f.section < 2 ^ 63 = search rules in
    let narrow : All (λ (n : ℕ). n < 2 ^ 32) c.in_ok-held.held.items = search rules in
    subst (λ (z : List ℕ). AreLensFor f z) (sym c.in_ok-lens.ensures) (lens_fit f anew count ends.rise.each ends small narrow)

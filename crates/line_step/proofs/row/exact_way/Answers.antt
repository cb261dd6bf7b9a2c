use Rattle.std.proofs.Common.{◌≡◌, ◌∙◌, ◌/◌, ◌*◌, ap, arith, to_z, of_z}
use Rattle.std.specs.Prelude.{pos, nat_abs, ◌-ℤ◌, FitsSigned}
use Rattle.std.specs.Int.{w8, w64}
use Rattle.std.proofs.lemmas.Int.{ints, to_z-of_z}
use Rattle.line_step.proofs.ExactWays.{exact_row, instructions_are}
use Rattle.line_step.proofs.row.exact_way.Goals as goal

pub returns-clause-way : goal.returns-clause-way
returns-clause-way c =
    let line : FitsSigned w64 c.args.line = c.ranges.line in
    let base : FitsSigned w8 c.args.base = c.ranges.base in
    let from : c.from.result ≡ c.args.base = c.from.ensures ∙ to_z-of_z w8 c.args.base base in
    let added = nat_abs (to_z w64 (of_z w64 (to_z w64 (of_z w64 c.args.line) -ℤ to_z w64 (of_z w64 c.from.result)))) in
    let is : c.args.line -ℤ c.args.base ≡ pos added = omega (arith, ints, from, c.if-added-lt0.false) in
    let special = ap (λ r. c.args.distance / c.from-scale.result * r) c.from-2.ensures in
    exact_row c.args.base c.args.range c.args.min c.args.line c.args.distance (c.args.distance / c.from-scale.result) added _ c.requires.scale (omega arith) (omega (arith, c.if-part-from.false, c.from-else-distance-scale-ne0.ensures)) (instructions_are c.args.distance c.from-scale.result c.args.min c.from-scale.ensures (omega (arith, c.if-distance-scale-ne0.false))) is (omega (arith, ints, is, from, c.if-added-from.false, c.from-else-added-lt0.ensures)) (omega (arith, special)) (omega (arith, c.if-special-from.false, c.from-3.ensures)) (λ none still. omega (arith, ints, none, still, c.else-line-eq0.either))

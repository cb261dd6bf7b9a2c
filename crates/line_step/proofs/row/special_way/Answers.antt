use Rattle.std.proofs.Common.{◌≡◌, ◌∙◌, subst, rules, arith}
use Rattle.std.specs.Prelude.{ℤ, ◌-ℤ◌, FitsSigned}
use Rattle.std.specs.Int.{w8, w64}
use Rattle.std.proofs.lemmas.Int.{ints, to_z-of_z}
use Rattle.line_step.specs.inside.Search.{IsLinePart}
use Rattle.line_step.proofs.RowWays.{line_long, both_long, part_best, far_is}
use Rattle.line_step.proofs.row.special_way.Goals as goal

pub returns-then-line_bytes-limit-clause-none : goal.returns-then-line_bytes-limit-clause-none
returns-then-line_bytes-limit-clause-none c _ =
    let line : FitsSigned w64 c.args.line = c.ranges.line in
    let base : FitsSigned w8 c.args.base = c.ranges.base in
    let left : FitsSigned w64 c.line_part-row.result.left = search rules in
    let from : c.from.result ≡ c.args.base = c.from.ensures ∙ to_z-of_z w8 c.args.base base in
    let from_fits : FitsSigned w64 c.from.result = omega (arith, ints, from) in
    let less_fits : FitsSigned w64 (c.args.line -ℤ c.from.result) = omega (arith, ints, from) in
    let part = simp to_z-of_z at c.line_part-row.ensures in
    let best = subst (λ (z : ℤ). IsLinePart (c.args.line -ℤ z) c.args.range c.args.part c.line_part-row.result.special c.line_part-row.result.left) from part in
    let bytes = simp to_z-of_z at c.advance_line_bytes-line_bytes.ensures.bytes in
    line_long c.args.base c.args.range c.args.min c.args.line c.args.distance c.args.part c.line_part-row.result.special c.line_part-row.result.left c.advance_line_bytes-line_bytes.result c.args.limit best bytes c.if-line_bytes-limit.true

pub returns-then-line_bytes-advance-clause-none : goal.returns-then-line_bytes-advance-clause-none
returns-then-line_bytes-advance-clause-none c _ =
    let line : FitsSigned w64 c.args.line = c.ranges.line in
    let base : FitsSigned w8 c.args.base = c.ranges.base in
    let left : FitsSigned w64 c.line_part-row.result.left = search rules in
    let from : c.from.result ≡ c.args.base = c.from.ensures ∙ to_z-of_z w8 c.args.base base in
    let from_fits : FitsSigned w64 c.from.result = omega (arith, ints, from) in
    let less_fits : FitsSigned w64 (c.args.line -ℤ c.from.result) = omega (arith, ints, from) in
    let part = simp to_z-of_z at c.line_part-row.ensures in
    let best = subst (λ (z : ℤ). IsLinePart (c.args.line -ℤ z) c.args.range c.args.part c.line_part-row.result.special c.line_part-row.result.left) from part in
    let bytes = simp to_z-of_z at c.advance_line_bytes-line_bytes.ensures.bytes in
    both_long c.args.base c.args.range c.args.min c.args.line c.args.distance c.args.part c.line_part-row.result.special c.line_part-row.result.left c.advance_line_bytes-line_bytes.result _ c.advance.result c.args.limit best bytes (far_is c.args.distance c.args.part c.args.min c.from-2.result c.from-3.result c.from-2.ensures c.from-3.ensures (omega arith) (omega arith)) c.advance.ensures.least c.if-line_bytes-advance.true

pub returns-clause-some : goal.returns-clause-some
returns-clause-some c =
    let line : FitsSigned w64 c.args.line = c.ranges.line in
    let base : FitsSigned w8 c.args.base = c.ranges.base in
    let left : FitsSigned w64 c.line_part-row.result.left = search rules in
    let from : c.from.result ≡ c.args.base = c.from.ensures ∙ to_z-of_z w8 c.args.base base in
    let from_fits : FitsSigned w64 c.from.result = omega (arith, ints, from) in
    let less_fits : FitsSigned w64 (c.args.line -ℤ c.from.result) = omega (arith, ints, from) in
    let part = simp to_z-of_z at c.line_part-row.ensures in
    let best = subst (λ (z : ℤ). IsLinePart (c.args.line -ℤ z) c.args.range c.args.part c.line_part-row.result.special c.line_part-row.result.left) from part in
    let bytes = simp to_z-of_z at c.advance_line_bytes-line_bytes.ensures.bytes in
    rw (to_z-of_z w64 c.line_part-row.result.left left) (
    part_best c.args.base c.args.range c.args.min c.args.line c.args.distance c.args.part c.line_part-row.result.special c.line_part-row.result.left c.advance_line_bytes-line_bytes.result _ c.advance_way-address.result best bytes (far_is c.args.distance c.args.part c.args.min c.from-2.result c.from-3.result c.from-2.ensures c.from-3.ensures (omega arith) (omega arith)) c.advance_way-address.ensures.way)

pub returns-clause-shorter : goal.returns-clause-shorter
returns-clause-shorter c =
    omega (arith, c.if-line_bytes-advance.false, c.advance_way-address.ensures.way.least.least c.advance.result c.advance.ensures.least.enough)

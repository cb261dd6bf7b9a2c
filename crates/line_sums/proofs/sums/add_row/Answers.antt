use Rattle.std.proofs.Common.{refl, arith}
use Rattle.std.specs.Prelude.{FitsSigned}
use Rattle.std.specs.Int.{w64}
use Rattle.std.proofs.lemmas.Int.{to_z-of_z}
use Rattle.line_sums.proofs.RowSums.{run_adds}
use Rattle.line_sums.proofs.SpecialParts.{copy_least}
use Rattle.line_sums.proofs.sums.add_row.Goals as goal

pub returns-then-is_near-clause-added : goal.returns-then-is_near-clause-added
returns-then-is_near-clause-added c = λ place inside.
    let line : FitsSigned w64 c.args.line = c.ranges.line in
    let bytes = simp to_z-of_z at c.line_bytes.ensures.bytes in
    let by_copy = copy_least c.args.range c.args.ways.now c.args.line c.args.distance c.line_bytes.result c.of-way.result.advance _ bytes c.of-way.ensures.right.advance refl in
    let windows = c.of-way.result.windows in
    let adds = simp to_z-of_z at (c.add_near.ensures windows refl (c.of-way.ensures.right.windows.one c.if-way.true) place inside) in
    run_adds c.args.range c.args.ways.now c.args.line c.args.distance c.args.count _ place _ _ windows c.of-way.ensures.right.windows by_copy (omega (arith, c.line_bytes.ensures.few, c.of-way.ensures.right.few)) adds

pub returns-else-way-clause-added : goal.returns-else-way-clause-added
returns-else-way-clause-added c = λ place inside.
    let line : FitsSigned w64 c.args.line = c.ranges.line in
    let bytes = simp to_z-of_z at c.line_bytes.ensures.bytes in
    let by_copy = copy_least c.args.range c.args.ways.now c.args.line c.args.distance c.line_bytes.result c.of-way.result.advance _ bytes c.of-way.ensures.right.advance refl in
    let adds = simp to_z-of_z at (c.add_runs.ensures place inside) in
    run_adds c.args.range c.args.ways.now c.args.line c.args.distance c.args.count _ place _ _ c.of-way.result.windows c.of-way.ensures.right.windows by_copy (omega (arith, c.line_bytes.ensures.few, c.of-way.ensures.right.few)) adds

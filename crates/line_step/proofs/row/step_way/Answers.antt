use Rattle.std.proofs.Common.{arith}
use Rattle.std.specs.Prelude.{FitsSigned}
use Rattle.std.specs.Int.{w8, w64}
use Rattle.std.proofs.lemmas.Int.{to_z-of_z}
use Rattle.line_step.proofs.RowWays.{step_done, step_few}
use Rattle.line_step.proofs.row.step_way.Goals as goal

pub returns-clause-way : goal.returns-clause-way
returns-clause-way c =
    let line : FitsSigned w64 c.args.line = c.ranges.line in
    let base : FitsSigned w8 c.args.base = c.ranges.base in
    step_done c.args.base c.args.range c.args.min c.args.line c.args.distance c.loop-part.part c.loop-part.best (omega arith) (omega arith) (simp to_z-of_z at c.loop-part.invariant)

pub returns-clause-few : goal.returns-clause-few
returns-clause-few c =
    let line : FitsSigned w64 c.args.line = c.ranges.line in
    let base : FitsSigned w8 c.args.base = c.ranges.base in
    let way = step_done c.args.base c.args.range c.args.min c.args.line c.args.distance c.loop-part.part c.loop-part.best (omega arith) (omega arith) (simp to_z-of_z at c.loop-part.invariant) in
    step_few c.args.base c.args.range c.args.min c.args.line c.args.distance c.loop-part.best.bytes c.requires.low c.requires.high way.least

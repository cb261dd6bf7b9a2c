use Rattle.std.proofs.Common.{arith}
use Rattle.std.specs.Prelude.{FitsSigned}
use Rattle.std.specs.Int.{w64}
use Rattle.std.proofs.lemmas.Int.{ints, to_z-of_z}
use Rattle.line_step.proofs.RowWays.{best_part}
use Rattle.line_step.proofs.row.line_part.Goals as goal

pub returns : goal.returns
returns c =
    let fits : FitsSigned w64 c.args.line = c.ranges.line in
    best_part c.args.line _ c.args.range c.args.part c.min-most.result c.remainder_for-remainder.result c.requires.range c.min-most.ensures c.requires.part c.remainder_for-remainder.ensures.within (simp to_z-of_z at c.remainder_for-remainder.ensures.best) (omega (arith, ints, c.from.ensures))

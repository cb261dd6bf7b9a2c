use Rattle.std.proofs.Common.{refl}
use Rattle.std.specs.Prelude.{FitsSigned}
use Rattle.std.specs.Int.{w8, w64}
use Rattle.std.proofs.lemmas.Int.{to_z-of_z}
use Rattle.line_step.proofs.RowWays.{keep_step, take_step}
use Rattle.line_step.proofs.row.better_step.Goals as goal

pub returns-in-Some : goal.returns-in-Some
returns-in-Some c =
    let line : FitsSigned w64 c.args.line = c.ranges.line in
    let base : FitsSigned w8 c.args.base = c.ranges.base in
    take_step c.args.base c.args.range c.args.min c.args.line c.args.distance c.args.part c.args.best c.in-Some.way c.requires.best (simp to_z-of_z at c.in-Some.ensures.some) c.in-Some.ensures.shorter

pub returns-in-None : goal.returns-in-None
returns-in-None c =
    let line : FitsSigned w64 c.args.line = c.ranges.line in
    let base : FitsSigned w8 c.args.base = c.ranges.base in
    keep_step c.args.base c.args.range c.args.min c.args.line c.args.distance c.args.part c.args.best c.requires.range c.requires.best (simp to_z-of_z at (c.in-None.ensures.none refl))

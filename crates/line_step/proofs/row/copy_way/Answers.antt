use Rattle.std.proofs.Common.{refl}
use Rattle.std.specs.Prelude.{FitsSigned}
use Rattle.std.specs.Int.{w64}
use Rattle.std.proofs.lemmas.Int.{to_z-of_z}
use Rattle.line_step.proofs.RowWays.{copy_step}
use Rattle.line_step.proofs.row.copy_way.Goals as goal

pub returns : goal.returns
returns c =
    let fits : FitsSigned w64 c.args.line = c.ranges.line in
    rw (to_z-of_z w64 c.args.line fits) (
    copy_step c.args.base c.args.range c.args.min c.args.line c.args.line c.args.distance c.advance_line_bytes.result c.advance_way-address.result c.advance_way-address.ensures.way refl (simp to_z-of_z at c.advance_line_bytes.ensures.bytes))

use Rattle.std.proofs.Common.{ap, ◌∙◌, arith}
use Rattle.tidy_tables.specs.inside.Outlines.{outlines_held}
use Rattle.tidy_tables.proofs.OutlineLaws.{all_more}
use Rattle.tidy_tables.proofs.outlines.all_outlines.Goals as goal

pub loop-number-preserved : goal.loop-number-preserved
loop-number-preserved c =
    ap outlines_held c.in_ok-push.ensures.items ∙ all_more c.args.table.now c.loop-number.all.items c.in_ok-read_outline.field-0 c.loop-number.number (omega arith) c.loop-number.invariant c.in_ok-read_outline.ensures

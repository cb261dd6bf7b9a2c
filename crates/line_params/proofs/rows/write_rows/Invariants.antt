use Rattle.std.proofs.Common.{take}
use Rattle.line_params.proofs.Rowwise.{Written}
use Rattle.line_params.proofs.rows.write_rows.Given as goal

abbrev pub invariant-loop-row : goal.invariant-loop-row
invariant-loop-row l = Written l.head.stmt l.base l.range l.head.min (take l.row-index l.rows) l.out.items l.from

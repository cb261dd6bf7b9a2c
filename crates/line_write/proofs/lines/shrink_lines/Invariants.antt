use Rattle.std.proofs.Common.{take}
use Rattle.line_write.proofs.Writing.{Rewriting}
use Rattle.line_write.proofs.lines.shrink_lines.Given as goal

abbrev pub invariant-loop-head : goal.invariant-loop-head
invariant-loop-head l = record {
  rewriting : Rewriting l.section (take l.head-index l.heads.items) l.lines.bytes.items l.lines.starts.items l.lines.records.items;
}

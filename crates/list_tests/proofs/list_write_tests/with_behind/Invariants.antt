use Rattle.std.proofs.Common.{◌≡◌, ◌+◌, length, drop}
use Rattle.std.specs.List.{sum_by}
use Rattle.list_write.specs.Written.{pieces, EndsRise, behind_size}
use Rattle.list_tests.proofs.list_write_tests.with_behind.Given as goal

abbrev pub invariant-loop-end : goal.invariant-loop-end
invariant-loop-end l = record {
  rise : EndsRise l.from (drop l.end-index l.expressions.ends.items) (length l.expressions.bytes.items);
  sum : l.sum + sum_by behind_size (pieces l.from (drop l.end-index l.expressions.ends.items) l.expressions.bytes.items) ≡ l.size + sum_by behind_size (pieces 0 l.expressions.ends.items l.expressions.bytes.items);
}

use Rattle.std.proofs.Common.{◌≡◌, ◌≤◌, ◌+◌, ◌*◌, drop}
use Rattle.line_sums.specs.Steps.{set_bytes_from, fixed_bytes}
use Rattle.line_sums.proofs.fixed.fixed_size.Given as goal

abbrev pub invariant-loop-row : goal.invariant-loop-row
invariant-loop-row l = record {
  all : l.bytes + set_bytes_from l.stmt l.from (drop l.row-index l.rows) ≡ fixed_bytes l.stmt l.rows;
  few : l.bytes ≤ 64 * l.row-index;
}

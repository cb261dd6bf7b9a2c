use Rattle.std.proofs.Common.{◌≡◌, take}
use Rattle.line_sums.specs.Counting.{counted_price}
use Rattle.line_sums.specs.Counting.{row_bytes}
use Rattle.line_sums.proofs.rest.row_total.Given as goal

abbrev pub invariant-loop-counted_step : goal.invariant-loop-counted_step
invariant-loop-counted_step l = l.bytes ≡ counted_price row_bytes (take l.counted_step-index l.counted)

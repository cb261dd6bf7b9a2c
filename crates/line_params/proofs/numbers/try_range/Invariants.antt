use Rattle.std.proofs.Common.{◌≡◌, ◌<◌, ℕ, length, get_or}
use Rattle.line_sums.specs.Counting.{row_bytes}
use Rattle.line_sums.specs.Sums.{AreSummed}
use Rattle.line_params.specs.inside.Numbers.{IsNumbered}
use Rattle.line_params.proofs.numbers.try_range.Given as goal

abbrev pub invariant-loop-index : goal.invariant-loop-index
invariant-loop-index l = record {
  summed : AreSummed l.range l.head.min row_bytes l.counted l.index l.sums l.rest;
  numbered : (place : ℕ) → place < 256 → IsNumbered l.range l.head.min l.best.bytes l.counted l.index place (get_or l.numbers place 0);
  ways : l.ways ≡ l.fn.ways;
  totals : length l.totals ≡ 256;
  size : length l.numbers ≡ 256;
}

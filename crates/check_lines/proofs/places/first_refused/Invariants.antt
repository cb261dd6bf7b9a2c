use Rattle.std.proofs.Common.{◌≡◌, ◌≤◌, ◌<◌, ◌-◌, ℕ, get_or, length}
use Rattle.line_sums.specs.Counting.{row_bytes}
use Rattle.line_sums.specs.Sums.{AreSummed}
use Rattle.check_lines.specs.inside.Looking.{AreLooked}
use Rattle.check_lines.proofs.places.first_refused.Given as goal

abbrev pub invariant-loop-next : goal.invariant-loop-next
invariant-loop-next l = record {
  summed : AreSummed l.range l.min row_bytes l.counted l.index l.sums l.rest;
  looked : AreLooked l.range l.min l.bytes l.counted l.numbers l.index l.failed;
  ways : l.ways ≡ l.fn.ways;
  few : (place : ℕ) → place < l.failed → get_or l.numbers place 0 ≤ length l.counted;
  inside : l.index ≤ length l.counted;
}

abbrev pub decreases-loop-next : goal.decreases-loop-next
decreases-loop-next l = length l.counted - l.index

use Rattle.std.proofs.Common.{◌≡◌, ◌≤◌, ◌+◌, ◌*◌, ◌^◌, ℕ, length, get_or, take, sum}
use Rattle.unit_slots.proofs.spots.sums_before.Given as goal

abbrev pub invariant-loop-size : goal.invariant-loop-size
invariant-loop-size l = record {
  one_more : length l.sums.items ≡ l.size-index + 1;
  sum_is : l.sum ≡ sum (take l.size-index l.sizes);
  few : l.sum ≤ 2 ^ 32 * l.size-index;
  each : (k : ℕ) → k ≤ l.size-index → get_or l.sums.items k 0 ≡ sum (take k l.sizes);
}

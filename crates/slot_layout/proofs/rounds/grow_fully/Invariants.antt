use Rattle.std.proofs.Common.{◌≡◌, ◌≤◌, ◌<◌, ◌+◌, ◌-◌, ◌*◌, ◌^◌, ℕ, [], length, get_or, sum}
use Rattle.slot_layout.specs.Rows.{rows_of, most_slots}
use Rattle.slot_layout.proofs.RoundLaws.{rounds}
use Rattle.slot_layout.proofs.RankLaws.{IsRanked}
use Rattle.slot_layout.proofs.rounds.grow_fully.Given as goal

abbrev pub invariant-loop-rank : goal.invariant-loop-rank
invariant-loop-rank l = record {
  starts_length : length l.starts ≡ length l.slots + 1;
  sized : l.sizes ≡ rounds (rows_of l.slots) l.rank;
  ranks_length : length l.ranks ≡ length l.slots;
  ranked : (i : ℕ) → i < length l.slots → IsRanked (rows_of l.slots) l.rank i (get_or l.ranks i []);
  low : l.rank ≤ sum l.sizes;
}

abbrev pub decreases-loop-rank : goal.decreases-loop-rank
decreases-loop-rank l = 5 * most_slots - sum l.sizes

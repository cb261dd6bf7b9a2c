use Rattle.std.proofs.Common.{◌≡◌, ◌≤◌, length}
use Rattle.loc_lists.proofs.ViewReads.{IsFront}
use Rattle.loc_lists.proofs.views.read_views.Given as goal

abbrev pub invariant-loop : goal.invariant-loop
invariant-loop l = record {
  inside : l.place ≤ length l.bytes;
  front : IsFront l.bytes l.at l.pairs.items l.place;
  count : length l.pairs.items ≡ l.counter;
}

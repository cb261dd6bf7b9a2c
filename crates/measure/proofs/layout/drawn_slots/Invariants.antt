use Rattle.std.proofs.Common.{◌≡◌, length}
use Rattle.std.specs.List.{All}
use Rattle.measure.proofs.Drawn.{IsDrawn}
use Rattle.measure.proofs.layout.drawn_slots.Given as goal

abbrev pub invariant-loop-index : goal.invariant-loop-index
invariant-loop-index l = record {
  long : length l.slots.items ≡ l.index;
  drawn : All (IsDrawn l.count) l.slots.items;
}

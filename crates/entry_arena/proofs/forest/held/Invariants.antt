use Rattle.std.proofs.Common.{◌≡◌, take}
use Rattle.entry_arena.proofs.forest.held.Given as goal

abbrev pub invariant-loop-value : goal.invariant-loop-value
invariant-loop-value l = l.held ≡ take l.value-index l.values

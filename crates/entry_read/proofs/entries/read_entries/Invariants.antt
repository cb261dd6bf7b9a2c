use Rattle.std.proofs.Common.{◌-◌, reverse}
use Rattle.entry_arena.specs.Trees.{listed_to}
use Rattle.entry_arena.specs.Walks.{IsGoing}
use Rattle.entry_read.specs.Units.{declarations_of, end_of}
use Rattle.entry_read.specs.inside.Readings.{HasFront}
use Rattle.entry_read.proofs.entries.read_entries.Given as goal

abbrev pub invariant-loop-chains : goal.invariant-loop-chains
invariant-loop-chains l = record {
  front : HasFront l.info l.scope.head (declarations_of l.table) l.scope.before l.forest (reverse l.chains.items) l.at;
  going : IsGoing (listed_to l.forest l.at) (reverse l.chains.items);
}

abbrev pub decreases-loop-chains : goal.decreases-loop-chains
decreases-loop-chains l = end_of l.scope.head - l.at

use Rattle.tidy_tables.proofs.EntryPairs.{ArePairings}
use Rattle.tidy_tables.proofs.entries.first_entry.Given as goal

abbrev pub invariant-loop-unit : goal.invariant-loop-unit
invariant-loop-unit l = ArePairings l.before l.after l.unit l.all.items

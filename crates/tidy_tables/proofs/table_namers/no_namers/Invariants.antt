use Rattle.std.proofs.Common.{[]}
use Rattle.tidy_tables.specs.inside.TableNamers.{AreNamers}
use Rattle.tidy_tables.proofs.table_namers.no_namers.Given as goal

abbrev pub invariant-loop : goal.invariant-loop
invariant-loop l = AreNamers [] l.counter 0 l.all.items

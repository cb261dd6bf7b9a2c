use Rattle.std.proofs.Common.{[]}
use Rattle.rewriter.specs.inside.Columns.{AreNamers}
use Rattle.rewriter.proofs.columns.no_namers.Given as goal

abbrev pub invariant-loop : goal.invariant-loop
invariant-loop l = AreNamers [] l.counter 0 l.all.items

use Rattle.std.proofs.Common.{take, map}
use Rattle.spelled.specs.Spelled.{Joined, Appends}
use Rattle.abbrev_tables.specs.Written.{ShortestDeclared, renumbered}
use Rattle.abbrev_tables.proofs.write.put_order.Given as goal

abbrev pub invariant-loop-entry : goal.invariant-loop-entry
invariant-loop-entry l = record {
  put : Appends (Joined ShortestDeclared) (map (renumbered l.decls l.columns) (take l.entry-index l.order)) l.fn.out.items l.out.items;
}

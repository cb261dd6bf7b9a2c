use Rattle.std.proofs.Common.{length, take}
use Rattle.rewriter.specs.inside.Columns.{AreSeen, meanings_of_units}
use Rattle.rewriter.proofs.inside_columns.see_columns.Given as goal

abbrev pub invariant-loop-number : goal.invariant-loop-number
invariant-loop-number l = AreSeen (length l.table.specs) (meanings_of_units l.units.items l.table.decls (take l.number-index l.named.items)) l.seen.items

use Rattle.std.proofs.Common.{◌≡◌, take}
use Rattle.std.specs.Prelude.{flat_map}
use Rattle.rewriter.proofs.TakenValues.{row_of}
use Rattle.rewriter.proofs.taken.values_of.Given as goal

abbrev pub invariant-loop-entry : goal.invariant-loop-entry
invariant-loop-entry l = l.values.items ≡ flat_map (row_of l.unit l.table l.news) (take l.entry-index l.unit.forest.entries)

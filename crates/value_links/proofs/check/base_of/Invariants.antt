use Rattle.entry_read.specs.Units.{declarations_of}
use Rattle.value_links.specs.inside.Checks.{root_attributes}
use Rattle.value_links.proofs.RootValues.{IsBaseFrom}
use Rattle.value_links.proofs.check.base_of.Given as goal

abbrev pub invariant-loop-column : goal.invariant-loop-column
invariant-loop-column l = IsBaseFrom (root_attributes l.unit.forest (declarations_of l.table)) l.name l.column

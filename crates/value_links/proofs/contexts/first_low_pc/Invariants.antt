use Rattle.std.proofs.Common.{◌≡◌, [], take}
use Rattle.std.specs.Prelude.{filter}
use Rattle.entry_read.specs.Units.{declarations_of}
use Rattle.value_links.specs.inside.Checks.{root_attributes}
use Rattle.value_links.specs.Contexts.{is_low_pc}
use Rattle.value_links.proofs.contexts.first_low_pc.Given as goal

abbrev pub invariant-loop-column : goal.invariant-loop-column
invariant-loop-column l = filter is_low_pc (take l.column (root_attributes l.unit.forest (declarations_of l.table))) ≡ []

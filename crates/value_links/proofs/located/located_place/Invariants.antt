use Rattle.std.proofs.Common.{◌≡◌, [], take}
use Rattle.std.specs.Prelude.{filter}
use Rattle.entry_read.specs.Units.{declarations_of}
use Rattle.value_links.specs.Linked.{is_located}
use Rattle.value_links.specs.Links.{held_at}
use Rattle.value_links.specs.inside.Checks.{table_held, attributes_at}
use Rattle.value_links.proofs.located.located_place.Given as goal

abbrev pub invariant-loop-column : goal.invariant-loop-column
invariant-loop-column l = filter is_located (take l.column (attributes_at (held_at l.parts.units.units.items l.unit).forest (declarations_of (table_held l.parts.units l.unit)) l.id)) ≡ []

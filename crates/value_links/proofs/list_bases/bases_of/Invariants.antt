use Rattle.std.proofs.Common.{◌≡◌, ◌<◌, ℕ, length, get_or}
use Rattle.std.specs.Prelude.{None}
use Rattle.entry_read.specs.Units.{declarations_of}
use Rattle.value_links.specs.ListPlaces.{base_of}
use Rattle.value_links.specs.Links.{held_at}
use Rattle.value_links.specs.Parts.{section_held}
use Rattle.value_links.specs.inside.Checks.{table_held, root_attributes}
use Rattle.value_links.specs.inside.ListPlaces.{IsPartFound}
use Rattle.value_links.proofs.list_bases.bases_of.Given as goal

abbrev pub invariant-loop-number : goal.invariant-loop-number
invariant-loop-number l = record {
  counted : length l.bases.items ≡ l.number;
  each : (u : ℕ) → u < l.number → IsPartFound (section_held l.contributions) (root_attributes (held_at l.held.units.items u).forest (declarations_of (table_held l.held u))) (base_of l.kind) (get_or l.bases.items u None);
}

use Rattle.std.proofs.Common.{◌≡◌, ◌<◌, ℕ, length, get_or}
use Rattle.entry_read.specs.Units.{declarations_of}
use Rattle.value_links.specs.Reading.{no_context}
use Rattle.value_links.specs.Contexts.{IsContext}
use Rattle.value_links.specs.Links.{held_at}
use Rattle.value_links.specs.inside.Checks.{table_held, root_attributes}
use Rattle.value_links.proofs.contexts.contexts_of.Given as goal

abbrev pub invariant-loop-number : goal.invariant-loop-number
invariant-loop-number l = record {
  counted : length l.contexts.items ≡ l.number;
  each : (u : ℕ) → u < l.number → IsContext l.addr (root_attributes (held_at l.held.units.items u).forest (declarations_of (table_held l.held u))) (get_or l.contexts.items u no_context);
}

use Rattle.std.proofs.Common.{◌≡◌, ◌<◌, ℕ, length}
use Rattle.entry_read.specs.Expressions.{HasOperations}
use Rattle.value_links.specs.Links.{held_at}
use Rattle.value_links.specs.World.{operations_at}
use Rattle.value_links.proofs.operations.read_operations.Given as goal

abbrev pub invariant-loop-number : goal.invariant-loop-number
invariant-loop-number l = record {
  counted : length l.held.items ≡ l.number;
  each : (u : ℕ) → u < l.number → HasOperations l.reach (held_at l.units.units.items u).forest (operations_at l.held.items u);
}

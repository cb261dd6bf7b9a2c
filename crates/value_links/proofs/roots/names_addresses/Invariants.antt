use Rattle.std.proofs.Common.{◌<◌, ℕ}
use Rattle.value_links.specs.Links.{held_at}
use Rattle.value_links.specs.inside.Checks.{table_held, HasSomeAddrBase}
use Rattle.value_links.proofs.roots.names_addresses.Given as goal

abbrev pub invariant-loop-number : goal.invariant-loop-number
invariant-loop-number l = (u : ℕ) → u < l.number → ¬ HasSomeAddrBase (held_at l.parts.units.units.items u) (table_held l.parts.units u)

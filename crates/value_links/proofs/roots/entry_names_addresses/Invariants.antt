use Rattle.std.proofs.Common.{◌<◌, ◌+◌, ℕ}
use Rattle.entry_arena.specs.Arena.{entry_at, value_at}
use Rattle.entry_read.specs.Units.{declarations_of}
use Rattle.value_links.specs.inside.Checks.{name_at, IsAddrBase}
use Rattle.value_links.proofs.roots.entry_names_addresses.Given as goal

abbrev pub invariant-loop-column : goal.invariant-loop-column
invariant-loop-column l = (k : ℕ) → k < l.column → ¬ IsAddrBase (name_at (declarations_of l.table) (entry_at l.unit.forest.entries l.id) k) (value_at l.unit.forest.values ((entry_at l.unit.forest.entries l.id).first + k))

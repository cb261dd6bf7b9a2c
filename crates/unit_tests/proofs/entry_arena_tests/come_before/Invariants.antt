use Rattle.std.proofs.Common.{◌<◌, ℕ}
use Rattle.entry_arena.specs.Arena.{value_at}
use Rattle.entry_arena.specs.Order.{ComesBefore}
use Rattle.unit_tests.proofs.entry_arena_tests.come_before.Given as goal

abbrev pub invariant-loop-number : goal.invariant-loop-number
invariant-loop-number l = (i : ℕ) → i < l.number → ComesBefore (value_at l.forest.values i) l.next

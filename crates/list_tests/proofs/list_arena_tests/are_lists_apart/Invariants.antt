use Rattle.std.proofs.Common.{ℕ, ◌<◌, get_or}
use Rattle.list_arena.specs.Held.{HeldList}
use Rattle.list_tests.proofs.list_arena_tests.are_lists_apart.Given as goal

abbrev pub invariant-loop-later : goal.invariant-loop-later
invariant-loop-later l = (j : ℕ) → j < l.later → (i : ℕ) (d : HeldList) → i < j → (get_or l.lists i d).at < (get_or l.lists j d).at

abbrev pub invariant-loop-earlier : goal.invariant-loop-earlier
invariant-loop-earlier l = (i : ℕ) (d : HeldList) → i < l.earlier → (get_or l.lists i d).at < (get_or l.lists l.later d).at

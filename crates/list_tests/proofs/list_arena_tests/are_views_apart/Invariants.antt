use Rattle.std.proofs.Common.{ℕ, ◌<◌, get_or}
use Rattle.list_arena.specs.Held.{HeldViews}
use Rattle.list_arena.specs.inside.Views.{IsRunBefore}
use Rattle.list_tests.proofs.list_arena_tests.are_views_apart.Given as goal

abbrev pub invariant-loop-later : goal.invariant-loop-later
invariant-loop-later l = (j : ℕ) → j < l.later → (i : ℕ) (d : HeldViews) → i < j → IsRunBefore (get_or l.views i d) (get_or l.views j d).list (get_or l.views j d).at

abbrev pub invariant-loop-earlier : goal.invariant-loop-earlier
invariant-loop-earlier l = (i : ℕ) (d : HeldViews) → i < l.earlier → IsRunBefore (get_or l.views i d) (get_or l.views l.later d).list (get_or l.views l.later d).at

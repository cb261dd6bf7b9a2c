use Rattle.std.proofs.Common.{◌≡◌, ◌<◌, ℕ, get_or}
use Rattle.loc_lists.specs.declared.views.ViewPair.{ViewPair}
use Rattle.list_arena.specs.Held.{HeldViews}
use Rattle.same_meaning.proofs.values.have_same_pairs.Given as goal

abbrev pub invariant-loop-i : goal.invariant-loop-i
invariant-loop-i l = (k : ℕ) (d : HeldViews) (e : ViewPair) → k < l.i → get_or (get_or l.before l.first d).pairs k e ≡ get_or (get_or l.after l.second d).pairs k e

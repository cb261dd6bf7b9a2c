-- What a binary search passes.
use Rattle.std.proofs.Common.{◌≡◌, ◌≤◌, ◌<◌, ◌+◌, ℕ, List, length, get_or, subst, arith, below_more, ⊎_elim}
use Rattle.std.specs.Prelude.{◌⊎◌}
use Rattle.std.proofs.lemmas.Bool.{cases_lt}
use Rattle.list_arena.specs.Held.{HeldList, HeldViews, AreListsApart, ViewsRise}
use Rattle.list_arena.specs.inside.Views.{IsRunBefore, IsRunBehind}

-- lists up to one that begins before a place do so too
pub lists_below : (lists : List HeldList) (at m : ℕ) → AreListsApart lists → m < length lists → ((d : HeldList) → (get_or lists m d).at < at) → (k : ℕ) (d : HeldList) → k < m + 1 → (get_or lists k d).at < at
lists_below lists at m apart inside here k d before =
    below_more (λ j. (get_or lists j d).at < at) m (λ j h. omega (arith, apart j m d h inside, here d)) (here d) k before

run_before : (first second : HeldViews) (list at : ℕ) → (first.list < second.list) ⊎ ((first.list ≡ second.list) × (first.at < second.at)) → IsRunBefore second list at → IsRunBefore first list at
run_before first second list at order before = grind arith

run_behind : (first second : HeldViews) (list at : ℕ) → (first.list < second.list) ⊎ ((first.list ≡ second.list) × (first.at < second.at)) → IsRunBehind first list at → IsRunBehind second list at
run_behind first second list at order behind = grind arith

-- runs up to one that comes before another do so too
pub runs_below : (runs : List HeldViews) (list at m : ℕ) → ViewsRise runs → m < length runs → ((d : HeldViews) → IsRunBefore (get_or runs m d) list at) → (k : ℕ) (d : HeldViews) → k < m + 1 → IsRunBefore (get_or runs k d) list at
runs_below runs list at m apart inside here k d before =
    below_more (λ j. IsRunBefore (get_or runs j d) list at) m (λ j h. run_before (get_or runs j d) (get_or runs m d) list at (apart j m d h inside) (here d)) (here d) k before

-- and runs from one on that comes behind it
pub runs_above : (runs : List HeldViews) (list at m : ℕ) → ViewsRise runs → ((d : HeldViews) → IsRunBehind (get_or runs m d) list at) → (k : ℕ) (d : HeldViews) → m ≤ k → k < length runs → IsRunBehind (get_or runs k d) list at
runs_above runs list at m apart here k d from inside =
    ⊎_elim (λ (more : m < k). run_behind (get_or runs m d) (get_or runs k d) list at (apart m k d more inside) (here d))
    (λ (less : k ≤ m). let same : m ≡ k = omega arith in subst (λ (j : ℕ). IsRunBehind (get_or runs j d) list at) same (here d))
    (cases_lt m k)

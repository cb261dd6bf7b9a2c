-- What a walk from the last item to the first knows.
use Rattle.std.specs.Prelude.{◌≤◌, ◌<◌, ℕ, List, length, drop}
use Rattle.list_model.specs.declared.context.Context.{Context}
use Rattle.list_model.specs.Items.{Bounds}
use Rattle.list_model.specs.Potentials.{AcceptsAt}
use Rattle.list_least.specs.declared.tail.Tail.{Tail}
use Rattle.list_least.specs.Tails.{IsTailOf}

-- the first place from one on that hasn't this, or the count of places where each of them has it
pub record IsFirstFrom (Holds : ℕ → Type 0) (from count first : ℕ) : Type 0 where
  pub above : from ≤ first
  pub within : first ≤ count
  pub before : (i : ℕ) → from ≤ i → i < first → Holds i
  pub fails : first < count → ¬ Holds first

-- the potentials of the items from one on are judged
pub record AreJudged (addr : List ℕ) (context : Context) (items : List Bounds) (potentials : List ℕ) (from first : ℕ) (tail : Tail) : Type 0 where
  pub inside : from ≤ length items
  pub tail_of : IsTailOf addr context (drop from items) (drop from potentials) tail
  pub first_is : IsFirstFrom (AcceptsAt addr context items potentials) from (length items) first

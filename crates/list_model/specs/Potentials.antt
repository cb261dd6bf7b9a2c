-- The record that shows why no list is shorter: for each item a potential, the fewest bytes from there on where a base is set
-- before it. The end of a list has the potential 1.
use Rattle.std.specs.Prelude.{◌≡◌, ◌≤◌, ◌<◌, ◌+◌, ◌^◌, ℕ, List, [], ◌∷◌, length, take, drop}
use Rattle.leb_codec.specs.LineCosts.{IsLeastCost}
use Rattle.list_model.specs.declared.context.Context.{Context}
use Rattle.list_model.specs.Items.{Bounds}
use Rattle.list_model.specs.Costs.{BaseWithin, ItemsWithin}

-- the first of some potentials, or that of the end
abbrev pub potential : List ℕ → ℕ
potential [] = 1
potential (p ∷ ps) = p

-- n bytes are enough for some of the items under one base, and for the potential of what follows these
pub record OnFrom (addr : List ℕ) (context : Context) (base : ℕ) (items : List Bounds) (potentials : List ℕ) (n : ℕ) : Type 0 where
  pub taken : ℕ
  pub bytes : ℕ
  pub within : taken ≤ length items
  pub enough : ItemsWithin addr context base (take taken items) bytes
  pub sum : bytes + potential (drop taken potentials) ≤ n

-- The first potential is accepted: whatever base is set before the first item, and however many items stay under it, it is no
-- more than what these and the potential behind them cost.
abbrev pub AcceptsFirst : List ℕ → Context → List Bounds → List ℕ → Type 0
AcceptsFirst addr context items potentials =
    (base n taken bytes : ℕ) → base < 2 ^ 64 → BaseWithin addr context base n → 0 < taken → taken ≤ length items →
    ItemsWithin addr context base (take taken items) bytes → potential potentials ≤ n + bytes + potential (drop taken potentials)

-- the potential of an item is accepted; items count from 0
abbrev pub AcceptsAt : List ℕ → Context → List Bounds → List ℕ → ℕ → Type 0
AcceptsAt addr context items potentials i = AcceptsFirst addr context (drop i items) (drop i potentials)

-- the size of a list is accepted: it is the least of what some items under the first base and the potential behind them cost
abbrev pub AcceptsSize : List ℕ → Context → List Bounds → List ℕ → ℕ → Type 0
AcceptsSize addr context items potentials = IsLeastCost (OnFrom addr context context.base items potentials)

-- a list's record is accepted: a potential for each item, each accepted, and the size
pub record AcceptsList (addr : List ℕ) (context : Context) (items : List Bounds) (potentials : List ℕ) (size : ℕ) : Type 0 where
  pub each : length potentials ≡ length items
  pub accepted : (i : ℕ) → i < length items → AcceptsAt addr context items potentials i
  pub of_size : AcceptsSize addr context items potentials size

-- Each potential is the greatest that is accepted before those behind it.
abbrev pub AreGreatest : List ℕ → Context → List Bounds → List ℕ → Type 0
AreGreatest addr context [] potentials = potentials ≡ []
AreGreatest addr context (item ∷ items) [] = ⊥
AreGreatest addr context (item ∷ items) (p ∷ ps) =
    AcceptsFirst addr context (item ∷ items) (p ∷ ps)
    × ((q : ℕ) → AcceptsFirst addr context (item ∷ items) (q ∷ ps) → q ≤ p)
    × AreGreatest addr context items ps

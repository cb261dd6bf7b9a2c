-- How indexes are looked up in the map of an address table, or by a walk over the table.
-- Inner functions and proofs alone need what stands here.
use Rattle.std.specs.Prelude.{◌≡◌, ◌≤◌, ◌<◌, ℕ, List, [], ◌∷◌, length, ◌++◌, Option, MatchOption, zero, suc, slice_index}
use Rattle.list_model.specs.declared.tables.AddrTable.{AddrTable}
use Rattle.list_model.specs.Addresses.{address_of}
use Rattle.list_model.specs.declared.context.Context.{Context}
use Rattle.list_model.specs.Items.{IsIndexed}
use Rattle.list_least.specs.Maps.{HasNoIndex, IsLeastIndex, pair_at}

-- the first addresses of a table, and their indexes
abbrev pub addresses_among : List ℕ → AddrTable → ℕ → List (ℕ × ℕ)
addresses_among addr table zero = []
addresses_among addr table (suc n) = addresses_among addr table n ++ (address_of addr table n, n) ∷ []

-- the indexes of the first pairs
pub record AreLeaves (pairs : List (ℕ × ℕ)) (leaves : List ℕ) (n : ℕ) : Type 0 where
  pub size : length leaves ≡ n
  pub each : (i : ℕ) → i < n → slice_index leaves i ≡ (pair_at pairs i).1

-- the least number of some
pub record IsLeastOf (tree : List ℕ) (from to best : ℕ) : Type 0 where
  pub at : ℕ
  pub above : from ≤ at
  pub below : at < to
  pub is : slice_index tree at ≡ best
  pub least : (i : ℕ) → from ≤ i → i < to → best ≤ slice_index tree i

-- a number of a tree is one of these
abbrev pub IsOneOf : List ℕ → ℕ → ℕ → ℕ → Type 0
IsOneOf tree from to x = (i : ℕ) × (from ≤ i) × (i < to) × (slice_index tree i ≡ x)

-- The least of some numbers of a tree is the least of one number and of others farther behind.
pub record IsNarrowed (tree : List ℕ) (from to low high best : ℕ) : Type 0 where
  pub inside : high ≤ length tree
  pub one : IsOneOf tree from to best
  pub each : (i : ℕ) → low ≤ i → i < high → IsOneOf tree from to (slice_index tree i)
  pub least : (x : ℕ) → x ≤ best → ((i : ℕ) → low ≤ i → i < high → x ≤ slice_index tree i) → (i : ℕ) → from ≤ i → i < to → x ≤ slice_index tree i

-- no index below this one is that of an address from one up to another
abbrev pub HasNoneBefore : List ℕ → Context → ℕ → ℕ → ℕ → Type 0
HasNoneBefore addr context from to before = (index address : ℕ) → index < before → IsIndexed addr context index address → from ≤ address → address ≤ to → ⊥

-- an index of an address: the least one, or none where there is none
abbrev pub IsIndexOf : List ℕ → Context → ℕ → Option ℕ → Type 0
IsIndexOf addr context address index = MatchOption index (HasNoIndex addr context address address) (IsLeastIndex addr context address address)

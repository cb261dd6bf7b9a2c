-- Where the record of a list is refused.
use Rattle.std.specs.Prelude.{◌≡◌, ◌<◌, ◌⊎◌, ℕ, List, length}
use Rattle.list_model.specs.declared.context.Context.{Context}
use Rattle.list_model.specs.Items.{Bounds}
use Rattle.list_model.specs.Potentials.{AcceptsAt, AcceptsSize}

-- There isn't a potential for each item. That is a fault of place 0.
pub record HasOtherCount (items : List Bounds) (potentials : List ℕ) (place : ℕ) : Type 0 where
  pub other : ¬ (length potentials ≡ length items)
  pub zero : place ≡ 0

-- a place is the first whose potential isn't accepted
pub record IsRefusedItem (addr : List ℕ) (context : Context) (items : List Bounds) (potentials : List ℕ) (place : ℕ) : Type 0 where
  pub each : length potentials ≡ length items
  pub there : place < length items
  pub refused : ¬ AcceptsAt addr context items potentials place
  pub before : (i : ℕ) → i < place → AcceptsAt addr context items potentials i

-- The potentials are accepted, and the size isn't. That is a fault of the place past the last item.
pub record HasOtherSize (addr : List ℕ) (context : Context) (items : List Bounds) (potentials : List ℕ) (size place : ℕ) : Type 0 where
  pub each : length potentials ≡ length items
  pub accepted : (i : ℕ) → i < length items → AcceptsAt addr context items potentials i
  pub refused : ¬ AcceptsSize addr context items potentials size
  pub past : place ≡ length items

-- the first place by which a record is refused
abbrev pub IsFirstRefused : List ℕ → Context → List Bounds → List ℕ → ℕ → ℕ → Type 0
IsFirstRefused addr context items potentials size place =
    HasOtherCount items potentials place ⊎ IsRefusedItem addr context items potentials place ⊎ HasOtherSize addr context items potentials size place

-- The location lists that the units of a file own: those that an entry of the unit names, and none of a unit before (DWARF 5 section 2.6.2).
use Rattle.std.specs.Prelude.{◌≡◌, ◌<◌, ℕ, List, [], length, slice_index_or, Some}
use Rattle.list_lookup.specs.declared.owned.Owned.{Owned}
use Rattle.list_arena.specs.Held.{HeldList}
use Rattle.written_files.specs.Layouts.{AreNumbersOf}
use Rattle.value_links.specs.World.{World}

-- the location list with a number is held as one that the unit owns
abbrev pub IsOwnedBy : World → ℕ → ℕ → Type 0
IsOwnedBy world u k = (d : HeldList) → (slice_index_or world.locations k d).owner ≡ Some u

-- the numbers of those among the first so many that the unit owns
abbrev pub AreOwnedUpTo : World → ℕ → ℕ → List ℕ → Type 0
AreOwnedUpTo world count u numbers = AreNumbersOf (IsOwnedBy world u) count numbers

-- those of all
abbrev pub AreOwnedIn : World → ℕ → List ℕ → Type 0
AreOwnedIn world u numbers = AreOwnedUpTo world (length world.locations) u numbers

-- none of so many units owns a list yet
pub record OwnNothing (units : ℕ) (all : List Owned) : Type 0 where
  pub count : length all ≡ units
  pub none : (u : ℕ) (d : Owned) → u < length all → (slice_index_or all u d).lists.items ≡ []

-- for each unit those that it owns among the first so many
pub record AreAllOwned (world : World) (count : ℕ) (all : List Owned) : Type 0 where
  pub units : length all ≡ length world.units
  pub each : (u : ℕ) (d : Owned) → u < length all → AreOwnedUpTo world count u (slice_index_or all u d).lists.items

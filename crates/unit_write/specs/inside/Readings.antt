-- What parts of the two calls give: what stands next in a unit, and where it is placed.
use Rattle.std.specs.Prelude.{◌≡◌, ◌<◌, ◌+◌, ℕ, List, [], ◌∷◌, ◌++◌, length, Option, Some, None}
use Rattle.std.specs.List.{All}
use Rattle.spelled.specs.Spelled.{AreBytes}
use Rattle.form_codec.specs.declared.value.Value.{Value}
use Rattle.form_codec.specs.Values.{IsValueIn}
use Rattle.abbrev_tables.specs.Tables.{Declared}
use Rattle.entry_arena.specs.Arena.{Arena, entry_at, chain_end_at, with_values}
use Rattle.entry_arena.specs.Trees.{Listed, listed_to}
use Rattle.entry_arena.specs.Walks.{Item}
use Rattle.entry_arena.specs.Onward.{HasWalked, EntryIsNext, EndIsNext, IsWalked}
use Rattle.unit_write.specs.declared.items.Items.{Items}
use Rattle.unit_write.specs.declared.items.Next.{Next}
use Rattle.unit_write.specs.declared.places.Places.{Places}
use Rattle.unit_write.specs.declared.items.Next.TheVariants.{Entry as TheEntry, End as TheEnd}

-- A code 0 stands first of all that isn't done.
abbrev pub IsEndNext : Arena → Items → Type 0
IsEndNext f at = (at.ends < length f.ends) × (at.entries < length f.entries → (chain_end_at f.ends at.ends).at < (entry_at f.entries at.entries).at)

-- A front of a whole walk over what is held goes on with this, or has come to its end. Before it so many entries and codes 0
-- were listed, and with it so many are.
abbrev pub IsNext : Arena → List Declared → ℕ → ℕ → List Item → Listed → List ℕ → List Item → Items → Items → Option Next → Type 0
IsNext f ds start place items now chains rest old new None = (new ≡ old) × IsWalked (listed_to f place) old.entries old.ends now chains rest
IsNext f ds start place items now chains rest old new (Some (TheEntry id)) = (id ≡ old.entries) × (new ≡ record { entries = old.entries + 1; ends = old.ends }) × EntryIsNext f.section ds start (listed_to f place) old.entries old.ends items now chains rest
IsNext f ds start place items now chains rest old new (Some TheEnd) = (new ≡ record { entries = old.entries; ends = old.ends + 1 }) × EndIsNext f.section ds start (listed_to f place) old.entries old.ends items now chains rest

-- whatever walk it is, and whatever values the section has where others are taken for them
abbrev pub GoesOn : Arena → Items → Items → Option Next → Type 0
GoesOn f old new next =
    (values : List Value) (ds : List Declared) (start place : ℕ) (items : List Item) (now : Listed) (chains : List ℕ) (rest : List Item) → HasWalked f.section ds start (listed_to (with_values f values) place) old.entries old.ends items now chains rest → IsNext (with_values f values) ds start place items now chains rest old new next

-- the values lie in the section, which is one of bytes
abbrev pub AreStanding : List ℕ → List Value → Type 0
AreStanding section values = AreBytes section → All (IsValueIn section) values

-- What stands next is held.
abbrev pub HasItem : Arena → Next → Type 0
HasItem f (TheEntry id) = id < length f.entries
HasItem f TheEnd = Unit {0}

-- It has its place behind all others, and the places go on behind it.
abbrev pub PutsItem : (ℕ → ℕ → Type 0) → Next → Places → Places → Type 0
PutsItem Size (TheEntry id) old new = (new.entries.items ≡ old.entries.items ++ old.end ∷ []) × (new.ends.items ≡ old.ends.items) × ((size : ℕ) → Size id size → new.end ≡ old.end + size)
PutsItem Size TheEnd old new = (new.entries.items ≡ old.entries.items) × (new.ends.items ≡ old.ends.items ++ old.end ∷ []) × (new.end ≡ old.end + 1)

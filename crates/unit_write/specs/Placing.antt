-- Where the entries of a unit and the codes 0 that end chains stand when they are written anew, one after the other.
use Rattle.std.specs.Prelude.{◌≡◌, ◌≢◌, ◌<◌, ◌+◌, ◌-◌, ℕ, suc, List, [], ◌∷◌, length, slice_index, take, drop}
use Rattle.leb_codec.specs.Leb.{least_unsigned_len}
use Rattle.form_codec.specs.declared.value.Value.{Value}
use Rattle.abbrev_tables.specs.declared.decl.Spec.{Spec}
use Rattle.abbrev_tables.specs.Tables.{Declared}
use Rattle.abbrev_tables.specs.Listings.{Listing, decl_at, declared_in}
use Rattle.abbrev_tables.specs.Written.{numbered_as}
use Rattle.entry_arena.specs.Arena.{Arena, entry_at}
use Rattle.entry_arena.specs.Trees.{declared_at}
use Rattle.entry_arena.specs.Walks.{Item}
use Rattle.entry_arena.specs.Walks.Item.{AnEntry, AnEnd}
use Rattle.unit_write.specs.Values.{HaveSize}

-- the new columns of the declaration with a number, where these are the new ones of the whole table
abbrev pub columns_of : Listing → List Spec → ℕ → List Spec
columns_of table columns number = (declared_in columns (decl_at table.decls number)).columns

-- the values of an entry
abbrev pub values_in : Arena → ℕ → List Value
values_in f id = take (entry_at f.entries id).count (drop (entry_at f.entries id).first f.values)

-- what stands for the values of an entry in a list that has one for each value
abbrev pub among_values : {A : Type 0} → Arena → List A → ℕ → List A
among_values f items id = take (entry_at f.entries id).count (drop (entry_at f.entries id).first items)

-- So many bytes are written for an entry: the new code of its declaration, and its values in the new columns. `lens` has the bytes of
-- each value that is an expression or a reference within the unit.
abbrev pub EntrySize : Listing → List Spec → List ℕ → Arena → List ℕ → ℕ → ℕ → Type 0
EntrySize table columns numbers f lens id size =
    (rest : ℕ) × HaveSize f.section (columns_of table columns (entry_at f.entries id).decl) (values_in f id) (among_values f lens id) rest × (size ≡ least_unsigned_len (slice_index numbers (entry_at f.entries id).decl) + rest)

-- The items of a walk stand one after the other from a place up to another, the entries and the ends of chains at these
-- places. A code 0 has one byte. The first entry is the one with the number `id`.
abbrev pub ArePlaced : (ℕ → ℕ → Type 0) → ℕ → List Item → ℕ → List ℕ → List ℕ → ℕ → Type 0
ArePlaced Size id [] at [] [] to = at ≡ to
ArePlaced Size id (AnEntry number ∷ items) at (place ∷ entries) ends to = (place ≡ at) × ((size : ℕ) × Size id size × ArePlaced Size (suc id) items (at + size) entries ends to)
ArePlaced Size id (AnEnd ∷ items) at entries (place ∷ ends) to = (place ≡ at) × ArePlaced Size id items (at + 1) entries ends to
ArePlaced _ _ _ _ _ _ _ = ⊥

-- a law: the items of a walk have one place each
abbrev pub OnePlacing : Type 0
OnePlacing =
    (table : Listing) (columns : List Spec) (numbers : List ℕ) (f : Arena) (lens : List ℕ) (id at : ℕ) (items : List Item) (entries others ends other_ends : List ℕ) (to other : ℕ) → ArePlaced (EntrySize table columns numbers f lens) id items at entries ends to → ArePlaced (EntrySize table columns numbers f lens) id items at others other_ends other → (entries ≡ others) × (ends ≡ other_ends) × (to ≡ other)

-- The new table has each used declaration at its new number less 1, with its new columns. A declaration isn't used where
-- its new number is 0.
pub record IsRenumbered (table : Listing) (columns : List Spec) (numbers : List ℕ) (ds : List Declared) : Type 0 where
  pub each : (number : ℕ) → number < length table.decls → slice_index numbers number ≢ 0 → (slice_index numbers number - 1 < length ds) × (declared_at ds (slice_index numbers number - 1) ≡ numbered_as (slice_index numbers number) (decl_at table.decls number) (columns_of table columns number))

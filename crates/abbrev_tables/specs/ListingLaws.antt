-- Laws of tables as they are held.
use Rattle.std.specs.Prelude.{◌≡◌, ◌+◌, ℕ, List, ◌++◌, length}
use Rattle.abbrev_tables.specs.Tables.{Declared, SpellsTable}
use Rattle.abbrev_tables.specs.Listings.{Listing, declarations_in, IsTableAt}

-- A table that stands at a place is held in one way.
abbrev pub OneListing : Type 0
OneListing = (section : List ℕ) (at : ℕ) (t u : Listing) → IsTableAt section at t → IsTableAt section at u → t ≡ u

-- All that is spelled can be held.
abbrev pub TablesAreListed : Type 0
TablesAreListed =
    (ds : List Declared) (front bytes rest : List ℕ) → SpellsTable ds bytes → (t : Listing) × IsTableAt (front ++ (bytes ++ rest)) (length front) t × (declarations_in t.specs t.decls ≡ ds) × (t.end ≡ length front + length bytes)

-- The outlines of declarations as they are held to be compared.
use Rattle.std.specs.Prelude.{◌≡◌, ◌<◌, ℕ, List, [], length, map, slice_index, slice_index_or}
use Rattle.std.specs.declared.cmp.Ordering.{Ordering}
use Rattle.std.specs.Ordering.{nat_cmp, bool_cmp, then_cmp, on, is_lt}
use Rattle.std.specs.Cmp.Lexicographic.{slice_cmp}
use Rattle.std.specs.List.Sorted.{IsPermutation, IsSortedBy}
use Rattle.abbrev_tables.specs.Listings.{Listing}
use Rattle.abbrev_tables.specs.Tables.{Declared}
use Rattle.entry_read.specs.Units.{declarations_of}
use Rattle.value_links.specs.declared.units.NamedTable.{NamedTable}
use Rattle.value_links.specs.World.{table_at}
use Rattle.tidy_tables.specs.declared.outlines.Outline.{Outline as Held}
use Rattle.tidy_tables.specs.declared.outlines.Outlines.{Outlines}
use Rattle.tidy_tables.specs.declared.uses.Uses.{Uses}
use Rattle.tidy_tables.specs.Untidy.{Outline, outlines_of, used_among}
use Rattle.tidy_tables.specs.inside.UseCounts.{counts_in}

-- an outline, of which the names are held in a list
abbrev pub outline_held : Held → Outline
outline_held o = record { tag = o.tag; children = o.children; names = o.names.items }

abbrev pub outlines_held : List Held → List Outline
outlines_held os = map outline_held os

-- outlines are sorted by tag, by whether there are children, and by the names of columns
abbrev pub outline_order : Outline → Outline → Ordering
outline_order = then_cmp (on (λ (o : Outline). o.tag) nat_cmp) (then_cmp (on (λ (o : Outline). o.children) bool_cmp) (on (λ (o : Outline). o.names) (slice_cmp nat_cmp)))

abbrev pub AreInOrder : List Held → Type 0
AreInOrder held = IsSortedBy (λ (x y : Held). is_lt (outline_order (outline_held x) (outline_held y))) held

-- the outlines of some declarations, sorted
pub record AreSorted (ds : List Declared) (held : List Held) : Type 0 where
  pub moved : IsPermutation (outlines_of ds) (outlines_held held)
  pub order : AreInOrder held

-- those of the table with a number; past the end there are none
abbrev pub sorted_in : List Outlines → ℕ → List Held
sorted_in all i = slice_index_or (map (λ (o : Outlines). o.sorted.items) all) i []

-- of each of the first so many tables the outlines of its declarations, sorted
pub record AreAllSorted (tables : List NamedTable) (count : ℕ) (all : List Outlines) : Type 0 where
  pub size : length all ≡ count
  pub each : (i : ℕ) → i < count → AreSorted (declarations_of (table_at tables i).table) (sorted_in all i)

-- the outlines of the declarations of a table that have uses, and of all declarations of another, are the same in some order
abbrev pub AreUsedIn : Listing → List ℕ → Listing → Type 0
AreUsedIn old uses new = IsPermutation (outlines_of (used_among (declarations_of old) uses)) (outlines_of (declarations_of new))

-- the table as which the one with a number is written has other declarations than those of it that have uses
abbrev pub IsWrittenOtherwise : List NamedTable → List Uses → List ℕ → List NamedTable → ℕ → Type 0
IsWrittenOtherwise old all written new k = ¬ AreUsedIn (table_at old k).table (counts_in all k) (table_at new (slice_index written k)).table

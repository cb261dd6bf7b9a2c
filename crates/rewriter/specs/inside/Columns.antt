-- Inner contracts: the values of the columns of a table, as they are gathered, unit by unit, and in a unit entry by entry.
use Rattle.std.specs.Prelude.{◌≡◌, ◌≤◌, ◌<◌, ◌+◌, ◌-◌, ◌^◌, ◌&&◌, ◌++◌, ◌⊎◌, pos, ℕ, zero, suc, Bool, List, [], ◌∷◌, length, map, slice_index, slice_index_or, nat_eq, nat_le, nat_lt, if◌then◌else◌, flat_map, Option}
use Rattle.std.specs.List.{sum_by}
use Rattle.dw_base.specs.declared.classes.Classes.{Classes}
use Rattle.form_codec.specs.declared.form.Form.TheVariants.{RefAddr, RefUdata}
use Rattle.form_codec.specs.declared.value.Value.{Value}
use Rattle.form_codec.specs.Forms.{Meaning, code_of}
use Rattle.form_codec.specs.Values.{meant_in}
use Rattle.abbrev_tables.specs.declared.decl.Decl.{Decl}
use Rattle.abbrev_tables.specs.declared.decl.Spec.{Spec}
use Rattle.abbrev_tables.specs.Listings.{Listing, decl_at, spec_at}
use Rattle.column_forms.specs.Tallies.{Tallying}
use Rattle.column_forms.specs.TableColumns.{AreTalliesOf, AreBestFor}
use Rattle.entry_arena.specs.declared.entry.Entry.{Entry}
use Rattle.entry_arena.specs.Arena.{value_at}
use Rattle.entry_read.specs.declared.head.UnitHead.{UnitHead}
use Rattle.entry_read.specs.Units.{HeadAndForest, declarations_of, IsUnitHeld, entry_limit}
use Rattle.written_files.specs.Uses.{are_inside}
use Rattle.rewriter.specs.declared.columns.Namers.{Namers}
use Rattle.rewriter.specs.declared.inside_columns.Seen.{Seen}
use Rattle.rewriter.specs.declared.inside_columns.Seen.TheVariants.{Nothing, Inside, Outside}
use Rattle.rewriter.specs.inside.Placed.{unit_in}

-- the numbers of those of the first so many units that have the table with a number, in their order
abbrev pub units_with : List ℕ → ℕ → ℕ → List ℕ
units_with table_of i zero = []
units_with table_of i (suc n) = if nat_eq (slice_index table_of n) i then units_with table_of i n ++ n ∷ [] else units_with table_of i n

-- the units that are listed for the table with a number; past the end there are none
abbrev pub namers_in : List Namers → ℕ → List ℕ
namers_in all i = slice_index_or (map (λ (namers : Namers). namers.units.items) all) i []

-- for each of so many tables those of the first so many units that have it
pub record AreNamers (table_of : List ℕ) (tables units : ℕ) (all : List Namers) : Type 0 where
  pub count : length all ≡ tables
  pub each : (i : ℕ) → i < tables → namers_in all i ≡ units_with table_of i units

-- a declaration has the column with a number among those of its table
abbrev pub has_column : Decl → ℕ → Bool
has_column decl k = nat_le decl.first k && nat_lt k (decl.first + decl.count)

-- the value of an entry in the column with a number, if its declaration has that column
abbrev pub value_in_column : List Decl → List Value → ℕ → Entry → List Value
value_in_column decls values k e = if has_column (decl_at decls e.decl) k then value_at values (e.first + (k - (decl_at decls e.decl).first)) ∷ [] else []

-- those of entries, which have these values
abbrev pub values_in_column : List Decl → List Value → List Entry → ℕ → List Value
values_in_column decls values entries k = flat_map (value_in_column decls values k) entries

-- those of all entries of listed units
abbrev pub values_of_units : List HeadAndForest → List Decl → List ℕ → ℕ → List Value
values_of_units units decls named k = flat_map (λ (u : ℕ). values_in_column decls (unit_in units u).forest.values (unit_in units u).forest.entries k) named

-- each column has the values of some entries behind those that it had
abbrev pub with_entries : List Decl → List Value → List Entry → (ℕ → List Value) → ℕ → List Value
with_entries decls values entries before k = before k ++ values_in_column decls values entries k

-- the names of columns, by their numbers
abbrev pub names_of : List Spec → ℕ → ℕ
names_of specs k = (spec_at specs k).name

-- so many more values of each column, which have these names, can be counted
pub record HaveRoomFor (names : ℕ → ℕ) (section : List ℕ) (tallies : List (Option Tallying)) (more : ℕ) : Type 0 where
  pub before : ℕ → List Value
  pub tallied : AreTalliesOf section names before tallies
  pub few : (k : ℕ) → length (before k) + more < 2 ^ 63

-- the values of some entries of a unit are counted, each in its column, of which these are the names
pub record AddsEntries (names : ℕ → ℕ) (decls : List Decl) (unit : HeadAndForest) (entries : List Entry) (old new : List (Option Tallying)) : Type 0 where
  pub count : length new ≡ length old
  pub added : (before : ℕ → List Value) → AreTalliesOf unit.forest.section names before old → AreTalliesOf unit.forest.section names (with_entries decls unit.forest.values entries before) new

-- The listed units have entries by the declarations of a table, all in one section, and no more than a file may have.
pub record AreUnitsOf (units : List HeadAndForest) (table : Listing) (named : List ℕ) (section : List ℕ) : Type 0 where
  pub known : (n : ℕ) → n < length named → slice_index named n < length units
  pub held : (n : ℕ) → n < length named → IsUnitHeld section (unit_in units (slice_index named n)).head (declarations_of table) (unit_in units (slice_index named n)).forest
  pub lent : (n : ℕ) → n < length named → (unit_in units (slice_index named n)).forest.section ≡ section
  pub few : sum_by (λ (u : ℕ). length (unit_in units u).forest.entries) named ≤ entry_limit

-- the values of all columns of a table are counted, over some of the units that are listed
pub record AreGathered (units : List HeadAndForest) (table : Listing) (named some : List ℕ) (tallies : List (Option Tallying)) : Type 0 where
  pub count : length tallies ≡ length table.specs
  pub tallied : (section : List ℕ) → AreUnitsOf units table named section → AreTalliesOf section (names_of table.specs) (values_of_units units table.decls some) tallies

-- REFERENCES TO PLACES IN THEIR OWN UNITS

-- what values of a unit mean, each with the header of the unit
abbrev pub with_head : HeadAndForest → List Value → List (UnitHead × Meaning)
with_head unit values = map (λ (v : Value). (unit.head, meant_in unit.forest.section v)) values

-- the values that a column has in listed units
abbrev pub meanings_of_units : List HeadAndForest → List Decl → List ℕ → ℕ → List (UnitHead × Meaning)
meanings_of_units units decls named k = flat_map (λ (u : ℕ). with_head (unit_in units u) (values_in_column decls (unit_in units u).forest.values (unit_in units u).forest.entries k)) named

-- what is held of a column with these values
abbrev pub seen_of : List (UnitHead × Meaning) → Seen
seen_of [] = Nothing
seen_of (v ∷ vs) = if are_inside (v ∷ vs) then Inside else Outside

abbrev pub seen_at : List Seen → ℕ → Seen
seen_at seen k = slice_index_or seen k Nothing

-- so many columns are seen, which have these values, each column by its number
pub record AreSeen (count : ℕ) (values : ℕ → List (UnitHead × Meaning)) (seen : List Seen) : Type 0 where
  pub size : length seen ≡ count
  pub each : (k : ℕ) → k < length seen → seen_at seen k ≡ seen_of (values k)

-- the values of some entries of a unit are seen, each in its column
pub record SeesEntries (decls : List Decl) (unit : HeadAndForest) (entries : List Entry) (old new : List Seen) : Type 0 where
  pub count : length new ≡ length old
  pub seen : (before : ℕ → List (UnitHead × Meaning)) → AreSeen (length old) before old → AreSeen (length old) (λ (k : ℕ). before k ++ with_head unit (values_in_column decls unit.forest.values entries k)) new

-- the values of a row are seen in columns, from one on
pub record SeesRow (first : ℕ) (row : List (UnitHead × Meaning)) (before after : ℕ → List (UnitHead × Meaning)) : Type 0 where
  pub each : (j : ℕ) (d : UnitHead × Meaning) → j < length row → after (first + j) ≡ before (first + j) ++ slice_index_or row j d ∷ []
  pub others : (k : ℕ) → (k < first) ⊎ (first + length row ≤ k) → after k ≡ before k

-- a column of references within units
abbrev pub inside_column : Spec → Spec
inside_column column = record { name = column.name; form = code_of RefUdata; constant = pos 0 }

-- A column of DW_FORM_ref_addr becomes one of these where all its values, and it has some, name places in their own units.
abbrev pub column_inside : List (UnitHead × Meaning) → Spec → Spec
column_inside [] column = column
column_inside (v ∷ vs) column = if are_inside (v ∷ vs) && nat_eq column.form (code_of RefAddr) then inside_column column else column

-- this is done with each column
pub record AreInside (values : ℕ → List (UnitHead × Meaning)) (old new : List Spec) : Type 0 where
  pub count : length new ≡ length old
  pub each : (k : ℕ) → k < length old → spec_at new k ≡ column_inside (values k) (spec_at old k)

-- The columns of a table are the best for the values of listed units, and then references to places in their own units are taken as ones
-- within these.
pub record AreBestInside (classes : Classes) (section : List ℕ) (units : List HeadAndForest) (decls : List Decl) (named : List ℕ) (old new : List Spec) : Type 0 where
  pub best : List Spec
  pub are : AreBestFor classes section (values_of_units units decls named) old best
  pub inside : AreInside (meanings_of_units units decls named) best new

-- The values of the columns of an abbreviation table, as they are gathered, unit by unit, and in a unit entry by entry.
use Rattle.std.specs.Prelude.{◌≡◌, ◌≤◌, ◌<◌, ◌+◌, ◌-◌, ◌^◌, ◌&&◌, ◌++◌, ◌⊎◌, ℕ, Bool, false, List, [], ◌∷◌, length, map, slice_index_or, nat_le, nat_lt, if◌then◌else◌, flat_map}
use Rattle.std.specs.List.{sum_by}
use Rattle.form_codec.specs.declared.value.Value.{Value}
use Rattle.form_codec.specs.Forms.{Meaning}
use Rattle.form_codec.specs.Values.{meant_in}
use Rattle.abbrev_tables.specs.declared.decl.Decl.{Decl}
use Rattle.abbrev_tables.specs.Listings.{Listing, decl_at, spec_at}
use Rattle.column_forms.specs.TableColumns.{AreTalliesOf, HaveAtMost}
use Rattle.entry_arena.specs.declared.entry.Entry.{Entry}
use Rattle.entry_arena.specs.Arena.{value_at}
use Rattle.entry_read.specs.declared.head.UnitHead.{UnitHead}
use Rattle.entry_read.specs.Units.{HeadAndForest}
use Rattle.written_files.specs.Uses.{are_inside, names_inside}
use Rattle.tidy_tables.specs.declared.column_values.ColumnValues.{ColumnValues}
use Rattle.tidy_tables.specs.inside.TableNamers.{unit_in, entries_of, AreUnitsOf}

-- VALUES

-- a value with the header of its unit
abbrev pub Headed : Type 0
Headed = UnitHead × Value

-- values of a unit
abbrev pub headed : UnitHead → List Value → List Headed
headed head values = map (λ (v : Value). (head, v)) values

abbrev pub without_heads : List Headed → List Value
without_heads values = map (λ (v : Headed). v.1) values

-- what they mean in their section, each with the header of its unit
abbrev pub meant_with_heads : List ℕ → List Headed → List (UnitHead × Meaning)
meant_with_heads section values = map (λ (v : Headed). (v.0, meant_in section v.1)) values

-- a declaration has the column with a number among those of its table
abbrev pub has_column : Decl → ℕ → Bool
has_column decl k = nat_le decl.first k && nat_lt k (decl.first + decl.count)

-- the value of an entry in the column with a number, if its declaration has that column
abbrev pub value_in_column : List Decl → List Value → ℕ → Entry → List Value
value_in_column decls values k e = if has_column (decl_at decls e.decl) k then value_at values (e.first + (k - (decl_at decls e.decl).first)) ∷ [] else []

-- those of entries, which have these values
abbrev pub values_in_column : List Decl → List Value → List Entry → ℕ → List Value
values_in_column decls values entries k = flat_map (value_in_column decls values k) entries

-- those of all entries of a unit
abbrev pub values_of_unit : List Decl → HeadAndForest → ℕ → List Headed
values_of_unit decls unit k = headed unit.head (values_in_column decls unit.forest.values unit.forest.entries k)

-- those of all entries of listed units
abbrev pub values_of_units : List HeadAndForest → List Decl → List ℕ → ℕ → List Headed
values_of_units units decls named k = flat_map (λ (u : ℕ). values_of_unit decls (unit_in units u) k) named

-- each column has the values of some entries behind those that it had
abbrev pub with_entries : List Decl → HeadAndForest → List Entry → (ℕ → List Headed) → ℕ → List Headed
with_entries decls unit entries before k = before k ++ headed unit.head (values_in_column decls unit.forest.values entries k)

-- WHAT IS HELD OF THEM

-- what is told of the column with a number
abbrev pub told_at : List Bool → ℕ → Bool
told_at inside k = slice_index_or inside k false

-- The values of a row of a unit with this header were looked at up to a number, each in its column, from one on. Of each column it is
-- told whether all its values name places in their own units.
pub record HasSeen (first : ℕ) (head : UnitHead) (row : List Value) (done : ℕ) (old new : List Bool) : Type 0 where
  pub count : length new ≡ length old
  pub each : (i : ℕ) (section : List ℕ) → i < done → told_at new (first + i) ≡ (told_at old (first + i) && names_inside head (meant_in section (value_at row i)))
  pub others : (k : ℕ) → (k < first) ⊎ (first + done ≤ k) → told_at new k ≡ told_at old k

-- the names of the columns of a table, each by its number
abbrev pub names_in : Listing → ℕ → ℕ
names_in table k = (spec_at table.specs k).name

-- what is held of columns that have these names and values, each column by its number
pub record HoldsValues (section : List ℕ) (names : ℕ → ℕ) (values : ℕ → List Headed) (held : ColumnValues) : Type 0 where
  pub tallied : AreTalliesOf section names (λ (k : ℕ). without_heads (values k)) held.tallies
  pub told : (k : ℕ) → k < length held.inside.items → told_at held.inside.items k ≡ are_inside (meant_with_heads section (values k))

-- each of some columns, from a first one on, has one value more, which is that of a row; and the others have what they had
pub record AddsHeaded (first : ℕ) (head : UnitHead) (row : List Value) (before after : ℕ → List Headed) : Type 0 where
  pub each : (j : ℕ) → j < length row → after (first + j) ≡ before (first + j) ++ (head, value_at row j) ∷ []
  pub others : (k : ℕ) → (k < first) ⊎ (first + length row ≤ k) → after k ≡ before k

-- of so many columns something is held
pub record HasWidth (held : ColumnValues) (width : ℕ) : Type 0 where
  pub tallies : length held.tallies ≡ width
  pub inside : length held.inside.items ≡ width

-- no column has more values than so many, and there is room for so many more
abbrev pub HasRoomFor : ColumnValues → ℕ → Type 0
HasRoomFor held more = (n : ℕ) × HaveAtMost n held.tallies × (n + more < 2 ^ 63)

-- the values of some entries of a unit are counted, each in its column of the table
pub record AddsEntries (table : Listing) (unit : HeadAndForest) (entries : List Entry) (old new : ColumnValues) : Type 0 where
  pub tallies : length new.tallies ≡ length old.tallies
  pub inside : length new.inside.items ≡ length old.inside.items
  pub few : (n : ℕ) → HaveAtMost n old.tallies → HaveAtMost (n + length entries) new.tallies
  pub added : (before : ℕ → List Headed) → HoldsValues unit.forest.section (names_in table) before old → HoldsValues unit.forest.section (names_in table) (with_entries table.decls unit entries before) new

-- the values of all columns of a table are counted, over some of the units that are listed
pub record AreGathered (units : List HeadAndForest) (table : Listing) (named some : List ℕ) (held : ColumnValues) : Type 0 where
  pub wide : HasWidth held (length table.specs)
  pub few : HaveAtMost (sum_by (entries_of units) some) held.tallies
  pub holds : (section : List ℕ) → AreUnitsOf units table named section → HoldsValues section (names_in table) (values_of_units units table.decls some) held

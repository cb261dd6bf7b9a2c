-- How often the declarations of abbreviation tables are used, and which values their columns have.
use Rattle.std.specs.Prelude.{◌≡◌, ◌<◌, ◌+◌, ◌-◌, ◌&&◌, ℕ, Bool, false, List, [], length, slice_index, nat_eq, nat_le, nat_lt, if◌then◌else◌, count_by, map, filter, flat_map}
use Rattle.std.specs.List.{sum_by, list_all}
use Rattle.form_codec.specs.declared.value.Value.{Value}
use Rattle.form_codec.specs.Forms.{Meaning}
use Rattle.form_codec.specs.Forms.Meaning.{InUnit, InSection}
use Rattle.form_codec.specs.Values.{meant_in}
use Rattle.entry_arena.specs.declared.entry.Entry.{Entry}
use Rattle.entry_arena.specs.Arena.{value_at}
use Rattle.entry_read.specs.declared.head.UnitHead.{UnitHead}
use Rattle.entry_read.specs.Units.{HeadAndForest, end_of}
use Rattle.value_links.specs.declared.units.NamedTable.{NamedTable}

-- how many entries of a unit have the declaration with a number
abbrev pub entries_with : ℕ → HeadAndForest → ℕ
entries_with number unit = count_by (λ (e : Entry). nat_eq e.decl number) unit.forest.entries

-- the uses of a declaration: how many entries have it, over all units that name the place of its table
abbrev pub uses_of : List HeadAndForest → ℕ → ℕ → ℕ
uses_of units place number = sum_by (λ (unit : HeadAndForest). if nat_eq unit.head.table place then entries_with number unit else 0) units

-- for each declaration of a table its uses
pub record AreUses (units : List HeadAndForest) (table : NamedTable) (uses : List ℕ) : Type 0 where
  pub count : length uses ≡ length table.table.decls
  pub each : (number : ℕ) → number < length table.table.decls → slice_index uses number ≡ uses_of units table.place number

-- the values that the entries of a unit have in one column of the declaration with a number, by the place of the column among
-- those of the declaration
abbrev pub values_with : ℕ → ℕ → HeadAndForest → List Value
values_with number column unit = map (λ (e : Entry). value_at unit.forest.values (e.first + column)) (filter (λ (e : Entry). nat_eq e.decl number) unit.forest.entries)

-- what the values of the column mean, each with the header of its unit: those of all entries that have the declaration, over all units
-- that name the place of its table
abbrev pub column_values : List HeadAndForest → ℕ → ℕ → ℕ → List (UnitHead × Meaning)
column_values units place number column =
    flat_map (λ (unit : HeadAndForest). if nat_eq unit.head.table place then map (λ (v : Value). (unit.head, meant_in unit.forest.section v)) (values_with number column unit) else []) units

-- a reference that counts from the first byte of .debug_info, as DW_FORM_ref_addr does, names a place in the unit with this header
abbrev pub names_inside : UnitHead → Meaning → Bool
names_inside head (InSection n) = nat_le head.at n && nat_lt n (end_of head)
names_inside head meaning = false

-- the reference to the same place that counts from the first byte of the unit
abbrev pub counted_inside : UnitHead → Meaning → Meaning
counted_inside head (InSection n) = InUnit (n - head.at)
counted_inside head meaning = meaning

-- all values are such references
abbrev pub are_inside : List (UnitHead × Meaning) → Bool
are_inside values = list_all (λ (v : UnitHead × Meaning). names_inside v.0 v.1) values

-- What the values mean for which the column gets a form. Where they all are references of DW_FORM_ref_addr to places in their own units,
-- they are taken as references within these, whose bytes are the matter of the units' layouts.
abbrev pub taken_meanings : List (UnitHead × Meaning) → List Meaning
taken_meanings values = if are_inside values then map (λ (v : UnitHead × Meaning). counted_inside v.0 v.1) values else map (λ (v : UnitHead × Meaning). v.1) values

abbrev pub column_meanings : List HeadAndForest → ℕ → ℕ → ℕ → List Meaning
column_meanings units place number column = taken_meanings (column_values units place number column)

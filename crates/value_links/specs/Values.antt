-- Where the values of attributes stand: each follows the code of its entry and the values before it (DWARF 5 section 7.5.2).
use Rattle.std.specs.Prelude.{◌≡◌, ◌<◌, ◌+◌, ℕ, List, ◌∷◌, ◌++◌, length, take, drop}
use Rattle.std.specs.List.{Contains}
use Rattle.leb_codec.specs.Leb.{Uleb}
use Rattle.form_codec.specs.declared.value.Value.{Value}
use Rattle.form_codec.specs.Forms.{Meaning}
use Rattle.form_codec.specs.Forms.Meaning.{SectionPlace}
use Rattle.form_codec.specs.Values.{meant_in}
use Rattle.abbrev_tables.specs.declared.decl.Spec.{Spec}
use Rattle.abbrev_tables.specs.Tables.{Declared}
use Rattle.entry_arena.specs.declared.entry.Entry.{Entry}
use Rattle.entry_arena.specs.Arena.{entry_at}
use Rattle.entry_arena.specs.Forests.{Described, described_by}
use Rattle.entry_arena.specs.Trees.{SpellsBetween, ValuesBetween, declared_at}
use Rattle.value_links.specs.Reading.{UnitRead, declarations}

-- an entry of a unit, by its number; its declaration; and its values
abbrev pub entry_of : UnitRead → ℕ → Entry
entry_of unit id = entry_at unit.forest.entries id

abbrev pub declaration_of : UnitRead → ℕ → Declared
declaration_of unit id = declared_at (declarations unit) ((entry_of unit id).decl)

abbrev pub values_of : UnitRead → ℕ → List Value
values_of unit id = take (entry_of unit id).count (drop (entry_of unit id).first unit.forest.values)

-- The entry of the unit with the number `id` has an attribute of this name whose value is this. The value has a number among
-- the values of all entries of the unit, and its first byte, or the place where it would be, is this one of .debug_info.
pub record HasValueAt (unit : UnitRead) (id number name : ℕ) (meaning : Meaning) (place : ℕ) : Type 0 where
  pub known : id < length unit.forest.entries
  pub earlier_columns : List Spec
  pub column : Spec
  pub later_columns : List Spec
  pub columns : (declaration_of unit id).columns ≡ earlier_columns ++ column ∷ later_columns
  pub earlier : List Value
  pub value : Value
  pub later : List Value
  pub values : values_of unit id ≡ earlier ++ value ∷ later
  pub numbered : number ≡ (entry_of unit id).first + length earlier
  pub values_at : ℕ
  pub coded : SpellsBetween (Uleb ((declaration_of unit id).code)) unit.forest.section (entry_of unit id).at values_at
  pub valued : ValuesBetween unit.forest.section earlier_columns earlier values_at place
  pub named : name ≡ column.name
  pub meant : meaning ≡ meant_in unit.forest.section value

-- an entry of a unit with its attributes, and the first one
abbrev pub described_at : UnitRead → ℕ → Described
described_at unit id = described_by unit.forest.section (declarations unit) unit.forest.values (entry_of unit id)

abbrev pub root_of : UnitRead → Described
root_of unit = described_at unit 0

-- The attributes of a root give a base of this name, and the first is this. A base counts where it is a section offset (DWARF 5
-- sections 3.1.1 and 7.28 to 7.29).
pub record IsFirstBase (attributes : List (ℕ × Meaning)) (name n : ℕ) : Type 0 where
  pub before : List (ℕ × Meaning)
  pub after : List (ℕ × Meaning)
  pub parts : attributes ≡ before ++ (name, SectionPlace n) ∷ after
  pub first : (m : ℕ) → ¬ Contains before (name, SectionPlace m)

-- the root of the unit gives a base of this name
abbrev pub GivesBase : UnitRead → ℕ → Type 0
GivesBase unit name = (n : ℕ) × IsFirstBase (root_of unit).attributes name n

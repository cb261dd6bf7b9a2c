-- The numbers of a unit's entries that have a byte too many (DWARF 5 sections 7.5.2, 7.5.5 and 7.5.6): codes, the codes 0 that end chains
-- of siblings, values, and the lengths of blocks. References within the unit and the lengths of expressions are slots, whose sizes are the
-- matter of the unit's layout. Places count from the first byte of .debug_info.
use Rattle.std.specs.Prelude.{◌≡◌, ◌<◌, ◌⊎◌, ℕ, List, length, drop}
use Rattle.std.specs.List.{Contains}
use Rattle.form_codec.specs.declared.form.Form.{Form}
use Rattle.form_codec.specs.declared.form.Shape.{Shape}
use Rattle.form_codec.specs.declared.form.Shape.TheVariants.{Uleb as ByUleb, Sleb as BySleb, UlebCounted}
use Rattle.form_codec.specs.declared.form.Role.TheVariants as role
use Rattle.form_codec.specs.declared.form.Content.TheVariants as content
use Rattle.form_codec.specs.Forms.{Meaning, code_of, shape_of}
use Rattle.abbrev_tables.specs.declared.decl.Spec.{Spec}
use Rattle.entry_arena.specs.declared.entry.ChainEnd.{ChainEnd}
use Rattle.tidy_numbers.specs.Fronts.{BeginsLong, BeginsLongSigned}
use Rattle.value_links.specs.Reading.{UnitRead}
use Rattle.value_links.specs.Values.{HasValueAt, entry_of}

-- a value of this shape begins with such a number that is no slot
abbrev pub BeginsLongShape : Shape → List ℕ → Type 0
BeginsLongShape (ByUleb role.LocalRef) bytes = ⊥
BeginsLongShape (ByUleb role) bytes = BeginsLong bytes
BeginsLongShape BySleb bytes = BeginsLongSigned bytes
BeginsLongShape (UlebCounted content.Data) bytes = BeginsLong bytes
BeginsLongShape shape bytes = ⊥

-- likewise one of a column, by its form
abbrev pub BeginsLongValue : Spec → List ℕ → Type 0
BeginsLongValue column bytes = (form : Form) × (code_of form ≡ column.form) × BeginsLongShape (shape_of form column.name column.constant) bytes

-- the code of an entry
abbrev pub IsLongCode : UnitRead → ℕ → Type 0
IsLongCode unit p = (id : ℕ) × (id < length unit.forest.entries) × BeginsLong (drop p unit.forest.section) × (p ≡ (entry_of unit id).at)

-- a code 0
abbrev pub IsLongEnd : UnitRead → ℕ → Type 0
IsLongEnd unit p = (end : ChainEnd) × Contains unit.forest.ends end × BeginsLong (drop p unit.forest.section) × (p ≡ end.at)

-- the value of an attribute
pub record IsLongValue (unit : UnitRead) (p : ℕ) : Type 0 where
  pub id : ℕ
  pub number : ℕ
  pub name : ℕ
  pub meaning : Meaning
  pub stands : HasValueAt unit id number name meaning p
  pub long : BeginsLongValue stands.column (drop p unit.forest.section)

-- a number of the unit's entries
abbrev pub IsLongInUnit : UnitRead → ℕ → Type 0
IsLongInUnit unit p = IsLongCode unit p ⊎ (IsLongEnd unit p ⊎ IsLongValue unit p)

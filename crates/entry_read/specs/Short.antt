-- Values and entries without a byte too many (DWARF 5 sections 7.5.2, 7.5.5 and 7.5.6): each LEB128 number of a code or a form is
-- shortest. Numbers inside an expression are part of its bytes.
use Rattle.std.specs.Prelude.{◌≡◌, ◌+◌, ℕ, List, [], ◌∷◌, take, drop}
use Rattle.leb_codec.specs.Leb.{ShortestUnsigned}
use Rattle.form_codec.specs.declared.value.Value.{Value}
use Rattle.form_codec.specs.Forms.{Meaning, SpellsValue, SpellsShortest}
use Rattle.form_codec.specs.Values.{meant_in}
use Rattle.abbrev_tables.specs.declared.decl.Spec.{Spec}
use Rattle.abbrev_tables.specs.Tables.{Declared}
use Rattle.entry_arena.specs.declared.entry.Entry.{Entry}
use Rattle.entry_arena.specs.declared.entry.ChainEnd.{ChainEnd}
use Rattle.entry_arena.specs.Trees.{SpellsBetween, declared_at}

-- these bytes spell the value of a column, and none is too many
abbrev pub IsWritten : Spec → Meaning → List ℕ → Type 0
IsWritten column meaning bytes = SpellsValue column.name column.form column.constant meaning bytes × SpellsShortest column.name column.form meaning bytes

-- the values of columns stand in such bytes, one after the other from a place up to another
abbrev pub WrittenBetween : List ℕ → List Spec → List Value → ℕ → ℕ → Type 0
WrittenBetween section [] [] from to = from ≡ to
WrittenBetween section [] (v ∷ vs) from to = ⊥
WrittenBetween section (c ∷ cs) [] from to = ⊥
WrittenBetween section (c ∷ cs) (v ∷ vs) from to = (next : ℕ) × SpellsBetween (IsWritten c (meant_in section v)) section from next × WrittenBetween section cs vs next to

-- An entry stands without a byte too many: its code is shortest, and so is each value in its form.
pub record StandsShort (section : List ℕ) (ds : List Declared) (values : List Value) (e : Entry) : Type 0 where
  pub values_at : ℕ
  pub coded : SpellsBetween (ShortestUnsigned ((declared_at ds e.decl).code)) section e.at values_at
  pub valued : WrittenBetween section ((declared_at ds e.decl).columns) (take e.count (drop e.first values)) values_at (e.at + e.len)

-- the code 0 that ends a chain has one byte
abbrev pub EndsShort : List ℕ → ChainEnd → Type 0
EndsShort section end = SpellsBetween (ShortestUnsigned 0) section end.at (end.at + 1)

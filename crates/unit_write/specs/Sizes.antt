-- In which columns something can be written for a value: what callers show of a unit that is to be written.
use Rattle.std.specs.Prelude.{◌≡◌, ℕ, List, length, false}
use Rattle.form_codec.specs.declared.form.Form.TheVariants.{Exprloc, RefUdata, RefAddr, SecOffset}
use Rattle.form_codec.specs.Forms.{Meaning, code_of, SpellsValue, SpellsShortest}
use Rattle.form_codec.specs.Forms.Meaning.{Expression, InUnit, InSection, SectionPlace}
use Rattle.abbrev_tables.specs.declared.decl.Spec.{Spec}
use Rattle.unit_write.specs.Values.{is_moving, HasSize}

abbrev pub IsExpr : Meaning → Type 0
IsExpr (Expression bytes) = Unit {0}
IsExpr meaning = ⊥

-- a reference or a section offset in the form in which it is written (DWARF 5 sections 7.5.5 and 7.5.6)
abbrev pub HoldsNumber : ℕ → Meaning → Type 0
HoldsNumber form (InUnit n) = form ≡ code_of RefUdata
HoldsNumber form (InSection n) = form ≡ code_of RefAddr
HoldsNumber form (SectionPlace n) = form ≡ code_of SecOffset
HoldsNumber form meaning = ⊥

-- a law: in such a form it has a size
abbrev pub NumbersHaveSizes : Type 0
NumbersHaveSizes = (column : Spec) (meaning : Meaning) (len : ℕ) → HoldsNumber column.form meaning → (size : ℕ) × HasSize column meaning len size

-- a law: an expression has a size in a column of DW_FORM_exprloc, whatever its bytes are
abbrev pub ExpressionsHaveSizes : Type 0
ExpressionsHaveSizes = (column : Spec) (bytes : List ℕ) (len : ℕ) → column.form ≡ code_of Exprloc → (size : ℕ) × HasSize column (Expression bytes) len size

-- a law: another value that the column's form and constant spell has the size of its shortest bytes
abbrev pub ShortestHaveSizes : Type 0
ShortestHaveSizes =
    (column : Spec) (meaning : Meaning) (len : ℕ) (bytes others : List ℕ) → is_moving meaning ≡ false → (¬ IsExpr meaning) → SpellsValue column.name column.form column.constant meaning others → SpellsShortest column.name column.form meaning bytes → HasSize column meaning len (length bytes)

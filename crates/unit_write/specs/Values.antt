-- How many bytes a value takes that is written (DWARF 5 sections 7.5.5 and 7.5.6). The size of a reference within the unit and that of an
-- expression are chosen with the unit's layout. That of another value doesn't depend on its number where that follows what it names.
use Rattle.std.specs.Prelude.{◌≡◌, ◌+◌, ℕ, List, [], ◌∷◌, length, Bool, true, false}
use Rattle.form_codec.specs.declared.value.Value.{Value}
use Rattle.form_codec.specs.declared.form.Form.TheVariants.{Exprloc, RefUdata}
use Rattle.form_codec.specs.Forms.{Meaning, code_of}
use Rattle.form_codec.specs.Forms.Meaning.{Expression, InUnit, InSection, SectionPlace}
use Rattle.form_codec.specs.Values.{meant_in}
use Rattle.abbrev_tables.specs.declared.decl.Spec.{Spec}
use Rattle.entry_read.specs.Short.{IsWritten}

-- a reference or a section offset: a number that follows what it names
abbrev pub is_moving : Meaning → Bool
is_moving (InUnit n) = true
is_moving (InSection n) = true
is_moving (SectionPlace n) = true
is_moving meaning = false

-- the same value, with another number where it is such a one, and with other bytes where it is an expression
abbrev pub renewed : ℕ → List ℕ → Meaning → Meaning
renewed new made (InUnit n) = InUnit new
renewed new made (InSection n) = InSection new
renewed new made (SectionPlace n) = SectionPlace new
renewed new made (Expression bytes) = Expression made
renewed new made meaning = meaning

-- So many bytes are written for the value of a column, whatever number it gets.
pub record HasOwnSize (column : Spec) (meaning : Meaning) (size : ℕ) : Type 0 where
  pub number : ℕ
  pub bytes : List ℕ
  pub written : IsWritten column (renewed number [] meaning) bytes
  pub is : size ≡ length bytes

-- The same of any value: a reference within the unit is taken to have `len` bytes, in DW_FORM_ref_udata, and an expression with its length,
-- in DW_FORM_exprloc. Whether numbers need these is the matter of the unit's layout.
abbrev pub HasSize : Spec → Meaning → ℕ → ℕ → Type 0
HasSize column (InUnit n) len size = (column.form ≡ code_of RefUdata) × (size ≡ len)
HasSize column (Expression bytes) len size = (column.form ≡ code_of Exprloc) × (size ≡ len)
HasSize column meaning len size = HasOwnSize column meaning size

-- so many bytes are written for the values of columns; `lens` has the bytes of each expression and of each reference within the unit
abbrev pub HaveSize : List ℕ → List Spec → List Value → List ℕ → ℕ → Type 0
HaveSize section [] [] [] size = size ≡ 0
HaveSize section (c ∷ cs) (v ∷ vs) (n ∷ ns) size = (first : ℕ) × (rest : ℕ) × HasSize c (meant_in section v) n first × HaveSize section cs vs ns rest × (size ≡ first + rest)
HaveSize _ _ _ _ _ = ⊥

-- a law: a value has one size
abbrev pub OneSize : Type 0
OneSize = (column : Spec) (meaning : Meaning) (len m n : ℕ) → HasSize column meaning len m → HasSize column meaning len n → m ≡ n

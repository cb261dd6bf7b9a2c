-- Columns (DWARF 5 sections 7.5.3, 7.5.5 and 7.5.6): the values that one attribute has in all entries of a declaration, and the
-- form in which they and the declaration take the fewest bytes.
use Rattle.std.specs.Prelude.{◌≡◌, ◌≢◌, ◌≤◌, ◌+◌, ◌==◌, ◌⊎◌, if◌then◌else◌, ℕ, ℤ, pos, List, [], ◌∷◌, length, true, false}
use Rattle.dw_base.specs.declared.classes.Classes.{Classes}
use Rattle.leb_codec.specs.Leb.{least_signed_len}
use Rattle.form_codec.specs.declared.form.Form.{Form}
use Rattle.form_codec.specs.declared.form.Form.TheVariants.{ImplicitConst, Sdata, Udata, Addrx1, Addrx4}
use Rattle.form_codec.specs.Forms.{Meaning, SpellsValue, code_of, is_written, counted}

-- the form with this code may be chosen: it is known, and not one of ref1, ref2, ref4 and ref8
abbrev pub IsChoice : ℕ → Type 0
IsChoice code = (form : Form) × (code_of form ≡ code) × (is_written form ≡ true)

-- n bytes are enough for the values in the form with this code, in the entries: the least n is that of their shortest
-- spellings. Expressions and references within a unit don't count, since they have sizes of their own.
abbrev pub EntriesWithin : ℕ → ℕ → ℤ → List Meaning → ℕ → Type 0
EntriesWithin name code constant [] n = Unit {0}
EntriesWithin name code constant (m ∷ ms) n =
    (bytes : List ℕ) × (rest : ℕ) × SpellsValue name code constant m bytes × EntriesWithin name code constant ms rest × (counted m (length bytes) + rest ≤ n)

-- under this name the form with this code, and with a constant where it is implicit_const, spells each of the values
abbrev pub AreSpelled : ℕ → ℕ → ℤ → List Meaning → Type 0
AreSpelled name code constant [] = Unit {0}
AreSpelled name code constant (m ∷ ms) = ((bytes : List ℕ) × SpellsValue name code constant m bytes) × AreSpelled name code constant ms

-- WHAT CLASSES LEAVE OUT

-- DW_AT_high_pc and DW_AT_const_value
abbrev pub high_pc : ℕ
high_pc = 18

abbrev pub const_value : ℕ
const_value = 28

-- the form is one of addrx1, addrx2, addrx3 and addrx4, and the classes don't have these
pub record IsSizedIndex (classes : Classes) (code : ℕ) : Type 0 where
  pub out : classes.indexes ≡ false
  pub from : code_of Addrx1 ≤ code
  pub to : code ≤ code_of Addrx4

-- the form is implicit_const, and under this name the classes don't have it
pub record IsConstantApart (classes : Classes) (name code : ℕ) : Type 0 where
  pub out : classes.implicit ≡ false
  pub named : (name ≡ high_pc) ⊎ (name ≡ const_value)
  pub form : code ≡ code_of ImplicitConst

-- the form is sdata, which the classes don't have where udata spells each of the values
pub record IsSignedForNothing (classes : Classes) (name code : ℕ) (meanings : List Meaning) : Type 0 where
  pub out : classes.signed ≡ false
  pub form : code ≡ code_of Sdata
  pub unsigned : AreSpelled name (code_of Udata) (pos 0) meanings

-- the classes leave out the form with this code for these values of an attribute with this name
abbrev pub IsLeftOut : Classes → ℕ → ℕ → List Meaning → Type 0
IsLeftOut classes name code meanings = IsSizedIndex classes code ⊎ (IsConstantApart classes name code ⊎ IsSignedForNothing classes name code meanings)

-- THE CLASS OF A COLUMN

-- the bytes of a column's constant in the declaration
abbrev pub constant_bytes : ℕ → ℤ → ℕ
constant_bytes code constant = if code == code_of ImplicitConst then least_signed_len constant else 0

-- The form with this code is a member: the classes have it, it admits each of the values, and n bytes are enough for the column: those in the
-- entries, and the constant in the declaration.
pub record ColumnWithin (classes : Classes) (name code : ℕ) (constant : ℤ) (meanings : List Meaning) (n : ℕ) : Type 0 where
  pub choice : IsChoice code
  pub member : ¬ IsLeftOut classes name code meanings
  pub entries : ℕ
  pub within : EntriesWithin name code constant meanings entries
  pub cost : entries + constant_bytes code constant ≤ n

-- The form is a member, and no member takes fewer bytes.
pub record IsLeastForm (classes : Classes) (name : ℕ) (meanings : List Meaning) (code : ℕ) (constant : ℤ) : Type 0 where
  pub bytes : ℕ
  pub enough : ColumnWithin classes name code constant meanings bytes
  pub least : (other : ℕ) (c : ℤ) (n : ℕ) → ColumnWithin classes name other c meanings n → bytes ≤ n

-- of two forms that take as few bytes the input's comes first, and else the one with the lower code
abbrev pub ComesFirst : ℕ → ℕ → ℕ → Type 0
ComesFirst input code other = (code ≡ input) ⊎ ((other ≢ input) × (code ≤ other))

-- of the least forms this one comes first
abbrev pub IsFirstForm : Classes → ℕ → ℕ → List Meaning → ℕ → Type 0
IsFirstForm classes name input meanings code = (other : ℕ) (c : ℤ) → IsLeastForm classes name meanings other c → ComesFirst input code other

-- A law: where some form spells all values, the class has a member.
abbrev pub ClassesHaveMembers : Type 0
ClassesHaveMembers =
    (classes : Classes) (name code : ℕ) (constant : ℤ) (meanings : List Meaning) → AreSpelled name code constant meanings → (other : ℕ) × (c : ℤ) × (n : ℕ) × ColumnWithin classes name other c meanings n

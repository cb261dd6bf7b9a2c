-- What is summed of a column while its values are looked at, one after the other.
use Rattle.std.specs.Prelude.{◌≡◌, ◌≤◌, ◌<◌, ◌*◌, ◌^◌, ℕ, ℤ, List, length, map, slice_index_or, pos, true, false, FitsSigned}
use Rattle.std.specs.Int.{w64}
use Rattle.form_codec.specs.declared.value.Value.{Value}
use Rattle.form_codec.specs.declared.form.Form.{Form}
use Rattle.form_codec.specs.declared.form.Shape.TheVariants.{Constant}
use Rattle.form_codec.specs.Forms.{Meaning, code_of, shape_of, is_written}
use Rattle.form_codec.specs.Values.{meant_in, IsValueIn}
use Rattle.abbrev_tables.specs.Tables.{implicit_const}
use Rattle.column_forms.specs.declared.tally.Candidate.{Candidate}
use Rattle.form_codec.specs.Columns.{IsChoice, EntriesWithin}

-- what is held: the attribute's name; the forms that admit the first value, each with the bytes of all; the constant of implicit_const; and
-- how many values there were
pub record Tallying : Type 0 where
  pub name : ℕ
  pub candidates : List Candidate
  pub constant : ℤ
  pub count : ℕ

abbrev pub candidate_at : List Candidate → ℕ → Candidate
candidate_at candidates k = slice_index_or candidates k (record { form = 0; shape = Constant (pos 0); size = 0; admits = false })

-- so many bytes are enough for the values in the entries, and with no constant are fewer
pub record IsEntriesSize (name code : ℕ) (constant : ℤ) (meanings : List Meaning) (size : ℕ) : Type 0 where
  pub choice : IsChoice code
  pub enough : EntriesWithin name code constant meanings size
  pub least : (other : ℤ) (n : ℕ) → EntriesWithin name code other meanings n → size ≤ n

-- implicit_const spells values with one constant alone
abbrev pub HasOneConstant : ℕ → ℤ → List Meaning → Type 0
HasOneConstant name constant meanings = (other : ℤ) (n : ℕ) → EntriesWithin name implicit_const other meanings n → other ≡ constant

-- what is held of one form is that of these values
pub record IsSummed (name : ℕ) (constant : ℤ) (meanings : List Meaning) (c : Candidate) : Type 0 where
  pub sized : c.admits ≡ true → IsEntriesSize name c.form constant meanings c.size
  pub out : c.admits ≡ false → (other : ℤ) (n : ℕ) → IsChoice c.form → EntriesWithin name c.form other meanings n → ⊥

abbrev pub AreSummed : ℕ → ℤ → List Meaning → List Candidate → Type 0
AreSummed name constant meanings candidates = (k : ℕ) → k < length candidates → IsSummed name constant meanings (candidate_at candidates k)

-- the form with this code is among those that are held
abbrev pub IsHeldForm : List Candidate → ℕ → Type 0
IsHeldForm candidates code = (k : ℕ) × (k < length candidates) × ((candidate_at candidates k).form ≡ code)

-- what is held is that of these values
pub record AreTallied (name : ℕ) (meanings : List Meaning) (candidates : List Candidate) (constant : ℤ) : Type 0 where
  pub summed : AreSummed name constant meanings candidates
  pub full : (code : ℕ) (other : ℤ) (n : ℕ) → IsChoice code → EntriesWithin name code other meanings n → IsHeldForm candidates code
  pub only : HasOneConstant name constant meanings

-- what values mean in their section
abbrev pub meanings_in : List ℕ → List Value → List Meaning
meanings_in section values = map (meant_in section) values

-- what is held is that of values of a section
pub record IsTally (section : List ℕ) (values : List Value) (t : Tallying) : Type 0 where
  pub count : t.count ≡ length values
  pub tallied : AreTallied t.name (meanings_in section values) t.candidates t.constant

-- sizes are no more than so many values can have
abbrev pub AreBounded : List Candidate → ℕ → Type 0
AreBounded candidates count = (k : ℕ) → k < length candidates → (candidate_at candidates k).size ≤ count * 2 ^ 64

-- the form of a candidate can be chosen, and its shape is the one under this name with this constant
abbrev pub IsShaped : ℕ → ℤ → Candidate → Type 0
IsShaped name constant c = (form : Form) × (code_of form ≡ c.form) × (is_written form ≡ true) × (c.shape ≡ shape_of form name constant)

abbrev pub AreShaped : ℕ → ℤ → List Candidate → Type 0
AreShaped name constant candidates = (k : ℕ) → k < length candidates → IsShaped name constant (candidate_at candidates k)

-- what is true of each tally
pub record IsHeld (name : ℕ) (candidates : List Candidate) (constant : ℤ) (count : ℕ) : Type 0 where
  pub bounded : AreBounded candidates count
  pub shaped : AreShaped name constant candidates
  pub fits : FitsSigned w64 constant
  pub some : 1 ≤ count
  pub few : count ≤ 2 ^ 63

-- a value of a section that fits memory
pub record IsHere (section : List ℕ) (v : Value) : Type 0 where
  pub value : IsValueIn section v
  pub fits : length section < 2 ^ 63

-- What is summed of a column while its values are looked at, one after the other.
-- Inner functions and proofs alone need what stands here.
use Rattle.std.specs.Prelude.{◌≡◌, ◌≤◌, ◌<◌, ◌+◌, ◌^◌, ℕ, ℤ, List, [], ◌∷◌, ◌++◌, length, Contains, true}
use Rattle.form_codec.specs.declared.value.Value.{Value}
use Rattle.form_codec.specs.Forms.{Meaning, SpellsValue, counted}
use Rattle.form_codec.specs.Written.{HasConstant}
use Rattle.form_codec.specs.Values.{meant_in}
use Rattle.column_forms.specs.declared.tally.Candidate.{Candidate}
use Rattle.form_codec.specs.Columns.{IsChoice}
use Rattle.column_forms.specs.Tallies.{candidate_at, HasOneConstant, IsSummed, AreSummed, IsHeldForm, AreBounded, IsShaped, AreShaped, IsHere}

-- the form with this code can be chosen, and under this name and with this constant it spells the value
pub record CanSpell (name code : ℕ) (constant : ℤ) (meaning : Meaning) : Type 0 where
  pub choice : IsChoice code
  pub bytes : List ℕ
  pub spelled : SpellsValue name code constant meaning bytes

-- so many bytes of a value count in the form with this code, and with no constant do fewer
pub record IsValueSize (name code : ℕ) (constant : ℤ) (meaning : Meaning) (size : ℕ) : Type 0 where
  pub spells : CanSpell name code constant meaning
  pub exact : size ≡ counted meaning (length spells.bytes)
  pub least : (other : ℤ) (others : List ℕ) → SpellsValue name code other meaning others → size ≤ counted meaning (length others)

-- the constants in shapes fit a signed number of 64 bits
abbrev pub HaveConstants : List Candidate → Type 0
HaveConstants candidates = (k : ℕ) → k < length candidates → HasConstant (candidate_at candidates k).shape

-- one more value can be counted
abbrev pub HaveRoom : List Candidate → Type 0
HaveRoom candidates = (k : ℕ) → k < length candidates → (candidate_at candidates k).size + 2 ^ 64 < 2 ^ 128

-- what is held of a form after one more value
pub record IsNext (name : ℕ) (v : Value) (old new : Candidate) : Type 0 where
  pub form : new.form ≡ old.form
  pub shape : new.shape ≡ old.shape
  pub few : new.size ≤ old.size + 2 ^ 64
  pub summed : (constant : ℤ) (section : List ℕ) (meanings : List Meaning) → IsShaped name constant old → IsHere section v → HasOneConstant name constant meanings → IsSummed name constant meanings old → IsSummed name constant (meanings ++ meant_in section v ∷ []) new

-- what is held of the form with this code after a first value, which it spells
pub record IsFirst (name code : ℕ) (constant : ℤ) (v : Value) (new : Candidate) : Type 0 where
  pub form : new.form ≡ code
  pub shaped : IsShaped name constant new
  pub few : new.size < 2 ^ 64
  pub admits : new.admits ≡ true
  pub sized : (section : List ℕ) → IsHere section v → IsValueSize name code constant (meant_in section v) new.size

-- each form that can be chosen and spells this value, under some name and with some constant, has its code among these
abbrev pub HasCodesFor : Value → List ℕ → Type 0
HasCodesFor v codes = (section : List ℕ) (name code : ℕ) (constant : ℤ) → CanSpell name code constant (meant_in section v) → Contains codes code

-- forms that spell a first value, each with its bytes; among them all that were tried and do
pub record AreFound (name : ℕ) (constant : ℤ) (v : Value) (IsTried : ℕ → Type 0) (candidates : List Candidate) : Type 0 where
  pub bounded : AreBounded candidates 1
  pub shaped : AreShaped name constant candidates
  pub summed : (section : List ℕ) → IsHere section v → AreSummed name constant (meant_in section v ∷ []) candidates
  pub full : (section : List ℕ) (code : ℕ) → IsHere section v → IsTried code → CanSpell name code constant (meant_in section v) → IsHeldForm candidates code

-- the first so many are those after one more value, and the others are the old ones
pub record AreAdded (name : ℕ) (v : Value) (old : List Candidate) (done : ℕ) (new : List Candidate) : Type 0 where
  pub same : length new ≡ length old
  pub next : (k : ℕ) → k < done → k < length old → IsNext name v (candidate_at old k) (candidate_at new k)
  pub left : (k : ℕ) → done ≤ k → candidate_at new k ≡ candidate_at old k

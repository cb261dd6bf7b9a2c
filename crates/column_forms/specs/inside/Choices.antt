-- How the least form is found among the candidates.
use Rattle.std.specs.Prelude.{◌≡◌, ◌≤◌, ◌<◌, ◌+◌, ◌⊎◌, ℕ, ℤ, List, length, true, false, Option, Some, None, IfSome}
use Rattle.dw_base.specs.declared.classes.Classes.{Classes}
use Rattle.column_forms.specs.declared.tally.Candidate.{Candidate}
use Rattle.column_forms.specs.declared.choice.Choice.{Choice}
use Rattle.form_codec.specs.declared.form.Form.TheVariants.{Sdata, Udata}
use Rattle.form_codec.specs.Forms.{code_of}
use Rattle.form_codec.specs.Columns.{IsSizedIndex, IsConstantApart, constant_bytes, ComesFirst}
use Rattle.column_forms.specs.Tallies.{candidate_at}

-- the bytes of a column in the form of a candidate, with those in the declaration
abbrev pub bytes_of : ℤ → Candidate → ℕ
bytes_of constant c = c.size + constant_bytes c.form constant

-- by the candidates themselves, that of udata admits all values
abbrev pub AdmitsUnsigned : List Candidate → Type 0
AdmitsUnsigned candidates = (k : ℕ) × (k < length candidates) × ((candidate_at candidates k).form ≡ code_of Udata) × ((candidate_at candidates k).admits ≡ true)

-- by the candidates themselves, the classes leave out the form with this code under this name
abbrev pub IsPassedOver : Classes → ℕ → List Candidate → ℕ → Type 0
IsPassedOver classes name candidates code =
    IsSizedIndex classes code ⊎ (IsConstantApart classes name code ⊎ ((classes.signed ≡ false) × (code ≡ code_of Sdata) × AdmitsUnsigned candidates))

-- a candidate can be chosen: it admits all values, and the classes don't leave it out
pub record IsOpen (classes : Classes) (name : ℕ) (candidates : List Candidate) (c : Candidate) : Type 0 where
  pub admits : c.admits ≡ true
  pub had : ¬ IsPassedOver classes name candidates c.form

-- one of the first so many candidates is chosen: none that can be takes fewer bytes, and of those that take as few it comes first
pub record IsBestOf (classes : Classes) (name : ℕ) (candidates : List Candidate) (constant : ℤ) (input count : ℕ) (choice : Choice) : Type 0 where
  pub number : ℕ
  pub inside : number < count
  pub is_open : IsOpen classes name candidates (candidate_at candidates number)
  pub form : choice.form ≡ (candidate_at candidates number).form
  pub bytes : choice.bytes ≡ bytes_of constant (candidate_at candidates number)
  pub least : (k : ℕ) → k < count → IsOpen classes name candidates (candidate_at candidates k) → choice.bytes ≤ bytes_of constant (candidate_at candidates k)
  pub first : (k : ℕ) → k < count → IsOpen classes name candidates (candidate_at candidates k) → choice.bytes ≡ bytes_of constant (candidate_at candidates k) → ComesFirst input choice.form (candidate_at candidates k).form

-- none of the first so many candidates can be chosen
abbrev pub AreOut : Classes → ℕ → List Candidate → ℕ → Type 0
AreOut classes name candidates count = (k : ℕ) → k < count → IsOpen classes name candidates (candidate_at candidates k) → ⊥

-- the best of the first so many candidates, if there is one
abbrev pub IsBest : Classes → ℕ → List Candidate → ℤ → ℕ → ℕ → Option Choice → Type 0
IsBest classes name candidates constant input count None = AreOut classes name candidates count
IsBest classes name candidates constant input count (Some choice) = IsBestOf classes name candidates constant input count choice

-- of two choices the one with fewer bytes, or with as few the one that comes first
pub record IsBetter (input : ℕ) (best : Option Choice) (other result : Choice) : Type 0 where
  pub which : (result ≡ other) ⊎ (best ≡ Some result)
  pub least_other : result.bytes ≤ other.bytes
  pub first_other : result.bytes ≡ other.bytes → ComesFirst input result.form other.form
  pub least_best : IfSome best (λ choice. result.bytes ≤ choice.bytes)
  pub first_best : IfSome best (λ choice. result.bytes ≡ choice.bytes → ComesFirst input result.form choice.form)

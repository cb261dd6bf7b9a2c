-- The columns of an abbreviation table, whose values come entry by entry.
use Rattle.std.specs.Prelude.{◌≡◌, ◌≢◌, ◌≤◌, ◌<◌, ◌+◌, ◌^◌, ◌⊎◌, ℕ, List, [], ◌∷◌, ◌++◌, length, slice_index_or, Option, Some, None, IfSome}
use Rattle.dw_base.specs.declared.classes.Classes.{Classes}
use Rattle.form_codec.specs.declared.value.Value.{Value}
use Rattle.form_codec.specs.Columns.{AreSpelled}
use Rattle.abbrev_tables.specs.declared.decl.Spec.{Spec}
use Rattle.abbrev_tables.specs.Listings.{spec_at}
use Rattle.column_forms.specs.Columns.{IsChosen}
use Rattle.column_forms.specs.Tallies.{Tallying, IsTally, meanings_in}
use Rattle.column_forms.specs.Rows.{value_at}

-- what is held of the column with a number; past the end there is nothing
abbrev pub tally_at : List (Option Tallying) → ℕ → Option Tallying
tally_at tallies k = slice_index_or tallies k None

-- the sums of a column with this name and these values of a section; there are none where it has no value
abbrev pub IsTallyOf : List ℕ → ℕ → List Value → Option Tallying → Type 0
IsTallyOf section name values None = values ≡ []
IsTallyOf section name values (Some tally) = (tally.name ≡ name) × IsTally section values tally

-- what is held are the sums of columns that have these names and values, each column by its number
abbrev pub AreTalliesOf : List ℕ → (ℕ → ℕ) → (ℕ → List Value) → List (Option Tallying) → Type 0
AreTalliesOf section names values tallies = (k : ℕ) → k < length tallies → IsTallyOf section (names k) (values k) (tally_at tallies k)

-- the columns from a first one on have the names of these
abbrev pub HaveNames : (ℕ → ℕ) → ℕ → List Spec → Type 0
HaveNames names first columns = (j : ℕ) → j < length columns → names (first + j) ≡ (spec_at columns j).name

-- each of some columns, from a first one on, has one value more, which is that of a row; and the others have what they had
pub record AddsRow (first : ℕ) (row : List Value) (before after : ℕ → List Value) : Type 0 where
  pub each : (j : ℕ) → j < length row → after (first + j) ≡ before (first + j) ++ value_at row j ∷ []
  pub others : (k : ℕ) → (k < first) ⊎ (first + length row ≤ k) → after k ≡ before k

-- each column can have one value more
abbrev pub HaveRoomForRow : List (Option Tallying) → Type 0
HaveRoomForRow tallies = (k : ℕ) → k < length tallies → IfSome (tally_at tallies k) (λ tally. tally.count < 2 ^ 63)

-- no column has more than so many values
abbrev pub HaveAtMost : ℕ → List (Option Tallying) → Type 0
HaveAtMost n tallies = (k : ℕ) → k < length tallies → IfSome (tally_at tallies k) (λ tally. tally.count ≤ n)

-- A column with these values of a section: without a value it is kept, and else it is in its least form in these classes, where its form spells
-- the values.
pub record IsBestFor (classes : Classes) (section : List ℕ) (values : List Value) (old new : Spec) : Type 0 where
  pub unused : values ≡ [] → new ≡ old
  pub chosen : values ≢ [] → AreSpelled old.name old.form old.constant (meanings_in section values) → IsChosen classes old (meanings_in section values) new

-- there are as many new columns, each the best for the values of its old one
pub record AreBestFor (classes : Classes) (section : List ℕ) (values : ℕ → List Value) (old new : List Spec) : Type 0 where
  pub count : length new ≡ length old
  pub each : (k : ℕ) → k < length old → IsBestFor classes section (values k) (spec_at old k) (spec_at new k)

-- The columns of an abbreviation table, whose values come entry by entry.
-- Inner functions and proofs alone need what stands here.
use Rattle.std.specs.Prelude.{◌≡◌, ◌≢◌, ◌≤◌, ◌<◌, ◌+◌, ◌⊎◌, ◌↔◌, ℕ, Bool, IsTrue, List, [], ◌∷◌, ◌++◌, length, Option, IfSome}
use Rattle.dw_base.specs.declared.classes.Classes.{Classes}
use Rattle.form_codec.specs.declared.value.Value.{Value}
use Rattle.abbrev_tables.specs.declared.decl.Spec.{Spec}
use Rattle.abbrev_tables.specs.Listings.{spec_at}
use Rattle.form_codec.specs.Columns.{AreSpelled, IsLeastForm}
use Rattle.column_forms.specs.Tallies.{Tallying, IsHere, meanings_in}
use Rattle.column_forms.specs.Rows.{value_at}
use Rattle.column_forms.specs.TableColumns.{tally_at, IsTallyOf, IsBestFor}

-- what is held of a column after one more value
abbrev pub IsNextTally : ℕ → Value → Option Tallying → Option Tallying → Type 0
IsNextTally name v old new = (section : List ℕ) (values : List Value) → IsHere section v → IsTallyOf section name values old → IsTallyOf section name (values ++ v ∷ []) new

-- a column has at most one value more
abbrev pub HasOneMore : Option Tallying → Option Tallying → Type 0
HasOneMore old new = (n : ℕ) → IfSome old (λ tally. tally.count ≤ n) → IfSome new (λ tally. tally.count ≤ n + 1)

-- the first so many values of a row are counted, each in its column from a first one on, and the other columns hold what they did
pub record AreCounted (first : ℕ) (columns : List Spec) (row : List Value) (done : ℕ) (old new : List (Option Tallying)) : Type 0 where
  pub same : length new ≡ length old
  pub next : (j : ℕ) → j < done → IsNextTally (spec_at columns j).name (value_at row j) (tally_at old (first + j)) (tally_at new (first + j))
  pub more : (j : ℕ) → j < done → HasOneMore (tally_at old (first + j)) (tally_at new (first + j))
  pub others : (k : ℕ) → (k < first) ⊎ (first + done ≤ k) → tally_at new k ≡ tally_at old k

-- a column is the best for all values of which this is held
abbrev pub IsBestOfTally : Classes → Option Tallying → Spec → Spec → Type 0
IsBestOfTally classes tally old new = (section : List ℕ) (values : List Value) → IsTallyOf section old.name values tally → IsBestFor classes section values old new

-- of a column with values of which this is held it is told whether it is in a least form, where its form spells them
abbrev pub IsLeastOfTally : Classes → Option Tallying → Spec → Bool → Type 0
IsLeastOfTally classes tally column told =
    (section : List ℕ) (values : List Value) → IsTallyOf section column.name values tally → values ≢ [] → AreSpelled column.name column.form column.constant (meanings_in section values) → IsTrue told ↔ IsLeastForm classes column.name (meanings_in section values) column.form column.constant

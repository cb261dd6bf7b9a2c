-- Columns of the values of a declaration's entries, which stand row by row: an entry is a row.
use Rattle.std.specs.Prelude.{◌≡◌, ◌<◌, ◌+◌, ◌*◌, ℕ, zero, suc, List, [], ◌∷◌, ◌++◌, length, slice_index_or}
use Rattle.dw_base.specs.Classes.{every}
use Rattle.form_codec.specs.declared.value.Value.{Value}
use Rattle.form_codec.specs.declared.value.Value.TheVariants as value
use Rattle.abbrev_tables.specs.declared.decl.Spec.{Spec}
use Rattle.abbrev_tables.specs.Listings.{spec_at}
use Rattle.form_codec.specs.Columns.{AreSpelled}
use Rattle.column_forms.specs.Columns.{IsChosen}
use Rattle.column_forms.specs.Tallies.{IsHere, meanings_in}

-- the value at a place; past the end there is none, and an address 0 stands for it
abbrev pub value_at : List Value → ℕ → Value
value_at values k = slice_index_or values k (value.Addr 0)

-- the values of a column in the first so many rows of a width
abbrev pub column_of : List Value → ℕ → ℕ → ℕ → List Value
column_of values width column zero = []
column_of values width column (suc rows) = column_of values width column rows ++ value_at values (rows * width + column) ∷ []

-- all values are values of a section
abbrev pub AreHere : List ℕ → List Value → Type 0
AreHere section values = (k : ℕ) → k < length values → IsHere section (value_at values k)

-- there are so many new columns, and each is the old one in the form that is least in the classes with all members, where the old form spells its values
pub record AreChosen (columns : List Spec) (rows count : ℕ) (values : List Value) (chosen : List Spec) : Type 0 where
  pub many : length chosen ≡ count
  pub each : (section : List ℕ) (j : ℕ) → j < count → AreHere section values → AreSpelled (spec_at columns j).name (spec_at columns j).form (spec_at columns j).constant (meanings_in section (column_of values (length columns) j rows)) → IsChosen every (spec_at columns j) (meanings_in section (column_of values (length columns) j rows)) (spec_at chosen j)

-- Abbreviation tables (DWARF 5 section 7.5.3): declarations one after the other, and then a code 0.
use Rattle.std.specs.Prelude.{◌≡◌, ◌≢◌, ◌<◌, ◌^◌, ◌⊎◌, ℕ, ℤ, pos, List, [], ◌∷◌, length, Bool, true, false, slice_index, map}
use Rattle.leb_codec.specs.Leb.{Uleb, Sleb}
use Rattle.spelled.specs.Spelled.{UntilEnd, Then, IsAbsent}
use Rattle.form_codec.specs.Forms.{IsKnown}
use Rattle.abbrev_tables.specs.declared.decl.Spec.{Spec}

-- a tag or the name of an attribute: it fits 32 bits
abbrev pub SpellsName : ℕ → List ℕ → Type 0
SpellsName name bytes = Uleb name bytes × (name < 2 ^ 32)

-- DW_FORM_implicit_const, whose constant stands in the declaration
abbrev pub implicit_const : ℕ
implicit_const = 33

-- the constant of a column: a number for implicit_const, and nothing for another form
abbrev pub SpellsConstant : ℕ → ℤ → List ℕ → Type 0
SpellsConstant form constant bytes = ((form ≡ implicit_const) × Sleb constant bytes) ⊎ ((form ≢ implicit_const) × IsAbsent (pos 0) constant bytes)

-- the name of an attribute, which isn't 0, the code of a form that is known, and its constant
pub record SpellsColumn (column : Spec) (bytes : List ℕ) : Type 0 where
  pub named : column.name ≢ 0
  pub known : IsKnown column.form
  pub parts : Then SpellsName (λ _. Then Uleb SpellsConstant) (column.name, (column.form, column.constant)) bytes

-- two numbers 0 in place of a name and a form
abbrev pub IsColumnsEnd : List ℕ → Type 0
IsColumnsEnd bytes = Then SpellsName (λ _. Uleb) (0, 0) bytes

abbrev pub SpellsColumns : List Spec → List ℕ → Type 0
SpellsColumns columns bytes = UntilEnd SpellsColumn IsColumnsEnd columns bytes

-- whether entries have children
abbrev pub SpellsChildren : Bool → List ℕ → Type 0
SpellsChildren true bytes = bytes ≡ 1 ∷ []
SpellsChildren false bytes = bytes ≡ 0 ∷ []

pub record Declared : Type 0 where
  pub code : ℕ
  pub tag : ℕ
  pub children : Bool
  pub columns : List Spec

-- a code, which isn't 0, a tag, whether there are children, and columns up to their end
pub record SpellsDeclared (d : Declared) (bytes : List ℕ) : Type 0 where
  pub coded : d.code ≢ 0
  pub parts : Then Uleb (λ _. Then SpellsName (λ _. Then SpellsChildren (λ _. SpellsColumns))) (d.code, (d.tag, (d.children, d.columns))) bytes

-- a code 0
abbrev pub IsTableEnd : List ℕ → Type 0
IsTableEnd bytes = Uleb 0 bytes

abbrev pub codes_of : List Declared → List ℕ
codes_of ds = map (λ d. d.code) ds

-- no two of these are the same
abbrev pub AreDistinct : List ℕ → Type 0
AreDistinct codes = (i j : ℕ) → i < length codes → j < length codes → slice_index codes i ≡ slice_index codes j → i ≡ j

-- the bytes are these declarations, whose codes differ, and a code 0
pub record SpellsTable (ds : List Declared) (bytes : List ℕ) : Type 0 where
  pub spelled : UntilEnd SpellsDeclared IsTableEnd ds bytes
  pub distinct : AreDistinct (codes_of ds)

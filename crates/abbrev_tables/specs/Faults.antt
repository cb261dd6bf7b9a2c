-- Why bytes don't begin with an abbreviation table: the first fault from the left. Places count from the first byte.
use Rattle.std.specs.Prelude.{◌≡◌, ◌≢◌, ◌≤◌, ◌<◌, ◌^◌, ◌⊎◌, ℕ, List, [], ◌++◌, length, slice_index}
use Rattle.dw_base.specs.declared.fault.Kind.{Kind}
use Rattle.dw_base.specs.declared.fault.Kind.TheVariants.{Limit, LebWide, Short, FormUnknown, CodeTwice}
use Rattle.leb_codec.specs.Leb.{Uleb, IsShort, IsWideUnsigned, IsWideSigned}
use Rattle.spelled.specs.Spelled.{StandsAt, FaultThen, FaultUntilEnd}
use Rattle.form_codec.specs.Forms.{IsKnown}
use Rattle.abbrev_tables.specs.Tables.{SpellsName, implicit_const, SpellsColumn, SpellsChildren, Declared, SpellsDeclared, codes_of}

-- a number
abbrev pub FaultNumber : Kind → ℕ → List ℕ → Type 0
FaultNumber Short at rest = (at ≡ 0) × IsShort rest
FaultNumber LebWide at rest = (at ≡ 0) × IsWideUnsigned rest
FaultNumber kind at rest = ⊥

-- the bytes begin with a number that is 2 ^ 32 or more
pub record IsPastLimit (rest : List ℕ) : Type 0 where
  pub number : ℕ
  pub front : List ℕ
  pub after : List ℕ
  pub spelled : Uleb number front
  pub large : 2 ^ 32 ≤ number
  pub whole : rest ≡ front ++ after

-- a tag or a name
abbrev pub FaultName : Kind → ℕ → List ℕ → Type 0
FaultName Limit at rest = (at ≡ 0) × IsPastLimit rest
FaultName kind at rest = FaultNumber kind at rest

-- exactly one of a name and its form is 0, or no form has this code
abbrev pub IsMismatch : ℕ → ℕ → Type 0
IsMismatch name code = ((name ≡ 0) × (code ≢ 0)) ⊎ ((name ≢ 0) × (¬ IsKnown code))

-- what follows a name and the code of a form: the constant of implicit_const
abbrev pub FaultForm : ℕ → ℕ → Kind → ℕ → List ℕ → Type 0
FaultForm name code Short at rest = (at ≡ 0) × (name ≢ 0) × (code ≡ implicit_const) × IsShort rest
FaultForm name code LebWide at rest = (at ≡ 0) × (name ≢ 0) × (code ≡ implicit_const) × IsWideSigned rest
FaultForm name code FormUnknown at rest = (at ≡ 0) × IsMismatch name code
FaultForm name code kind at rest = ⊥

abbrev pub FaultCode : ℕ → Kind → ℕ → List ℕ → Type 0
FaultCode name kind at rest = FaultThen Uleb FaultNumber (FaultForm name) kind at rest

-- a column, or the end of the columns
abbrev pub FaultColumn : Kind → ℕ → List ℕ → Type 0
FaultColumn kind at rest = FaultThen SpellsName FaultName FaultCode kind at rest

abbrev pub FaultColumns : Kind → ℕ → List ℕ → Type 0
FaultColumns kind at rest = FaultUntilEnd SpellsColumn FaultColumn kind at rest

-- the children byte
abbrev pub FaultChildren : Kind → ℕ → List ℕ → Type 0
FaultChildren Short at rest = (at ≡ 0) × (rest ≡ [])
FaultChildren FormUnknown at rest = (at ≡ 0) × (0 < length rest) × (1 < slice_index rest 0)
FaultChildren kind at rest = ⊥

-- what follows the tag
abbrev pub FaultFlagged : Kind → ℕ → List ℕ → Type 0
FaultFlagged kind at rest = FaultThen SpellsChildren FaultChildren (λ _. FaultColumns) kind at rest

-- what follows a code: nothing after the code 0
abbrev pub FaultTagged : ℕ → Kind → ℕ → List ℕ → Type 0
FaultTagged code kind at rest = (code ≢ 0) × FaultThen SpellsName FaultName (λ _. FaultFlagged) kind at rest

-- a declaration or the code 0, with each fault at the byte that has it
abbrev pub FaultWithin : Kind → ℕ → List ℕ → Type 0
FaultWithin kind at rest = FaultThen Uleb FaultNumber FaultTagged kind at rest

-- a declaration or the code 0. That a form or a children byte isn't known is said of the declaration's first byte.
abbrev pub FaultDeclared : Kind → ℕ → List ℕ → Type 0
FaultDeclared FormUnknown at rest = (at ≡ 0) × ((inner : ℕ) × FaultWithin FormUnknown inner rest)
FaultDeclared kind at rest = FaultWithin kind at rest

-- a declaration has a code that an earlier one has
pub record IsCodeTwice (at : ℕ) (rest : List ℕ) : Type 0 where
  pub before : List Declared
  pub later : Declared
  pub stands : StandsAt SpellsDeclared rest before later at
  pub earlier : ℕ
  pub inside : earlier < length before
  pub same : slice_index (codes_of before) earlier ≡ later.code

abbrev pub FaultTable : Kind → ℕ → List ℕ → Type 0
FaultTable CodeTwice at rest = IsCodeTwice at rest
FaultTable kind at rest = FaultUntilEnd SpellsDeclared FaultDeclared kind at rest

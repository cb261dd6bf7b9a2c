-- What the parts of the reader give.
-- Inner functions and proofs alone need what stands here.
use Rattle.std.specs.Prelude.{◌≡◌, ◌≢◌, ◌≤◌, ◌<◌, ℕ, List, [], ◌++◌, length, take, Option, Some, None, Bool}
use Rattle.leb_codec.specs.Leb.{Uleb}
use Rattle.spelled.specs.Spelled.{Then}
use Rattle.form_codec.specs.Forms.{IsKnown}
use Rattle.abbrev_tables.specs.declared.decl.Spec.{Spec}
use Rattle.abbrev_tables.specs.declared.read.Step.{Step}
use Rattle.abbrev_tables.specs.declared.read.Step.TheVariants.{Column as AColumn, End as TheEnd}
use Rattle.abbrev_tables.specs.declared.read.ReadStep.{ReadStep}
use Rattle.abbrev_tables.specs.declared.read.Head.{Head}
use Rattle.abbrev_tables.specs.declared.read.ReadDecl.{ReadDecl}
use Rattle.abbrev_tables.specs.declared.read.Stop.{Stop}
use Rattle.abbrev_tables.specs.declared.read.Stop.TheVariants.{Fault as AFault, NoMemory}
use Rattle.dw_base.specs.declared.fault.Kind.{Kind}
use Rattle.abbrev_tables.specs.Tables.{SpellsName, SpellsConstant, SpellsColumn, IsColumnsEnd, SpellsColumns, SpellsChildren, SpellsDeclared, IsTableEnd}

-- a column or the end, behind a name and the code of a form
abbrev pub SpellsForm : ℕ → ℕ → Step → List ℕ → Type 0
SpellsForm name code (AColumn c) bytes = (name ≢ 0) × IsKnown code × (c.name ≡ name) × (c.form ≡ code) × SpellsConstant code c.constant bytes
SpellsForm name code TheEnd bytes = (name ≡ 0) × (code ≡ 0) × (bytes ≡ [])

abbrev pub IsReadForm : ℕ → ℕ → List ℕ → ReadStep → Type 0
IsReadForm name code rest r = (r.end ≤ length rest) × SpellsForm name code r.step (take r.end rest)

-- the code of a form and a step, behind a name
pub record SpellsCode (name : ℕ) (step : Step) (bytes : List ℕ) : Type 0 where
  pub code : ℕ
  pub head : List ℕ
  pub body : List ℕ
  pub number : Uleb code head
  pub form : SpellsForm name code step body
  pub whole : bytes ≡ head ++ body

abbrev pub IsReadCode : ℕ → List ℕ → ReadStep → Type 0
IsReadCode name rest r = (r.end ≤ length rest) × SpellsCode name r.step (take r.end rest)

abbrev pub SpellsStep : Step → List ℕ → Type 0
SpellsStep (AColumn c) bytes = SpellsColumn c bytes
SpellsStep TheEnd bytes = IsColumnsEnd bytes

abbrev pub IsReadStep : List ℕ → ReadStep → Type 0
IsReadStep rest r = (r.end ≤ length rest) × (0 < r.end) × SpellsStep r.step (take r.end rest)

-- what follows a tag, and what follows a code
abbrev pub SpellsFlagged : Bool → List Spec → List ℕ → Type 0
SpellsFlagged children columns bytes = Then SpellsChildren (λ _. SpellsColumns) (children, columns) bytes

abbrev pub SpellsTagged : ℕ → Bool → List Spec → List ℕ → Type 0
SpellsTagged tag children columns bytes = Then SpellsName (λ _. Then SpellsChildren (λ _. SpellsColumns)) (tag, (children, columns)) bytes

-- columns that were put behind others
pub record HasColumns (Spells : List Spec → List ℕ → Type 0) (old new : List Spec) (bytes : List ℕ) : Type 0 where
  pub columns : List Spec
  pub added : new ≡ old ++ columns
  pub spelled : Spells columns bytes

-- a declaration or the code 0
abbrev pub IsDeclOrEnd : Option Head → List Spec → List Spec → List ℕ → Type 0
IsDeclOrEnd None old new bytes = (new ≡ old) × IsTableEnd bytes
IsDeclOrEnd (Some h) old new bytes = HasColumns (λ columns. SpellsDeclared (record { code = h.code; tag = h.tag; children = h.children; columns = columns })) old new bytes

abbrev pub IsReadDecl : List ℕ → List Spec → List Spec → ReadDecl → Type 0
IsReadDecl rest old new r = (r.end ≤ length rest) × (0 < r.end) × IsDeclOrEnd r.head old new (take r.end rest)

-- memory was wanting, or the bytes have the fault
abbrev pub IsStop : (Kind → ℕ → List ℕ → Type 0) → List ℕ → Stop → Type 0
IsStop F rest (AFault f) = (f.at ≤ length rest) × F f.kind f.at rest
IsStop F rest NoMemory = Unit {0}

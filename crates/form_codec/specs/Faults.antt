-- Why bytes up to an end don't begin with a value of a form.
use Rattle.std.specs.Prelude.{◌≡◌, ◌<◌, ◌+◌, ◌⊎◌, ℕ, List, ◌++◌, length, ℤ}
use Rattle.dw_base.specs.declared.fault.Kind.{Kind}
use Rattle.dw_base.specs.declared.fault.Kind.TheVariants.{Short, LebWide, Text}
use Rattle.leb_codec.specs.Leb.{Uleb, IsShort, IsWideUnsigned, IsWideSigned}
use Rattle.form_codec.specs.declared.form.Form.{Form}
use Rattle.form_codec.specs.declared.form.Shape.{Shape}
use Rattle.form_codec.specs.declared.form.Shape.TheVariants.{Constant, Present, Number, Uleb as ByUleb, Sleb as BySleb, Counted, UlebCounted, Sixteen, ZeroEnded}
use Rattle.fixed_width.specs.Numbers.{number}
use Rattle.form_codec.specs.Forms.{size_of, code_of, shape_of, HasNoZero}

-- a count that fits, and fewer bytes after it
pub record IsCutOff (rest : List ℕ) : Type 0 where
  pub head : List ℕ
  pub body : List ℕ
  pub count : ℕ
  pub counted : Uleb count head
  pub whole : rest ≡ head ++ body
  pub short : length body < count

-- the bytes end inside the value, or inside its count
abbrev pub IsShapeShort : Shape → List ℕ → Type 0
IsShapeShort (Constant v) rest = ⊥
IsShapeShort Present rest = ⊥
IsShapeShort (Number width role) rest = length rest < size_of width
IsShapeShort (ByUleb role) rest = IsShort rest
IsShapeShort BySleb rest = IsShort rest
IsShapeShort (Counted width) rest = (length rest < size_of width) ⊎ (length rest < size_of width + number (size_of width) rest)
IsShapeShort (UlebCounted kind) rest = IsShort rest ⊎ IsCutOff rest
IsShapeShort Sixteen rest = length rest < 16
IsShapeShort ZeroEnded rest = ⊥

-- the value or its count is a LEB that doesn't fit 64 bits
abbrev pub IsShapeWide : Shape → List ℕ → Type 0
IsShapeWide (ByUleb role) rest = IsWideUnsigned rest
IsShapeWide BySleb rest = IsWideSigned rest
IsShapeWide (UlebCounted kind) rest = IsWideUnsigned rest
IsShapeWide (Constant v) rest = ⊥
IsShapeWide Present rest = ⊥
IsShapeWide (Number width role) rest = ⊥
IsShapeWide (Counted width) rest = ⊥
IsShapeWide Sixteen rest = ⊥
IsShapeWide ZeroEnded rest = ⊥

-- a text doesn't end
abbrev pub IsShapeUnended : Shape → List ℕ → Type 0
IsShapeUnended ZeroEnded rest = HasNoZero rest
IsShapeUnended shape rest = ⊥

-- the fault of each kind
abbrev pub FaultShape : Shape → Kind → List ℕ → Type 0
FaultShape shape Short rest = IsShapeShort shape rest
FaultShape shape LebWide rest = IsShapeWide shape rest
FaultShape shape Text rest = IsShapeUnended shape rest
FaultShape shape kind rest = ⊥

-- the fault of this kind of bytes that are to begin with a value of the form with this code under this name; its place is their first byte
pub record FaultValue (name code : ℕ) (constant : ℤ) (kind : Kind) (rest : List ℕ) : Type 0 where
  pub form : Form
  pub known : code_of form ≡ code
  pub fault : FaultShape (shape_of form name constant) kind rest

-- Sizes of slots that are added behind others: those of an operation, of an expression and of a value.
use Rattle.std.specs.Prelude.{◌≡◌, ◌≤◌, ◌+◌, ◌-◌, ◌++◌, ◌∷◌, ℕ, List, length, sum, take, drop}
use Rattle.std.specs.List.{AllZip}
use Rattle.dw_base.specs.declared.fault.Reach.TheVariants.{Wide}
use Rattle.leb_codec.specs.Layout.{SlotForm, uleb}
use Rattle.slot_layout.specs.Rows.{CanHaveSize}
use Rattle.expr_ops.specs.declared.op.Op.{Op}
use Rattle.expr_ops.specs.declared.table.Shape.{Shape}
use Rattle.expr_ops.specs.declared.table.Shape.TheVariants as shape
use Rattle.expr_ops.specs.Expressions.{Operation, IsExpression}
use Rattle.expr_ops.specs.Ops.{all_meant, Chain}
use Rattle.expr_ops.specs.Slots.{Aim, slot_form}
use Rattle.expr_ops.specs.Slots.Aim.{Place, Length}
use Rattle.form_codec.specs.Forms.{Meaning}
use Rattle.entry_read.specs.Slots.{value_aims}
use Rattle.unit_slots.specs.Standing.{BeginsWith, IsSizeOf, slotted, AreMeaningSizes}

-- the bytes begin with a thing
abbrev pub Begins : {V : Type 0} → (V → List ℕ → Type 0) → List ℕ → Type 0
Begins {V} Spells bytes = (v : V) × (first : List ℕ) × (rest : List ℕ) × Spells v first × (bytes ≡ first ++ rest)

-- a thing stands at a place and ends at another
pub record IsEndOf {V : Type 0} (Spells : V → List ℕ → Type 0) (bytes : List ℕ) (at end : ℕ) : Type 0 where
  pub thing : V
  pub starts : at ≤ end
  pub inside : end ≤ length bytes
  pub spelled : Spells thing (take (end - at) (drop at bytes))

-- an operand of this shape is a number without a sign
abbrev pub IsNumber : Shape → Type 0
IsNumber (shape.Unsigned width) = Unit {0}
IsNumber shape.Uleb = Unit {0}
IsNumber other = ⊥

-- the bytes are an expression, and these are its operations, each at its place
pub record AreOperationsOf (bytes : List ℕ) (ops : List Op) : Type 0 where
  pub spelled : IsExpression Wide (all_meant bytes ops) bytes
  pub places : Chain bytes 0 ops (length bytes)

-- such sizes are added behind others
pub record AddsSizes (Are : List ℕ → Type 0) (old new : List ℕ) : Type 0 where
  pub added : List ℕ
  pub behind : new ≡ old ++ added
  pub are : Are added

-- nothing but what is added is new
abbrev pub GoesOn : List ℕ → List ℕ → Type 0
GoesOn = AddsSizes (λ (added : List ℕ). Unit {0})

-- what spells the number of a slot that tells this
abbrev pub form_told : Aim → SlotForm
form_told (Place form n) = form
form_told (Length fixed count) = uleb

-- slots that tell this can have these sizes
abbrev pub CanHaveSizes : List Aim → List ℕ → Type 0
CanHaveSizes aims sizes = AllZip (λ (aim : Aim) (size : ℕ). CanHaveSize (form_told aim) size) aims sizes

-- The slots of the operations have these sizes. Each stands behind an opcode.
pub record AreOpSizes (bytes : List ℕ) (ops : List Op) (sizes : List ℕ) : Type 0 where
  pub each : AllZip (IsSizeOf bytes) (slotted ops) sizes
  pub can : AllZip (λ (op : Op) (size : ℕ). CanHaveSize (slot_form op.code) size) (slotted ops) sizes
  pub room : sum sizes + length sizes ≤ length bytes

-- The length of an expression, which begins the bytes `front`, has the first size, and the slots of its operations have the others.
pub record HasExpressionSizes (front bytes : List ℕ) (ops : List Op) (sizes : List ℕ) : Type 0 where
  pub first : ℕ
  pub others : List ℕ
  pub whole : sizes ≡ first ∷ others
  pub counted : BeginsWith first front
  pub operations : AreOpSizes bytes ops others

-- The slots of a value that stands from a place up to another have these sizes, and lie there. These are its operations.
pub record HasValueSizes (section : List ℕ) (from to : ℕ) (meaning : Meaning) (os : List Operation) (sizes : List ℕ) : Type 0 where
  pub are : AreMeaningSizes section from to meaning sizes
  pub can : CanHaveSizes (value_aims meaning os) sizes
  pub room : from + sum sizes ≤ to

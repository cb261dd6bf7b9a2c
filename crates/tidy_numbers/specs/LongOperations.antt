-- The numbers of expressions that have a byte too many (DWARF 5 sections 2.5, 2.6.1, 7.6 and 7.7.1): operands, and the lengths of blocks.
-- Where the expression is one of a unit, as those of its entries and of the location lists that it owns are, references to base types and
-- the lengths of what entry_values hold are slots, whose sizes are the matter of the unit's layout. Places count from the first byte of the
-- expression.
use Rattle.std.specs.Prelude.{◌≡◌, ◌+◌, ◌&&◌, ◌⊎◌, ℕ, List, drop, length, Bool, Some, IsFalse}
use Rattle.std.specs.List.{Contains}
use Rattle.dw_base.specs.declared.fault.Reach.TheVariants.{Wide}
use Rattle.expr_ops.specs.declared.op.Op.{Op}
use Rattle.expr_ops.specs.declared.table.Shape.{Shape}
use Rattle.expr_ops.specs.declared.table.Shape.TheVariants as shape
use Rattle.expr_ops.specs.declared.table.Operands.{Operands}
use Rattle.expr_ops.specs.declared.table.Operands.TheVariants as operands
use Rattle.expr_ops.specs.Drafts.{is_slot}
use Rattle.expr_ops.specs.Expressions.{IsExpression}
use Rattle.expr_ops.specs.Heads.{SpellsPart}
use Rattle.expr_ops.specs.Ops.{all_meant, Chain}
use Rattle.expr_ops.specs.Table.{operands_of}
use Rattle.tidy_numbers.specs.Fronts.{IsLong, IsLongSigned, Behind}

-- an operand of this shape
abbrev pub IsLongPart : Shape → ℕ → List ℕ → Type 0
IsLongPart shape.Uleb at bytes = IsLong at bytes
IsLongPart shape.Sleb at bytes = IsLongSigned at bytes
IsLongPart shape.Counted at bytes = IsLong at bytes
IsLongPart other at bytes = ⊥

-- Operands, of which one may be a slot: the only one, the first of two, or the one that names a type.
abbrev pub AreLongOperands : Bool → Operands → ℕ → List ℕ → Type 0
AreLongOperands slot operands.Nothing at bytes = ⊥
AreLongOperands slot (operands.One s) at bytes = IsFalse slot × IsLongPart s at bytes
AreLongOperands slot (operands.Two s t) at bytes = (IsFalse slot × IsLongPart s at bytes) ⊎ Behind (SpellsPart s) (λ part. IsLongPart t) at bytes
AreLongOperands slot (operands.Typed s) at bytes = IsLongPart s at bytes ⊎ Behind (SpellsPart s) (λ part inner rest. IsFalse slot × IsLong inner rest) at bytes

-- an operand of an operation; `owned` tells whether the expression is one of a unit
pub record IsLongOperand (owned : Bool) (bytes : List ℕ) (op : Op) (p : ℕ) : Type 0 where
  pub operands : Operands
  pub known : operands_of op.code ≡ Some operands
  pub inner : ℕ
  pub long : AreLongOperands (owned && is_slot op.code op.a) operands inner (drop (op.at + 1) bytes)
  pub place : p ≡ op.at + 1 + inner

-- an operand of an operation of the expression, also of one inside an entry_value
pub record IsLongInExpression (owned : Bool) (bytes : List ℕ) (p : ℕ) : Type 0 where
  pub ops : List Op
  pub spelled : IsExpression Wide (all_meant bytes ops) bytes
  pub places : Chain bytes 0 ops (length bytes)
  pub op : Op
  pub among : Contains ops op
  pub long : IsLongOperand owned bytes op p

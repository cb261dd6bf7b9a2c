-- Expressions that are held with their operations.
use Rattle.std.specs.Prelude.{◌≡◌, ◌≤◌, ◌+◌, ℕ, List, length, Bool, true}
use Rattle.dw_base.specs.declared.fault.Reach.TheVariants.{Wide}
use Rattle.dw_base.specs.declared.fault.Span.{Span}
use Rattle.expr_ops.specs.declared.op.Op.{Op}
use Rattle.expr_ops.specs.Expressions.{IsExpression}
use Rattle.expr_ops.specs.Ops.{all_meant, Chain}
use Rattle.form_codec.specs.Values.{bytes_in}
use Rattle.entry_arena.specs.Arena.{Arena}
use Rattle.entry_arena.specs.Operations.{HeldOps, ops_of}
use Rattle.entry_read.specs.Expressions.{IsExprAt}
use Rattle.tidy_numbers.specs.LongOperations.{IsLongInExpression}

-- the bytes are an expression, and these are its operations, each at its place
pub record AreOperationsOf (bytes : List ℕ) (ops : List Op) : Type 0 where
  pub spelled : IsExpression Wide (all_meant bytes ops) bytes
  pub places : Chain bytes 0 ops (length bytes)

-- a number in the expression at a span of a section
abbrev pub IsLongAt : Bool → List ℕ → Span → ℕ → Type 0
IsLongAt owned section span p = (inner : ℕ) × IsLongInExpression owned (bytes_in section span) inner × (p ≡ span.at + inner)

-- the expressions of a unit stand in its section, and these are their operations
abbrev pub AreExpressionsHeld : Arena → HeldOps → Type 0
AreExpressionsHeld forest held =
    (number : ℕ) (span : Span) → IsExprAt forest number span → (span.at + span.len ≤ length forest.section) × AreOperationsOf (bytes_in forest.section span) (ops_of held number)

-- a number in the expression that is the value with a number
abbrev pub IsLongInValue : Arena → ℕ → ℕ → Type 0
IsLongInValue forest number p = (span : Span) × IsExprAt forest number span × IsLongAt true forest.section span p

-- a number in an expression of a unit
abbrev pub IsLongInValues : Arena → ℕ → Type 0
IsLongInValues forest p = (number : ℕ) × IsLongInValue forest number p

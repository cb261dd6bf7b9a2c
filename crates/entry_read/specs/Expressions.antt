-- The expressions of a unit (DWARF 5 sections 2.5, 2.6.1 and 7.7.1): those of its values that have one. Places count from the first
-- byte of the section.
use Rattle.std.specs.Prelude.{◌≡◌, ◌<◌, ◌+◌, ℕ, [], length}
use Rattle.dw_base.specs.declared.fault.Kind.{Kind}
use Rattle.dw_base.specs.declared.fault.Reach.{Reach}
use Rattle.dw_base.specs.declared.fault.Span.{Span}
use Rattle.expr_ops.specs.Expressions.{IsExpression}
use Rattle.expr_ops.specs.ExpressionFaults.{FaultExpression}
use Rattle.expr_ops.specs.Ops.{all_meant, Chain}
use Rattle.form_codec.specs.declared.value.Value.TheVariants as value
use Rattle.form_codec.specs.Values.{bytes_in}
use Rattle.entry_arena.specs.Arena.{Arena, value_at}
use Rattle.entry_arena.specs.Operations.{HeldOps, ops_of}

-- the value with a number is an expression, whose bytes are these of the section
pub record IsExprAt (f : Arena) (number : ℕ) (span : Span) : Type 0 where
  pub inside : number < length f.values
  pub is : value_at f.values number ≡ value.Expr span

-- Of each expression its operations are held, each at its place, and no others.
pub record HasOperations (reach : Reach) (f : Arena) (held : HeldOps) : Type 0 where
  pub spelled : (number : ℕ) (span : Span) → IsExprAt f number span → IsExpression reach (all_meant (bytes_in f.section span) (ops_of held number)) (bytes_in f.section span)
  pub places : (number : ℕ) (span : Span) → IsExprAt f number span → Chain (bytes_in f.section span) 0 (ops_of held number) (length (bytes_in f.section span))
  pub only : (number : ℕ) → ((span : Span) → IsExprAt f number span → ⊥) → ops_of held number ≡ []

-- Some expression of the unit has a fault.
pub record FaultExpressions (f : Arena) (reach : Reach) (kind : Kind) (place : ℕ) : Type 0 where
  pub number : ℕ
  pub span : Span
  pub stands : IsExprAt f number span
  pub inner : ℕ
  pub fault : FaultExpression reach kind inner (bytes_in f.section span)
  pub here : place ≡ span.at + inner

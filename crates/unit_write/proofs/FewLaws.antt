-- A value is an expression or none.
use Rattle.std.proofs.Common.{◌≡◌, ◌<◌, ◌⊎◌, ℕ, length, refl, inl, inr}
use Rattle.dw_base.specs.declared.fault.Span.{Span}
use Rattle.form_codec.specs.declared.value.Value.{Value}
use Rattle.form_codec.specs.declared.value.Value.TheVariants as value
use Rattle.entry_arena.specs.Arena.{Arena, value_at}
use Rattle.entry_read.specs.Expressions.{IsExprAt}

expr_or_none : (v : Value) → ((span : Span) × (v ≡ value.Expr span)) ⊎ ((span : Span) → v ≡ value.Expr span → ⊥)
expr_or_none (value.Expr span) = inl (span, refl)
expr_or_none v = inr (λ span e. absurd (cc (e)))

-- a value is an expression or none
pub expr_or_other : (f : Arena) (k : ℕ) → k < length f.values → ((span : Span) × IsExprAt f k span) ⊎ ((span : Span) → IsExprAt f k span → ⊥)
expr_or_other f k lt = elim (expr_or_none (value_at f.values k)) [
  | inl e ↦ inl (e.0, record { inside = lt; is = e.1 })
  | inr none ↦ inr (λ span is. none span is.is)
]

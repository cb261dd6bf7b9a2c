use Rattle.std.proofs.Common.{◌∙◌, List, ℕ, sym, subst}
use Rattle.std.specs.Prelude.{true}
use Rattle.tidy_places.specs.Firsts.{IsLeastFound}
use Rattle.tidy_numbers.specs.inside.Expressions.{IsLongAt}
use Rattle.tidy_numbers.proofs.ExpressionPlaces.{value_found}
use Rattle.tidy_numbers.proofs.operations.first_in_value.Goals as goal

pub returns-in-Expr : goal.returns-in-Expr
returns-in-Expr c =
    value_found c.args.forest.now c.args.number c.in-Expr.span c.first_at.result (record { inside = c.requires.known; is = sym c.value.ensures ∙ c.in-Expr.is })
    (subst (λ (z : List ℕ). IsLeastFound (IsLongAt true z c.in-Expr.span) c.first_at.result) c.section.ensures c.first_at.ensures)

use Rattle.std.proofs.Common.{◌≡◌, ◌<◌, ◌∙◌, ℕ, true, List, length, replicate, get_or, ap, subst}
use Rattle.std.specs.Prelude.{Bool, false}
use Rattle.std.proofs.lemmas.List.{get_or-replicate, length-replicate}
use Rattle.tidy_tables.proofs.column_values.ColumnValues.new.Goals as goal

pub returns-clause-none : goal.returns-clause-none
returns-clause-none c = λ section names.
    let inside : List Bool = c.in_ok-vec.field-0.items in
    let all : inside ≡ replicate c.args.count true = c.in_ok-vec.ensures.items_if_clones_equal (λ y same. same) in
    record {
      tallied = c.in_ok-new.ensures.none section names;
      told = λ k below. ap (λ (z : List Bool). get_or z k false) all ∙ get_or-replicate c.args.count k true false (subst (λ (n : ℕ). k < n) (ap length all ∙ length-replicate c.args.count true) below);
    }

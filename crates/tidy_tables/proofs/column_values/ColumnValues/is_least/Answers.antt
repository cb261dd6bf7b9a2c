use Rattle.std.proofs.Common.{◌≡◌, ◌∙◌, ℕ, false, sym}
use Rattle.std.proofs.lemmas.List.{get_or_default}
use Rattle.tidy_tables.specs.inside.ColumnValues.{told_at, without_heads}
use Rattle.tidy_tables.proofs.LeastColumns.{inside_told, outside_told}
use Rattle.tidy_tables.proofs.column_values.ColumnValues.is_least.Goals as goal

pub returns-then-index : goal.returns-then-index
returns-then-index c = λ section names values named holds some spelled.
    let k : ℕ = c.args.k in
    let told : c.index.result.now ≡ told_at c.args.self.now.inside.items k = c.index.ensures ∙ get_or_default c.args.self.now.inside.items k c.index.result.now false c.requires.inside in
    inside_told section c.args.classes c.args.column (values k) (sym (told ∙ holds.told k c.requires.inside) ∙ c.if-index.true) some spelled

pub returns : goal.returns
returns c = λ section names values named holds some spelled.
    let k : ℕ = c.args.k in
    let told : c.index.result.now ≡ told_at c.args.self.now.inside.items k = c.index.ensures ∙ get_or_default c.args.self.now.inside.items k c.index.result.now false c.requires.inside in
    outside_told section c.args.classes c.args.column (values k) c.is_least.result (sym (told ∙ holds.told k c.requires.inside) ∙ c.if-index.false) some (λ here. c.is_least.ensures section names (λ j. without_heads (values j)) named holds.tallied here spelled)

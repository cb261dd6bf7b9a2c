use Rattle.std.proofs.Common.{◌≡◌, ℕ, List, get_or, ◌∙◌, sym, subst}
use Rattle.std.specs.Prelude.{Option, None}
use Rattle.std.proofs.lemmas.List.{get_or_default}
use Rattle.column_forms.specs.Tallies.{Tallying}
use Rattle.column_forms.specs.TableColumns.{tally_at, IsTallyOf}
use Rattle.column_forms.proofs.tallies.Tallies.is_least.Goals as goal

pub returns : goal.returns
returns c = λ section names values named held some s.
    let tallies : List (Option Tallying) = c.args.self.now in
    let k : ℕ = c.args.k in
    let tally : Option Tallying = c.index.result.now in
    let at : tally ≡ get_or tallies k tally = subst (λ (z : List (Option Tallying)). tally ≡ get_or z k tally) c.self.view_is c.index.ensures in
    let here : tally ≡ tally_at tallies k = at ∙ get_or_default tallies k tally None c.requires in
    let own : IsTallyOf section c.args.column.name (values k) (tally_at tallies k) = subst (λ (z : ℕ). IsTallyOf section z (values k) (tally_at tallies k)) named (held k c.requires) in
    c.is_least_for.ensures section (values k) (subst (λ (z : Option Tallying). IsTallyOf section c.args.column.name (values k) z) (sym here) own) some s

use Rattle.std.proofs.Common.{◌≡◌, ◌∙◌, ap, sym, subst, refl, true≢false}
use Rattle.std.specs.Prelude.{false, not}
use denote.Enum.Bare.{sameb}
use Rattle.list_model.specs.contracts.entry.ListKind.{the_type}
use Rattle.list_model.specs.declared.entry.ListKind.TheVariants.{Ranges, Locations}
use Rattle.list_model.specs.declared.entry.ListKind.{ListKind}
use Rattle.value_links.specs.declared.link.Link.TheVariants.{List as AtList}
use Rattle.same_meaning.specs.inside.Compared.{HasListAt}
use Rattle.same_meaning.specs.inside.Values.{IsThere}
use Rattle.same_meaning.proofs.LinkComparisons.{if_ok, list_told}
use Rattle.same_meaning.proofs.values.name_same_list.Goals as goal

kinds_alike : (a b : ListKind) → false ≡ not (sameb the_type a b) → a ≡ b
kinds_alike Ranges Ranges e = refl
kinds_alike Ranges Locations e = absurd (true≢false (sym e))
kinds_alike Locations Ranges e = absurd (true≢false (sym e))
kinds_alike Locations Locations e = refl

pub mean_same-requires-clause-second : goal.mean_same-requires-clause-second
mean_same-requires-clause-second c =
    subst (λ (k : ListKind). HasListAt c.args.after.now k c.in-List.place) (kinds_alike c.in-List.other_kind c.args.kind (sym c.if-ne.false ∙ c.ne.ensures)) (subst (IsThere c.args.after.now) c.in-List.is c.requires.second)

pub returns-else-ne-clause-same : goal.returns-else-ne-clause-same
returns-else-ne-clause-same c =
    let same : c.in-List.other_kind ≡ c.args.kind = kinds_alike c.in-List.other_kind c.args.kind (sym c.if-ne.false ∙ c.ne.ensures) in
    if_ok _ _ c.mean_same.result (λ same_list all. list_told c.args.before.now c.args.after.now c.args.kind c.args.at c.in-List.place c.args.other same_list (c.in-List.is ∙ ap (λ (k : ListKind). AtList k c.in-List.place) same) all) c.mean_same.ensures.same

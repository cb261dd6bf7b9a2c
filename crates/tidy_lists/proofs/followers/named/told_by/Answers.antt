use Rattle.std.proofs.Common.{◌≡◌, ◌∙◌, ap, sym, subst, refl, true≢false}
use Rattle.std.specs.Prelude.{false, not}
use denote.Enum.Bare.{sameb}
use Rattle.list_model.specs.contracts.entry.ListKind.{the_type}
use Rattle.list_model.specs.declared.entry.ListKind.TheVariants.{Ranges, Locations}
use Rattle.list_model.specs.declared.entry.ListKind.{ListKind}
use Rattle.value_links.specs.declared.link.Link.TheVariants.{List as AtList}
use Rattle.tidy_lists.specs.inside.NamedNumbers.{IsThere}
use Rattle.tidy_lists.proofs.ToldNumbers.{list_told, run_told}
use Rattle.tidy_lists.proofs.followers.named.told_by.Goals as goal

kinds_alike : (a b : ListKind) → false ≡ not (sameb the_type a b) → a ≡ b
kinds_alike Ranges Ranges e = refl
kinds_alike Ranges Locations e = absurd (true≢false (sym e))
kinds_alike Locations Ranges e = absurd (true≢false (sym e))
kinds_alike Locations Locations e = refl

pub list_number-requires-clause-there : goal.list_number-requires-clause-there
list_number-requires-clause-there c = λ r read holds.
    let same : c.in-List.of ≡ c.in-Lists.kind = kinds_alike c.in-List.of c.in-Lists.kind (sym c.if-ne.false ∙ c.ne.ensures) in
    let link : c.args.link ≡ AtList c.in-Lists.kind c.in-List.place = c.in-List.is ∙ ap (λ (k : ListKind). AtList k c.in-List.place) same in
    subst (IsThere r) link (c.requires.there r read holds)

pub returns-else-ne : goal.returns-else-ne
returns-else-ne c = λ r read holds.
    let same : c.in-List.of ≡ c.in-Lists.kind = kinds_alike c.in-List.of c.in-Lists.kind (sym c.if-ne.false ∙ c.ne.ensures) in
    let link : c.args.link ≡ AtList c.in-Lists.kind c.in-List.place = c.in-List.is ∙ ap (λ (k : ListKind). AtList k c.in-List.place) same in
    list_told c.args.world.now.image r read c.args.sought c.in-Lists.kind c.in-Lists.is c.args.link c.in-List.place link c.list_number.result (c.list_number.ensures r read holds)

pub returns-in-Views : goal.returns-in-Views
returns-in-Views c = λ r read holds.
    run_told c.args.world.now.image r read c.args.sought c.in-Runs.is c.args.link c.in-Views.list c.in-Views.place c.in-Views.is c.run_number.result (c.run_number.ensures r read holds)

use Rattle.std.proofs.Common.{ℕ, List, sym, subst}
use Rattle.value_links.specs.Attributes.OffsetClass.{Views}
use Rattle.value_links.specs.Reading.{Linkable}
use Rattle.value_links.specs.Linked.{OffsetLinks}
use Rattle.value_links.specs.Links.{IsFoundFor}
use Rattle.value_links.specs.Parts.{HoldsParts}
use Rattle.value_links.proofs.Locating.{views_link, no_views_link}
use Rattle.value_links.proofs.link.views_at.Goals as goal

pub returns-in_err-list : goal.returns-in_err-list
returns-in_err-list c = λ (file : List ℕ) (r : Linkable) (holds : HoldsParts file r c.args.parts.now).
    subst (IsFoundFor (OffsetLinks r c.args.unit c.args.id Views c.args.place)) (sym c.from_residual.ensures) (no_views_link r c.args.unit c.args.id c.args.place (c.in_err-list.ensures file r holds))

pub returns : goal.returns
returns c = λ (file : List ℕ) (r : Linkable) (holds : HoldsParts file r c.args.parts.now).
    views_link r c.args.unit c.args.id c.args.place c.in_ok-list.list (c.in_ok-list.ensures file r holds)

use Rattle.std.proofs.Common.{ℕ, List, sym, subst}
use Rattle.value_links.specs.Reading.{Linkable}
use Rattle.value_links.specs.Linked.{OffsetLinks}
use Rattle.value_links.specs.Links.{IsFoundFor}
use Rattle.value_links.specs.Parts.{HoldsParts}
use Rattle.value_links.specs.inside.Namings.{class_of}
use Rattle.value_links.proofs.PartLinks.{list_link, no_list_link}
use Rattle.value_links.proofs.link.list_at.Goals as goal

pub returns-in_err-holder_of : goal.returns-in_err-holder_of
returns-in_err-holder_of c = λ (file : List ℕ) (r : Linkable) (u id : ℕ) (holds : HoldsParts file r c.args.parts.now).
    subst (IsFoundFor (OffsetLinks r u id (class_of c.args.kind) c.args.place)) (sym c.from_residual.ensures) (no_list_link file r c.args.parts.now holds c.args.kind c.lists.result.now c.lists.ensures u id c.args.place c.in_err-holder_of.ensures)

pub returns : goal.returns
returns c = λ (file : List ℕ) (r : Linkable) (u id : ℕ) (holds : HoldsParts file r c.args.parts.now).
    list_link file r c.args.parts.now holds c.args.kind c.lists.result.now c.lists.ensures u id c.args.place c.in_ok-holder_of.field-0 c.in_ok-holder_of.ensures

use Rattle.std.proofs.Common.{ℕ, List, sym, subst}
use Rattle.value_links.specs.Reading.{Linkable}
use Rattle.value_links.specs.Linked.{OffsetLinks}
use Rattle.value_links.specs.Links.{IsFoundFor}
use Rattle.value_links.specs.Parts.{HoldsParts}
use Rattle.value_links.specs.inside.Links.{base_class}
use Rattle.value_links.proofs.PartLinks.{base_link, no_base_at}
use Rattle.value_links.proofs.link.base_at.Goals as goal

pub returns-in_err-part : goal.returns-in_err-part
returns-in_err-part c = λ (file : List ℕ) (r : Linkable) (u id : ℕ) (holds : HoldsParts file r c.args.parts.now).
    subst (IsFoundFor (OffsetLinks r u id (base_class c.args.kind) c.args.place)) (sym c.from_residual.ensures) (no_base_at file r c.args.parts.now holds c.args.kind c.lists.result.now c.lists.ensures u id c.args.place c.in_err-part.ensures)

pub returns : goal.returns
returns c = λ (file : List ℕ) (r : Linkable) (u id : ℕ) (holds : HoldsParts file r c.args.parts.now).
    base_link file r c.args.parts.now holds c.args.kind c.lists.result.now c.lists.ensures u id c.args.place c.in_ok-part.part c.in_ok-part.ensures

use Rattle.std.proofs.Common.{ℕ, List, true≢false, sym, subst, ◌∙◌}
use Rattle.std.specs.Prelude.{Option}
use Rattle.list_model.specs.declared.entry.ListKind.TheVariants.{Locations}
use Rattle.value_links.specs.Reading.{Linkable}
use Rattle.value_links.specs.Linked.{AreTogether}
use Rattle.value_links.specs.Parts.{HoldsParts, section_held}
use Rattle.value_links.proofs.PartLinks.{contributions_held}
use Rattle.value_links.proofs.Locating.{IsViewed, none_viewed, viewed, not_viewed}
use Rattle.value_links.proofs.located.viewed_list.Goals as goal

pub returns-in_err-list : goal.returns-in_err-list
returns-in_err-list c = λ (file : List ℕ) (r : Linkable) (holds : HoldsParts file r c.args.parts.now).
    subst (λ (z : Option ℕ). IsViewed r c.args.unit c.args.id c.args.place z) (sym c.from_residual.ensures) (none_viewed r c.args.unit c.args.id c.args.place (c.in_err-list.ensures file r holds))

pub are_together-requires : goal.are_together-requires
are_together-requires c = record { tiled = contributions_held c.args.parts.now Locations c.requires.lists }

pub returns-then-are_together : goal.returns-then-are_together
returns-then-are_together c = λ (file : List ℕ) (r : Linkable) (holds : HoldsParts file r c.args.parts.now).
    viewed file r c.args.parts.now holds c.args.unit c.args.id c.in_ok-list.list c.args.place (c.in_ok-list.ensures file r holds) (c.are_together.ensures.0 c.if-are_together.true)

pub returns-else-are_together : goal.returns-else-are_together
returns-else-are_together c = λ (file : List ℕ) (r : Linkable) (holds : HoldsParts file r c.args.parts.now).
    not_viewed file r c.args.parts.now holds c.args.unit c.args.id c.in_ok-list.list c.args.place (c.in_ok-list.ensures file r holds) (λ (together : AreTogether (section_held c.args.parts.now.locations) c.in_ok-list.list c.args.place). true≢false (sym (c.are_together.ensures.1 together) ∙ c.if-are_together.false))

use Rattle.std.proofs.Common.{◌∙◌, ℕ, List, refl, ap, subst}
use Rattle.value_links.specs.Reading.{ListSection, Linkable}
use Rattle.value_links.specs.ListPlaces.{IsListPlace}
use Rattle.value_links.specs.Parts.{HoldsParts, section_held}
use Rattle.value_links.proofs.NamingPlaces.{offset_place_named}
use Rattle.value_links.proofs.namings.named_by_offset.Goals as goal

pub returns-clause-named : goal.returns-clause-named
returns-clause-named c = λ (u id : ℕ) (file : List ℕ) (r : Linkable) (holds : HoldsParts file r c.args.parts.now).
    offset_place_named r c.args.kind u id c.args.name c.args.place c.in_ok-holder_of.field-0 (c.if-not-has_offsets.ensures.0 refl) (subst (λ (z : ListSection). IsListPlace z c.in_ok-holder_of.field-0 c.args.place) (ap section_held c.lists.ensures ∙ holds.lists c.args.kind) c.in_ok-holder_of.ensures)

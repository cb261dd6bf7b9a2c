use Rattle.std.proofs.Common.{◌∙◌, ◌<◌, ℕ, List, sym, ap, subst}
use Rattle.value_links.specs.declared.list_places.Contributions.{Contributions}
use Rattle.value_links.specs.Reading.{Linkable, part_at}
use Rattle.value_links.specs.Parts.{HoldsParts, section_held}
use Rattle.value_links.proofs.NamingPlaces.{held_tiled, index_found}
use Rattle.value_links.proofs.namings.named_by_index.Goals as goal

pub returns-clause-named : goal.returns-clause-named
returns-clause-named c = λ (id name : ℕ) (file : List ℕ) (r : Linkable) (holds : HoldsParts file r c.args.parts.now).
    let held : Contributions = c.lists.result.now in
    let slot = c.in_ok-part in
    let based = slot.ensures.slot file r holds in
    let counted = subst (λ (z : Contributions). slot.slot < (part_at (section_held z) slot.part).slots) (sym c.lists.ensures) slot.ensures.known.1 in
    index_found r c.args.kind c.args.unit id name c.args.index (section_held held) (ap section_held c.lists.ensures ∙ holds.lists c.args.kind) (held_tiled c.args.parts.now c.args.kind c.requires.lists held c.lists.ensures) slot.part slot.slot based.0 based.1 counted c.named_by_slot.result c.named_by_slot.ensures

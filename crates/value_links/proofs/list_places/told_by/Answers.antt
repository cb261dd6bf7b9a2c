use Rattle.std.proofs.Common.{◌≡◌, ◌≤◌, ◌+◌, ◌∙◌, length, sym, subst}
use Rattle.std.proofs.lemmas.List.{get_or_default}
use Rattle.list_model.specs.declared.contribution.Contribution.{Contribution}
use Rattle.list_model.specs.Contributions.{offset_size, offset_place}
use Rattle.value_links.specs.Reading.{part_at}
use Rattle.value_links.specs.Parts.{section_held}
use Rattle.value_links.proofs.PartPlaces.{no_part, slot_inside}
use Rattle.value_links.proofs.list_places.told_by.Goals as goal

pub told_in-requires : goal.told_in-requires
told_in-requires c =
    let held = c.args.contributions.now in
    let same : c.index.result.now ≡ part_at (section_held held) c.args.part = c.index.ensures ∙ get_or_default held.parts.items c.args.part c.index.result.now no_part c.requires.part in
    subst (λ (z : Contribution). offset_place z.at c.args.slot + offset_size ≤ length held.section.now) (sym same) (slot_inside held.section.now held.parts.items c.requires.tiled.tiled c.args.part c.args.slot c.requires.part c.requires.slot)

use Rattle.std.proofs.Common.{◌≡◌, ◌<◌, ◌+◌, ◌-◌, ◌^◌, ◌∙◌, ℕ, sym, ap, subst, arith, below_more}
use Rattle.list_model.specs.declared.contribution.Contribution.{Contribution}
use Rattle.list_model.specs.Contributions.{offset_place}
use Rattle.value_links.specs.Reading.{ListSection, part_at}
use Rattle.value_links.specs.ListPlaces.{SlotNames}
use Rattle.value_links.specs.Parts.{section_held}
use Rattle.value_links.proofs.NamingLists.{below_next}
use Rattle.value_links.proofs.NamingPlaces.{part_is, slot_room, slot_fault, slot_joined}
use Rattle.value_links.proofs.namings.push_part.Goals as goal

pub slot_place-requires : goal.slot_place-requires
slot_place-requires c =
    let section : ListSection = section_held c.args.contributions.now in
    let holder : c.index-holder.result.now ≡ part_at section c.args.part = part_is c.args.contributions.now.parts.items c.args.part c.index-holder.result.now c.requires.part c.index-holder.ensures in
    let counted : c.loop-slot.slot < (part_at section c.args.part).slots = subst (λ (z : Contribution). c.loop-slot.slot < z.slots) holder c.loop-slot-test.true in
    let room : c.args.origin + offset_place (part_at section c.args.part).at c.loop-slot.slot < 2 ^ 64 = slot_room section c.args.part c.loop-slot.slot c.args.origin c.requires.tiled.tiled c.requires.part counted c.requires.room in
    subst (λ (z : Contribution). offset_place z.at c.loop-slot.slot < 2 ^ 64) (sym holder) (omega arith)

pub overflow_add-result : goal.overflow_add-result
overflow_add-result c =
    let section : ListSection = section_held c.args.contributions.now in
    let holder : c.index-holder.result.now ≡ part_at section c.args.part = part_is c.args.contributions.now.parts.items c.args.part c.index-holder.result.now c.requires.part c.index-holder.ensures in
    let counted : c.loop-slot.slot < (part_at section c.args.part).slots = subst (λ (z : Contribution). c.loop-slot.slot < z.slots) holder c.loop-slot-test.true in
    let place : c.slot_place.result ≡ offset_place (part_at section c.args.part).at c.loop-slot.slot = c.slot_place.ensures ∙ ap (λ (z : Contribution). offset_place z.at c.loop-slot.slot) holder in
    let room : c.args.origin + offset_place (part_at section c.args.part).at c.loop-slot.slot < 2 ^ 64 = slot_room section c.args.part c.loop-slot.slot c.args.origin c.requires.tiled.tiled c.requires.part counted c.requires.room in
    let fits : c.args.origin + c.slot_place.result < 2 ^ 64 = subst (λ (z : ℕ). c.args.origin + z < 2 ^ 64) (sym place) room in
    omega arith

pub returns-in_default-clause-fault : goal.returns-in_default-clause-fault
returns-in_default-clause-fault c =
    let section : ListSection = section_held c.args.contributions.now in
    let holder : c.index-holder.result.now ≡ part_at section c.args.part = part_is c.args.contributions.now.parts.items c.args.part c.index-holder.result.now c.requires.part c.index-holder.ensures in
    let counted : c.loop-slot.slot < (part_at section c.args.part).slots = subst (λ (z : Contribution). c.loop-slot.slot < z.slots) holder c.loop-slot-test.true in
    slot_fault section c.args.part c.loop-slot.slot c.args.origin c.slot_place.result c.requires.part counted c.in_default.ensures (c.slot_place.ensures ∙ ap (λ (z : Contribution). offset_place z.at c.loop-slot.slot) holder)

pub loop-slot-preserved : goal.loop-slot-preserved
loop-slot-preserved c =
    let section : ListSection = section_held c.args.contributions.now in (
      below_next (λ i y. SlotNames section c.args.part i y.0 × (y.1 ≡ 2 ^ 32 - 1)) c.args.namings.now.items c.loop-slot.namings.items c.push.new.namings.items c.loop-slot.slot c.loop-slot.invariant.0 (slot_joined section c.args.part c.loop-slot.slot c.in-Some.at c.loop-slot.namings.items c.push.new.namings.items c.in_ok-push.ensures c.in-Some.ensures),
      below_more (λ (i : ℕ). (at : ℕ) × SlotNames section c.args.part i at) c.loop-slot.slot c.loop-slot.invariant.1 (c.in-Some.at, c.in-Some.ensures),
    )

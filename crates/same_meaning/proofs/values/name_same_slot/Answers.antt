use Rattle.std.proofs.Common.{◌≡◌, ◌∙◌, ℕ, ap, rules}
use Rattle.list_model.specs.declared.entry.ListKind.{ListKind}
use Rattle.value_links.specs.declared.link.Link.TheVariants.{Slot}
use Rattle.same_meaning.proofs.LinkComparisons.{if_ok, slot_told, slot_held}
use Rattle.same_meaning.proofs.values.name_same_slot.Goals as goal

pub mean_same-requires-clause-first : goal.mean_same-requires-clause-first
mean_same-requires-clause-first c =
    slot_held c.args.before.now c.requires.before c.args.kind c.args.part c.args.slot c.told-first.result c.told-first.ensures

pub mean_same-requires-clause-second : goal.mean_same-requires-clause-second
mean_same-requires-clause-second c =
    slot_held c.args.after.now c.requires.after c.args.kind c.in-Slot.other_part c.args.slot c.told-second.result c.told-second.ensures

pub returns-else-other_slot-slot-clause-same : goal.returns-else-other_slot-slot-clause-same
returns-else-other_slot-slot-clause-same c =
    let same : c.in-Slot.other_kind ≡ c.args.kind = search rules in
    let other : c.args.other ≡ Slot c.args.kind c.in-Slot.other_part c.args.slot = c.in-Slot.is ∙ ap (λ (k : ListKind). Slot k c.in-Slot.other_part c.in-Slot.other_slot) same ∙ ap (λ (i : ℕ). Slot c.args.kind c.in-Slot.other_part i) c.if-other_slot-slot.false in
    if_ok _ _ c.mean_same.result (λ same_list all. slot_told c.args.before.now c.args.after.now c.args.kind c.args.part c.in-Slot.other_part c.args.slot c.told-first.result c.told-second.result c.args.other same_list other c.told-first.ensures c.told-second.ensures all) c.mean_same.ensures.same

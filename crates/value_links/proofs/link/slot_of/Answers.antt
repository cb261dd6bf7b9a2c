use Rattle.std.proofs.Common.{◌≤◌, ℕ, List, sym, subst, refl}
use Rattle.value_links.specs.Reading.{Linkable}
use Rattle.value_links.specs.Parts.{HoldsParts, lists_in}
use Rattle.value_links.proofs.PartLinks.{IsSlotFound, no_base_slot, wide_index, past_slots, part_held}
use Rattle.value_links.proofs.link.slot_of.Goals as goal

pub returns-in_err-part-clause-slot : goal.returns-in_err-part-clause-slot
returns-in_err-part-clause-slot c = λ (file : List ℕ) (r : Linkable) (holds : HoldsParts file r c.args.parts.now).
    subst (IsSlotFound r c.args.unit c.args.kind c.args.index) (sym c.from_residual.ensures) (no_base_slot file r c.args.parts.now holds c.args.kind (lists_in c.args.parts.now c.args.kind) refl c.bases.result.now c.bases.ensures c.args.unit c.requires.unit c.args.index c.in_err-part.was)

pub returns-in_err-slot-clause-slot : goal.returns-in_err-slot-clause-slot
returns-in_err-slot-clause-slot c = λ (file : List ℕ) (r : Linkable) (holds : HoldsParts file r c.args.parts.now).
    subst (IsSlotFound r c.args.unit c.args.kind c.args.index) (sym c.from_residual-in_err-slot.ensures) (wide_index file r c.args.parts.now holds c.args.kind (lists_in c.args.parts.now c.args.kind) refl c.bases.result.now c.bases.ensures c.args.unit c.requires.unit c.args.index c.in_err-slot.ensures)

pub returns-else-slot-index-clause-slot : goal.returns-else-slot-index-clause-slot
returns-else-slot-index-clause-slot c = λ (file : List ℕ) (r : Linkable) (holds : HoldsParts file r c.args.parts.now).
    let held = lists_in c.args.parts.now c.args.kind in
    let (same, known) = part_held c.args.parts.now c.args.kind c.requires.lists c.args.unit c.in_ok-part.part c.bases.result.now c.bases.ensures c.requires.unit c.in_ok-part.was c.lists.result.now c.lists.ensures c.index.result.now c.index.ensures in
    past_slots file r c.args.parts.now holds c.args.kind held refl c.bases.result.now c.bases.ensures c.args.unit c.requires.unit c.in_ok-part.part c.in_ok-part.was c.args.index c.in_ok-slot.slot c.in_ok-slot.ensures (subst (λ z. z.slots ≤ c.in_ok-slot.slot) same c.if-slot-index.false)

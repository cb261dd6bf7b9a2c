use Rattle.std.proofs.Common.{◌≡◌, ◌+◌, ◌∙◌, ◌++◌, List, length, map, take, sym, subst, arith}
use Rattle.std.proofs.lemmas.List.{length_push, take_all}
use Rattle.slot_layout.specs.declared.slots.Slot.{Slot}
use Rattle.unit_write.specs.declared.slots.ListSlot.{ListSlot}
use Rattle.unit_write.specs.Slots.{all_spots}
use Rattle.unit_write.specs.inside.Marks.{AreSlotsMade, list_aim}
use Rattle.unit_write.proofs.ListSlots.{listed_more}
use Rattle.unit_write.proofs.slots.push_list_slots.Goals as goal

pub loop-slot-preserved : goal.loop-slot-preserved
loop-slot-preserved c =
    let lists : List ListSlot = c.args.lists.now in
    let now : List Slot = c.loop-slot.slots.items in
    let number : c.len.result ≡ length now = c.len.ensures ∙ c.loop-slot.slots.ok.0 in
    record {
      count =
          let many : length now ≡ length c.args.slots.now.items + c.loop-slot.slot-index = c.loop-slot.invariant.count in
          let more : length c.push.new.self.items ≡ length now + 1 = subst (λ (z : List Slot). length z ≡ length now + 1) (sym c.in_ok-push.ensures.items) (length_push now c.list_slot-made.result) in
          omega (arith, many, more);
      made = λ spots aims same old. listed_more c.args.marks.now spots lists aims same now c.push.new.self.items c.loop-slot.slot-index c.len.result _ c.list_slot-made.result c.loop-slot-test.true (c.loop-slot.invariant.made spots aims same old) c.in_ok-push.ensures.items number c.list_slot-made.ensures;
    }

pub returns : goal.returns
returns c = λ spots aims same old.
    let lists : List ListSlot = c.args.lists.now in
    let all : take c.loop-slot.slot-index lists ≡ lists = take_all c.loop-slot.slot-index lists c.loop-slot-test.false in
    subst (λ (z : List ListSlot). AreSlotsMade c.args.marks.now (all_spots spots lists) (aims ++ map list_aim z) c.loop-slot.slots.items) all (c.loop-slot.invariant.made spots aims same old)

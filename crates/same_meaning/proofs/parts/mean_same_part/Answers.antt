use Rattle.std.proofs.Common.{◌≡◌, ◌≤◌, ◌<◌, arith}
use Rattle.std.proofs.lemmas.Grind.{common_steps}
use Rattle.value_links.specs.World.{contribution_at}
use Rattle.same_meaning.proofs.PartMeanings.{slot_differs, slots_more, slots_agree}
use Rattle.same_meaning.proofs.parts.mean_same_part.Goals as goal

pub returns-then-not-branch-clause-same : goal.returns-then-not-branch-clause-same
returns-then-not-branch-clause-same c =
    let a = c.args.before.now in
    let inside : c.loop-slot.slot < (contribution_at a c.args.kind c.args.part).slots = grind (arith, common_steps) in
    slot_differs a c.args.after.now c.args.kind c.args.part c.loop-slot.slot inside c.in_ok-mean_same_slot.field-0 c.if-not-branch.true c.in_ok-mean_same_slot.ensures.same

pub loop-slot-preserved : goal.loop-slot-preserved
loop-slot-preserved c =
    record {
      slots = slots_more c.args.before.now c.args.after.now c.args.kind c.args.part c.loop-slot.slot c.loop-slot.invariant.slots c.in_ok-mean_same_slot.field-0 c.if-not-branch.false c.in_ok-mean_same_slot.ensures.same;
      lists = c.mean_same_slot.ensures.lists;
    }

pub returns-clause-same : goal.returns-clause-same
returns-clause-same c =
    let a = c.args.before.now in
    let b = c.args.after.now in
    let past : (contribution_at a c.args.kind c.args.part).slots ≤ c.loop-slot.slot = grind (arith, common_steps) in
    let count : (contribution_at b c.args.kind c.args.part).slots ≡ (contribution_at a c.args.kind c.args.part).slots = grind (arith, common_steps) in
    slots_agree a b c.args.kind c.args.part c.loop-slot.slot past count c.loop-slot.invariant.slots

use Rattle.std.proofs.Common.{◌≡◌, ◌≤◌, ◌<◌, ◌+◌, ◌^◌, ◌∙◌, ℕ, suc, List, take, sym, ap, arith}
use Rattle.expr_ops.specs.Expressions.{Operation}
use Rattle.expr_ops.specs.Ops.{meant, all_meant}
use Rattle.expr_ops.specs.Shortest.{fixed_length}
use Rattle.expr_ops.specs.Slots.{slots_among, length_aim}
use Rattle.unit_write.specs.inside.Marks.{slot_for}
use Rattle.unit_write.proofs.SlotAims.{fixed_take, slots_take}
use Rattle.unit_write.proofs.SlotsMade.{meant_take, take_least, aim_length, aim_call, aim_uleb}
use Rattle.unit_write.proofs.slots.op_slot.Goals as goal

pub length_slot-requires-clause-fits : goal.length_slot-requires-clause-fits
length_slot-requires-clause-fits c =
    let os : List Operation = all_meant c.args.bytes.now c.args.behind.now in
    let part : fixed_length (all_meant c.args.bytes.now (take c.min-count.result c.args.behind.now)) ≡ fixed_length (take c.min-count.result os) = ap fixed_length (meant_take c.args.bytes.now c.args.behind.now c.min-count.result) in
    let less : fixed_length (take c.min-count.result os) ≤ fixed_length os = fixed_take c.min-count.result os in
    let fits : fixed_length os < 2 ^ 31 = c.requires.fits in
    omega arith

pub length_slot-requires-clause-few : goal.length_slot-requires-clause-few
length_slot-requires-clause-few c =
    let os : List Operation = all_meant c.args.bytes.now c.args.behind.now in
    let part : slots_among (all_meant c.args.bytes.now (take c.min-count.result c.args.behind.now)) ≡ slots_among (take c.min-count.result os) = ap slots_among (meant_take c.args.bytes.now c.args.behind.now c.min-count.result) in
    let less : slots_among (take c.min-count.result os) ≤ slots_among os = slots_take c.min-count.result os in
    let few : suc c.args.number + slots_among os < 2 ^ 32 = c.requires.few in
    omega arith

pub returns-then-op : goal.returns-then-op
returns-then-op c =
    let bytes : List ℕ = c.args.bytes.now in
    let os : List Operation = all_meant bytes c.args.behind.now in
    c.length_slot.ensures c.args.marks.now c.args.spot
    ∙ ap (λ (z : List Operation). slot_for c.args.marks.now c.args.spot c.args.number (length_aim z)) (ap (all_meant bytes) (take_least c.args.behind.now c.args.op.now.inner c.min-count.result c.min-count.ensures) ∙ meant_take bytes c.args.behind.now c.args.op.now.inner)
    ∙ ap (slot_for c.args.marks.now c.args.spot c.args.number) (sym (aim_length (meant bytes c.args.op.now) os c.if-op.true))

pub returns-then-op-2 : goal.returns-then-op-2
returns-then-op-2 c =
    let os : List Operation = all_meant c.args.bytes.now c.args.behind.now in
    c.slot.ensures c.args.number c.args.op.now.a ∙ ap (slot_for c.args.marks.now c.args.spot c.args.number) (sym (aim_call (meant c.args.bytes.now c.args.op.now) os c.if-op-2.true))

pub returns-else-op-2 : goal.returns-else-op-2
returns-else-op-2 c =
    let os : List Operation = all_meant c.args.bytes.now c.args.behind.now in
    c.slot-else-op-2.ensures c.args.number c.args.op.now.a ∙ ap (slot_for c.args.marks.now c.args.spot c.args.number) (sym (aim_uleb (meant c.args.bytes.now c.args.op.now) os c.if-op.false c.if-op-2.false))

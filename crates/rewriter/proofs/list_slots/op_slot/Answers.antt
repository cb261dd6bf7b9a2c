use Rattle.expr_ops.specs.Ops.{all_meant}
use Rattle.rewriter.specs.inside.Placed.{unit_in}
use Rattle.rewriter.proofs.SlotsOfLists.{held_fits, length_for, call_for, uleb_for}
use Rattle.rewriter.proofs.list_slots.op_slot.Goals as goal

pub length_slot-requires : goal.length_slot-requires
length_slot-requires c = record { fits = held_fits c.args.bytes.now c.min-count.result c.args.behind.now c.requires.fits }

pub returns-then-op : goal.returns-then-op
returns-then-op c =
    let unit = unit_in c.args.world.now.units c.args.unit in
    length_for unit.forest unit.head.at c.args.bytes.now c.args.op.now c.args.behind.now c.min-count.result c.length_slot.result c.if-op.true c.min-count.ensures (c.length_slot.ensures unit.forest unit.head.at)

pub returns-then-op-2 : goal.returns-then-op-2
returns-then-op-2 c =
    let unit = unit_in c.args.world.now.units c.args.unit in
    call_for unit.forest unit.head.at c.args.bytes.now c.args.op.now c.args.behind.now c.op_spot.result c.if-op-2.true (c.op_spot.ensures c.args.bytes.now (all_meant c.args.bytes.now c.args.behind.now))

pub returns-else-op-2 : goal.returns-else-op-2
returns-else-op-2 c =
    let unit = unit_in c.args.world.now.units c.args.unit in
    uleb_for unit.forest unit.head.at c.args.bytes.now c.args.op.now c.args.behind.now c.op_spot-else-op-2.result c.if-op.false c.if-op-2.false (c.op_spot-else-op-2.ensures c.args.bytes.now (all_meant c.args.bytes.now c.args.behind.now))

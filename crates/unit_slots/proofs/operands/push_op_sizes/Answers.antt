use Rattle.std.proofs.Common.{◌∙◌, sym, arith}
use Rattle.unit_slots.proofs.ExpressionSizes.{none_yet, add_none, add_one, all_added}
use Rattle.unit_slots.proofs.operands.push_op_sizes.Goals.{then-has_slot+in_ok-push_size, else-has_slot}
use Rattle.unit_slots.proofs.operands.push_op_sizes.Goals as goal

pub loop-op-init : goal.loop-op-init
loop-op-init c = record { so = none_yet c.args.bytes.now c.args.ops.now c.args.sizes.now.items c.requires.ops; few = c.requires.few }

pub loop-op-preserved : goal.loop-op-preserved
loop-op-preserved c =
    elim c.if-has_slot.branch [
      | then-has_slot+in_ok-push_size w ↦
          let so = add_one c.args.bytes.now c.args.ops.now c.loop-op.op-index c.args.sizes.now.items c.loop-op.sizes.items c.loop-op-test.true c.loop-op.invariant.so w.slot_len.result w.push_size.new.sizes.items (sym c.has_slot.ensures ∙ w.if-has_slot.true) w.slot_len.ensures.size w.slot_len.ensures.can w.slot_len.ensures.room w.in_ok-push_size.ensures.pushed in
          rw w.sizes-is (record { so = so; few = w.in_ok-push_size.ensures.few })
      | else-has_slot w ↦
          let so = add_none c.args.bytes.now c.args.ops.now c.loop-op.op-index c.args.sizes.now.items c.loop-op.sizes.items c.loop-op-test.true c.loop-op.invariant.so (sym c.has_slot.ensures ∙ w.if-has_slot.false) in
          rw w.sizes-is (record { so = so; few = c.loop-op.invariant.few })
    ]

pub returns-clause-added : goal.returns-clause-added
returns-clause-added c = all_added c.args.bytes.now c.args.ops.now c.loop-op.op-index c.args.sizes.now.items c.loop-op.sizes.items (omega arith) c.loop-op.invariant.so

use Rattle.std.proofs.Common.{get_or, below_more, arith, ◌∙◌}
use Rattle.slot_layout.specs.Rows.{rows_of}
use Rattle.slot_layout.proofs.GrowLaws.{no_slot, count_rows, starts_rise}
use Rattle.check_units.proofs.HoldLaws.{slots_of, slot_from, slot_to, holds_from, holds_not_from}
use Rattle.check_units.proofs.holding.first_unheld.Goals as goal

pub bounds-sums-slot : goal.bounds-sums-slot
bounds-sums-slot c = omega (arith, slot_to c.args.slots.now (slots_of (rows_of c.args.slots.now) c.args.sizes.now c.requires.checked) c.loop-i.i c.loop-i-test.true, c.requires.checked.each_slot, count_rows c.args.slots.now)

pub bounds-sums-slot-in-loop-i : goal.bounds-sums-slot-in-loop-i
bounds-sums-slot-in-loop-i c = omega (arith, slot_from c.args.slots.now (slots_of (rows_of c.args.slots.now) c.args.sizes.now c.requires.checked) c.loop-i.i c.loop-i-test.true, slot_to c.args.slots.now (slots_of (rows_of c.args.slots.now) c.args.sizes.now c.requires.checked) c.loop-i.i c.loop-i-test.true, c.requires.checked.each_slot, count_rows c.args.slots.now)

pub overflow_sub-counted : goal.overflow_sub-counted
overflow_sub-counted c =
    starts_rise c.args.sizes.now c.args.sums.now c.requires.sums (get_or c.args.slots.now c.loop-i.i no_slot).from (get_or c.args.slots.now c.loop-i.i no_slot).to
    (slot_from c.args.slots.now (slots_of (rows_of c.args.slots.now) c.args.sizes.now c.requires.checked) c.loop-i.i c.loop-i-test.true) (omega (arith, slot_to c.args.slots.now (slots_of (rows_of c.args.slots.now) c.args.sizes.now c.requires.checked) c.loop-i.i c.loop-i-test.true, c.requires.checked.each_slot, count_rows c.args.slots.now))

pub returns-then-not-holds : goal.returns-then-not-holds
returns-then-not-holds c = record {
  within = omega arith;
  before = c.loop-i.invariant;
  fails = λ _. holds_not_from c.args.slots.now (slots_of (rows_of c.args.slots.now) c.args.sizes.now c.requires.checked) c.args.sizes.now c.args.sums.now c.requires.sums (c.requires.checked.each_slot ∙ count_rows c.args.slots.now) c.loop-i.i c.loop-i-test.true c.holds.result c.if-not-holds.true c.holds.ensures;
}

pub loop-i-preserved : goal.loop-i-preserved
loop-i-preserved c =
    below_more _ _ c.loop-i.invariant
    (holds_from c.args.slots.now (slots_of (rows_of c.args.slots.now) c.args.sizes.now c.requires.checked) c.args.sizes.now c.args.sums.now c.requires.sums (c.requires.checked.each_slot ∙ count_rows c.args.slots.now) c.loop-i.i c.loop-i-test.true c.holds.result c.if-not-holds.false c.holds.ensures)

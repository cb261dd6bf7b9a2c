use Rattle.std.proofs.Common.{◌≡◌, ℕ, length, sym, subst, ◌∙◌, arith}
use Rattle.slot_layout.specs.Rows.{rows_of}
use Rattle.slot_layout.proofs.GrowLaws.{count_rows}
use Rattle.check_units.specs.inside.Checks.{IsFirstWithout}
use Rattle.check_units.specs.inside.Growing.{IsSlotNeeded, AreJudged}
use Rattle.check_units.proofs.GrowthLaws.{none_taken, low_next, judged_next, judged_all}
use Rattle.check_units.proofs.growing.first_unneeded.Goals as goal

pub loop-step-init : goal.loop-step-init
loop-step-init c = record {
  inside = omega arith;
  within = omega arith;
  taken = none_taken c.args.slots.now c.args.steps.now c.args.sums.now.cells.items c.requires.sums c.requires.smallest;
  low = λ p q less. absurd (omega arith);
  judged = λ lists count order. record {
    good = λ p less. absurd (omega arith);
    bad = λ less. absurd (omega (arith, count_rows c.args.slots.now));
  };
}

pub loop-step-preserved : goal.loop-step-preserved
loop-step-preserved c =
    let slots = c.args.slots.now in
    let steps = c.args.steps.now in
    let i = c.loop-step.invariant in
    let t = c.take_steps_below-taken.ensures in
    record {
      inside = t.inside;
      within = omega (arith, c.judge-first.ensures.no_higher, i.within);
      taken = t.taken;
      low = low_next (rows_of slots) steps c.requires.steps.rising c.loop-step.step-index c.loop-step.taken c.take_steps_below-taken.result c.loop-step-test.true i.low t.below;
      judged = λ lists count order. judged_next (rows_of slots) steps c.requires.steps.rising c.loop-step.step-index c.loop-step.taken c.take_steps_below-taken.result c.loop-step-test.true i.low t.below t.next c.take_steps_below-taken.new.sums.cells.items t.taken c.loop-step.first c.judge-first.result c.judge-first.ensures lists (count ∙ sym (count_rows slots)) order (i.judged lists count order);
    }

pub returns : goal.returns
returns c = λ lists count order.
    let slots = c.args.slots.now in
    let steps = c.args.steps.now in
    let i = c.loop-step.invariant in
    let all : c.loop-step.step-index ≡ length steps = omega arith in
    let judged = subst (λ (n : ℕ). AreJudged (rows_of slots) lists steps n c.loop-step.first) all (i.judged lists count order) in
    let first = judged_all (rows_of slots) lists steps (count ∙ sym (count_rows slots)) order c.loop-step.first (omega (arith, i.within, count_rows slots)) judged in
    subst (λ (n : ℕ). IsFirstWithout (IsSlotNeeded (rows_of slots) lists) n c.loop-step.first) (count_rows slots) first

use Rattle.std.proofs.Common.{arith, rules, IsNone}
use Rattle.std.specs.Prelude.{pos}
use Rattle.line_sums.specs.Steps.{steps_of}
use Rattle.line_sums.proofs.Counted.{steps_len}
use Rattle.line_sums.proofs.Ordering.{ordered_few}
use Rattle.line_params.proofs.PairLaws.{all_tried, least_bytes}
use Rattle.line_params.proofs.Running.{runs_fixed}
use Rattle.line_params.proofs.pair.least_pair.Goals as goal

pub first_choice-best-requires-clause-few : goal.first_choice-best-requires-clause-few
first_choice-best-requires-clause-few c =
    rw c.deref.ensures.value (omega (arith, c.in_ok-counted.ensures.counted.same (λ _. 1), steps_len (pos 1) 0 c.args.rows.now, c.if-rows-gt-MOST_ROWS.false))

pub try_ranges-requires-clause-few : goal.try_ranges-requires-clause-few
try_ranges-requires-clause-few c =
    rw c.deref-in-loop-runs.ensures.value (omega (arith, c.in_ok-counted.ensures.counted.same (λ _. 1), steps_len (pos 1) 0 c.args.rows.now, c.if-rows-gt-MOST_ROWS.false))

pub try_ranges-requires-clause-steps : goal.try_ranges-requires-clause-steps
try_ranges-requires-clause-steps c =
    rw c.deref-in-loop-runs.ensures.value (omega (arith, ordered_few (steps_of c.args.rows.now) c.in_ok-counted.counted.items c.in_ok-counted.ensures.order, steps_len (pos 1) 0 c.args.rows.now, c.if-rows-gt-MOST_ROWS.false))

pub returns-clause-pair : goal.returns-clause-pair
returns-clause-pair c =
    let none : IsNone c.in_ok-better.field-0 = search rules in
    all_tried c.args.head.now (steps_of c.args.rows.now) c.in_ok-counted.counted.items c.loop-runs.best c.in_ok-counted.ensures.counted (rw c.deref-in-loop-runs.ensures.value at (c.in_ok-better.ensures.kept none))

pub returns-clause-bytes : goal.returns-clause-bytes
returns-clause-bytes c =
    let none : IsNone c.in_ok-better.field-0 = search rules in
    least_bytes c.args.head.now (steps_of c.args.rows.now) c.in_ok-counted.counted.items c.loop-runs.best c.in_ok-counted.ensures.counted (rw c.deref-in-loop-runs.ensures.value at (c.in_ok-better.ensures.kept none))

pub returns-clause-runs : goal.returns-clause-runs
returns-clause-runs c =
    let none : IsNone c.in_ok-better.field-0 = search rules in
    runs_fixed c.args.head.now c.args.rows.now c.loop-runs.best.bytes c.in_ok-counted.counted.items c.try_ranges.new.runs.items c.in_ok-counted.ensures.order (rw c.deref-in-loop-runs.ensures.value at (c.in_ok-better.ensures.runs none))

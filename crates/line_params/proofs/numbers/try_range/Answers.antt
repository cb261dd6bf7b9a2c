use Rattle.std.proofs.Common.{◌+◌, ◌∙◌, ℕ, length, ap, refl, arith}
use Rattle.std.proofs.lemmas.List.{get_or-replicate}
use Rattle.std.proofs.lemmas.Option.{IfSome_then}
use Rattle.line_sums.specs.Counting.{row_bytes}
use Rattle.line_sums.proofs.Summing.{summed_none, summed_small}
use Rattle.line_params.proofs.Numbering.{numbered_none, numbered_round, numbered_skip, numbered_back, numbered_left, numbered_all, all_accepted}
use Rattle.line_params.proofs.PairLaws.{kept, left_kept, none_better, none_fewer, filled_all, taken}
use Rattle.line_params.proofs.numbers.try_range.Goals as goal
use Rattle.line_params.proofs.numbers.try_range.Goals.{then-round, else-round}

pub loop-index-init : goal.loop-index-init
loop-index-init c = record {
  summed = summed_none c.args.range c.args.head.now.min row_bytes c.args.counted.now c.clear.new.self c.args.total c.clear.ensures c.requires.total;
  numbered = λ place lt. numbered_none c.args.range c.args.head.now.min c.args.best.bytes c.args.counted.now place _ (rw (c.fill.ensures.after (λ y is. is)) (get_or-replicate (length c.args.numbers.now) place (length c.args.counted.now) 0 (omega (arith, c.requires.numbers))));
  ways = refl;
  totals = c.requires.totals;
  size = c.fill.ensures.len ∙ c.requires.numbers;
}

pub give-requires-clause-room : goal.give-requires-clause-room
give-requires-clause-room c = λ place lt.
    let small = summed_small c.args.range c.args.head.now.min c.args.counted.now c.loop-index.index c.loop-index.sums c.loop-index.rest c.requires.few c.loop-index.invariant.summed place lt in
    omega (arith, small, c.totals.ensures.each place lt)

pub are_past-requires : goal.are_past-requires
are_past-requires c = λ place lt.
    let small = summed_small c.args.range c.args.head.now.min c.args.counted.now c.loop-index.index c.loop-index.sums c.loop-index.rest c.requires.few c.loop-index.invariant.summed place lt in
    omega (arith, small)

pub give-requires-then-are_past-clause-room : goal.give-requires-then-are_past-clause-room
give-requires-then-are_past-clause-room c = λ place lt.
    let small = summed_small c.args.range c.args.head.now.min c.args.counted.now c.loop-index.index c.loop-index.sums c.loop-index.rest c.requires.few c.loop-index.invariant.summed place lt in
    omega (arith, small, c.totals-then-are_past.ensures.each place lt)

pub returns-then-are_past-clause-kept : goal.returns-then-are_past-clause-kept
returns-then-are_past-clause-kept c = λ _.
    left_kept c.args.head.now c.args.counted.now c.args.range c.loop-index.index c.loop-index.rest _ c.args.best c.loop-index.sums c.may_come.result c.may_come.ensures (ap (λ (z : ℕ). c.args.best.bytes + z) c.from.ensures) (omega arith) c.loop-index.invariant.summed (c.are_past.ensures c.if-are_past.true) c.requires.best

pub returns-then-are_past-clause-least : goal.returns-then-are_past-clause-least
returns-then-are_past-clause-least c = λ _ place lt.
    let i = c.loop-index.invariant in
    let past = c.are_past.ensures c.if-are_past.true place lt in
    let total = ap (λ z. z + c.loop-index.rest) (c.totals-then-are_past.ensures.each place lt) in
    numbered_left c.args.range c.args.head.now.min c.args.best.bytes c.args.counted.now c.loop-index.sums c.loop-index.index c.loop-index.rest place c.next_number-next.result _ _ _ i.summed lt c.next_number-next.ensures.candidate c.next_number-next.ensures.from c.next_number-next.ensures.first total (omega (arith, past, total)) (
    elim c.if-round.branch [
      | then-round w ↦ rw w.numbers-is (numbered_back c.args.range c.args.head.now.min c.args.best.bytes c.args.counted.now c.loop-index.index place _ (numbered_round c.args.range c.args.head.now.min c.args.best.bytes c.args.counted.now c.loop-index.sums c.loop-index.index c.loop-index.rest place _ _ _ i.summed c.loop-index-test.true lt (c.is_round-round.ensures.0 w.if-round.true) (ap (λ z. z + c.loop-index.rest) (w.totals.ensures.each place lt)) (i.numbered place lt) (w.give.ensures.each place lt)))
      | else-round w ↦ rw w.numbers-is (i.numbered place lt)
    ]
    ) (c.give-then-are_past.ensures.each place lt)

pub loop-index-preserved : goal.loop-index-preserved
loop-index-preserved c =
    let i = c.loop-index.invariant in
    elim c.if-round.branch [
      | then-round w ↦ record {
        summed = c.add_next-rest.ensures.summed;
        numbered = λ place lt. rw w.numbers-is (numbered_round c.args.range c.args.head.now.min c.args.best.bytes c.args.counted.now c.loop-index.sums c.loop-index.index c.loop-index.rest place _ _ _ i.summed c.loop-index-test.true lt (c.is_round-round.ensures.0 w.if-round.true) (ap (λ z. z + c.loop-index.rest) (w.totals.ensures.each place lt)) (i.numbered place lt) (w.give.ensures.each place lt));
        ways = c.add_next-rest.ensures.ways ∙ i.ways;
        totals = rw w.totals-is w.totals.ensures.size;
        size = rw w.numbers-is w.give.ensures.size;
      }
      | else-round w ↦ record {
        summed = c.add_next-rest.ensures.summed;
        numbered = λ place lt. rw w.numbers-is (numbered_skip c.args.range c.args.head.now.min c.args.best.bytes c.args.counted.now c.loop-index.index place _ c.loop-index-test.true (λ round. let told = c.is_round-round.ensures.1 round in absurd (cc)) (i.numbered place lt));
        ways = c.add_next-rest.ensures.ways ∙ i.ways;
        totals = rw w.totals-is i.totals;
        size = rw w.numbers-is i.size;
      }
    ]

pub returns-clause-kept : goal.returns-clause-kept
returns-clause-kept c = λ none.
    let sums = filled_all c.args.range c.args.head.now.min row_bytes c.args.counted.now c.loop-index.index c.loop-index.sums c.loop-index.rest c.loop-index-test.false c.loop-index.invariant.summed in
    kept c.args.head.now c.args.counted.now c.args.range c.args.best c.requires.best (none_better c.args.head.now c.args.counted.now c.args.range c.args.best c.loop-index.sums c.first_least-place.result.0 c.first_least-place.result.1 sums c.first_least-place.ensures.first c.first_least-place.ensures.sum (c.better_choice.ensures.none none))

pub returns-clause-least : goal.returns-clause-least
returns-clause-least c = λ none place lt.
    let sums = filled_all c.args.range c.args.head.now.min row_bytes c.args.counted.now c.loop-index.index c.loop-index.sums c.loop-index.rest c.loop-index-test.false c.loop-index.invariant.summed in
    let others = none_better c.args.head.now c.args.counted.now c.args.range c.args.best c.loop-index.sums c.first_least-place.result.0 c.first_least-place.result.1 sums c.first_least-place.ensures.first c.first_least-place.ensures.sum (c.better_choice.ensures.none none) in
    numbered_all c.args.range c.args.head.now.min c.args.best.bytes c.args.counted.now c.loop-index.index place _ c.loop-index-test.false (all_accepted c.args.range c.args.head.now.min c.args.best.bytes c.args.counted.now place (none_fewer c.args.head.now c.args.counted.now c.args.range place c.args.best others lt)) (c.loop-index.invariant.numbered place lt)

pub returns-clause-better : goal.returns-clause-better
returns-clause-better c =
    let sums = filled_all c.args.range c.args.head.now.min row_bytes c.args.counted.now c.loop-index.index c.loop-index.sums c.loop-index.rest c.loop-index-test.false c.loop-index.invariant.summed in
    IfSome_then c.better_choice.result c.better_choice.ensures.some (λ next found. record {
      takes = found.0;
      start = taken c.args.head.now c.args.counted.now c.args.range c.args.range c.args.best next c.loop-index.sums c.first_least-place.result.0 (omega arith) (omega arith) c.requires.best sums c.first_least-place.ensures.first.within found.0 found.1 found.2 (found.3 ∙ c.first_least-place.ensures.sum);
    })

use Rattle.std.proofs.Common.{arith, rules}
use Rattle.std.specs.Prelude.{pos}
use Rattle.line_sums.proofs.Counted.{count_left, row_more, rows_counted}
use Rattle.line_sums.proofs.Firsts.{firsts_more, firsts_all}
use Rattle.line_sums.proofs.Placing.{places_none}
use Rattle.line_sums.proofs.count.first_counts.Goals as goal

pub count_step-requires-clause-room : goal.count_step-requires-clause-room
count_step-requires-clause-room c =
    let left = count_left (pos c.loop-row.place.line) c.loop-row.place.address c.args.rows.now c.loop-row.counted.items c.loop-row.row-index (c.loop-row.invariant.prices (λ _. 1)) in
    omega (arith, left, c.requires.few)

pub loop-row-init : goal.loop-row-init
loop-row-init c = record {
  places = places_none c.new-places.result c.new-counted.result.items c.new-places.ensures.empty (search rules);
  lines = search rules;
  line = search rules;
  firsts = search rules;
  prices = search rules;
}

pub loop-row-preserved : goal.loop-row-preserved
loop-row-preserved c = record {
  places = c.in_ok-count_step.ensures.places;
  lines = c.in_ok-count_step.ensures.lines c.loop-row.invariant.lines c.step_to_row.ensures.lines;
  line = c.place_after-place.ensures.below;
  firsts = firsts_more (pos c.loop-row.place.line) _ c.loop-row.place.address _ c.args.rows.now c.loop-row.row-index _ c.loop-row.counted.items _ _ c.step_to_row.result c.loop-row-test.true c.loop-row.invariant.firsts c.step_to_row.ensures.step c.in_ok-count_step.ensures.once c.place_after-place.ensures.line c.place_after-place.ensures.address;
  prices = λ price. row_more price (pos c.loop-row.place.line) _ c.loop-row.place.address _ c.args.rows.now c.loop-row.row-index _ _ _ _ c.step_to_row.result c.loop-row-test.true (c.loop-row.invariant.prices price) c.step_to_row.ensures.step (c.in_ok-count_step.ensures.prices price) c.place_after-place.ensures.line c.place_after-place.ensures.address;
}

pub returns-clause-counted : goal.returns-clause-counted
returns-clause-counted c = rows_counted (pos c.loop-row.place.line) c.loop-row.place.address c.args.rows.now c.loop-row.counted.items c.loop-row.row-index c.loop-row-test.false c.loop-row.invariant.prices

pub returns-clause-firsts : goal.returns-clause-firsts
returns-clause-firsts c = firsts_all (pos c.loop-row.place.line) c.loop-row.place.address c.args.rows.now c.loop-row.row-index c.loop-row.counted.items _ c.loop-row-test.false c.loop-row.invariant.firsts

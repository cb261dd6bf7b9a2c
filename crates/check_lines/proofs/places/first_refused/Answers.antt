use Rattle.std.proofs.Common.{◌≤◌, ◌<◌, ◌∙◌, ℕ, length, get_or, refl, arith}
use Rattle.line_sums.specs.Counting.{row_bytes}
use Rattle.line_sums.proofs.Summing.{summed_none}
use Rattle.check_lines.proofs.Looking.{front_size, looked_none, looked_at, looked_next, looked_last, next_inside}
use Rattle.check_lines.proofs.places.first_refused.Goals as goal

pub loop-next-init : goal.loop-next-init
loop-next-init c =
    let above = c.first_above-failed.ensures in
    record {
      summed = summed_none c.args.range c.args.min row_bytes c.args.counted.now c.clear.new.self c.args.rest c.clear.ensures c.requires.rest;
      looked = looked_none c.args.range c.args.min c.args.bytes c.args.counted.now c.args.numbers.now c.first_above-failed.result above.within above.bad;
      ways = refl;
      few = above.good;
      inside = omega arith;
    }

pub returns-in_default-clause-first : goal.returns-in_default-clause-first
returns-in_default-clause-first c =
    let i = c.loop-next.invariant in
    let short = c.first_short-failed.ensures in
    let looked = looked_at c.args.range c.args.min c.args.bytes c.args.counted.now c.args.numbers.now c.requires.numbers c.loop-next.failed i.looked.within c.loop-next.sums c.loop-next.index c.loop-next.rest c.saturating_sub.result c.first_short-failed.result i.looked i.summed i.inside (omega (arith, c.saturating_sub.ensures)) short.before short.good short.bad in
    looked_last c.args.range c.args.min c.args.bytes c.args.counted.now c.args.numbers.now c.requires.numbers c.first_short-failed.result looked.within c.loop-next.index looked c.in_default.ensures

pub loop-next-preserved : goal.loop-next-preserved
loop-next-preserved c =
    let i = c.loop-next.invariant in
    let short = c.first_short-failed.ensures in
    let looked = looked_at c.args.range c.args.min c.args.bytes c.args.counted.now c.args.numbers.now c.requires.numbers c.loop-next.failed i.looked.within c.loop-next.sums c.loop-next.index c.loop-next.rest c.saturating_sub.result c.first_short-failed.result i.looked i.summed i.inside (omega (arith, c.saturating_sub.ensures)) short.before short.good short.bad in
    let few : (place : ℕ) → place < c.first_short-failed.result → get_or c.args.numbers.now place 0 ≤ length c.args.counted.now = λ place lt. i.few place (omega (arith, lt, short.before, front_size c.args.numbers.now c.loop-next.failed c.requires.numbers i.looked.within)) in
    record {
      summed = c.add_until-rest.ensures.summed;
      looked = looked_next c.args.range c.args.min c.args.bytes c.args.counted.now c.args.numbers.now c.requires.numbers c.first_short-failed.result looked.within c.loop-next.index c.in-Some.next looked c.in-Some.ensures;
      ways = c.add_until-rest.ensures.ways ∙ i.ways;
      few = few;
      inside = next_inside c.args.range c.args.min c.args.bytes c.args.counted.now c.args.numbers.now c.requires.numbers c.first_short-failed.result looked.within c.loop-next.index c.in-Some.next (length c.args.counted.now) c.in-Some.ensures few;
    }

use Rattle.std.proofs.Common.{◌∙◌, arith, rules, IsNone}
use Rattle.line_sums.specs.Accepted.{numbers_of}
use Rattle.line_params.proofs.Joining.{spread_size}
use Rattle.line_params.proofs.Running.{runs_more, runs_size, runs_all}
use Rattle.line_params.proofs.search.try_ranges.Goals as goal

pub push_numbers-requires-clause-room : goal.push_numbers-requires-clause-room
push_numbers-requires-clause-room c = omega (arith, c.try_range-better.ensures.size, c.loop-below.invariant.size, spread_size c.loop-below.runs.items)

pub loop-below-preserved : goal.loop-below-preserved
loop-below-preserved c =
    let i = c.loop-below.invariant in
    let none : IsNone c.try_range-better.result = search rules in
    let more = c.in_ok-push_numbers.ensures.spread in
    record {
      joined = c.in_ok-push_numbers.ensures.joined;
      size = runs_size c.loop-below.below (numbers_of c.loop-below.runs.items) c.try_range-better.new.numbers _ i.size c.try_range-better.ensures.size more;
      each = runs_more c.args.head.now.min c.args.best.bytes c.loop-below.below c.args.counted.now (numbers_of c.loop-below.runs.items) c.try_range-better.new.numbers _ i.size more i.each (c.try_range-better.ensures.least none);
      kept = c.try_range-better.ensures.kept none;
      ways = c.try_range-better.ensures.ways ∙ i.ways;
      totals = c.try_range-better.ensures.totals;
      numbers = c.try_range-better.ensures.size;
    }

pub returns-clause-runs : goal.returns-clause-runs
returns-clause-runs c = λ _. runs_all c.args.head.now.min c.args.best.bytes c.loop-below.below c.args.counted.now c.loop-below.runs.items (omega arith) (omega arith) c.loop-below.invariant.joined c.loop-below.invariant.size c.loop-below.invariant.each

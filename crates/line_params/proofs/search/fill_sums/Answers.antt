use Rattle.std.proofs.Common.{refl}
use Rattle.line_sums.specs.Counting.{row_bytes}
use Rattle.line_sums.proofs.Summing.{summed_none}
use Rattle.line_params.proofs.PairLaws.{filled_all}
use Rattle.line_params.proofs.search.fill_sums.Goals as goal

pub loop-index-init : goal.loop-index-init
loop-index-init c = record {
  summed = summed_none c.args.range c.args.min row_bytes c.args.counted.now c.clear.new.self c.row_total-rest.result c.clear.ensures c.row_total-rest.ensures;
  ways = refl;
}

pub returns-clause-sums : goal.returns-clause-sums
returns-clause-sums c = filled_all c.args.range c.args.min row_bytes c.args.counted.now c.loop-index.index c.loop-index.sums c.loop-index.rest c.loop-index-test.false c.loop-index.invariant.summed

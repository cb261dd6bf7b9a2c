use Rattle.std.proofs.Common.{◌∙◌, arith}
use Rattle.std.proofs.lemmas.List.{length-set}
use Rattle.line_sums.specs.inside.RunningSums.{sums_from}
use Rattle.line_sums.proofs.RunningLaws.{sum_here, sum_next, totals_more}
use Rattle.line_sums.proofs.base_sums.BaseSums.totals.Goals as goal

pub loop-place-preserved : goal.loop-place-preserved
loop-place-preserved c =
    let changes = c.self.inside.changes.items in
    let here = sum_here changes c.loop-place.place c.loop-place.sum c.index.result.now (omega (arith, c.self.invariant)) c.loop-place.invariant.sum c.index.ensures in
    record {
      sum = sum_next changes c.loop-place.place c.loop-place.sum c.index.result.now (omega (arith, c.self.invariant)) c.loop-place.invariant.sum c.index.ensures;
      size = length-set c.loop-place.totals c.loop-place.place _ ∙ c.loop-place.invariant.size;
      each = totals_more c.loop-place.totals (sums_from 0 changes) c.loop-place.place _ (omega (arith, c.loop-place.invariant.size)) c.loop-place.invariant.each here;
    }

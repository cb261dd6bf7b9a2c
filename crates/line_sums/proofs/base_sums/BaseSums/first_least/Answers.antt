use Rattle.std.proofs.Common.{arith}
use Rattle.line_sums.specs.inside.RunningSums.{sums_from}
use Rattle.line_sums.proofs.RunningLaws.{sum_here, sum_next, least_same, least_new}
use Rattle.line_sums.proofs.base_sums.BaseSums.first_least.Goals as goal
use Rattle.line_sums.proofs.base_sums.BaseSums.first_least.Goals.{then-sum-least, else-sum-least}

pub loop-place-preserved : goal.loop-place-preserved
loop-place-preserved c =
    let changes = c.self.inside.changes.items in
    let here = sum_here changes c.loop-place.place c.loop-place.sum c.index.result.now (omega (arith, c.self.invariant)) c.loop-place.invariant.sum c.index.ensures in
    record {
      sum = sum_next changes c.loop-place.place c.loop-place.sum c.index.result.now (omega (arith, c.self.invariant)) c.loop-place.invariant.sum c.index.ensures;
      least = elim c.if-sum-least.branch [
        | then-sum-least w ↦ rw (w.first-is, w.least-is) (least_new (sums_from 0 changes) c.loop-place.place c.loop-place.first c.loop-place.least _ c.loop-place.invariant.least here w.if-sum-least.true)
        | else-sum-least w ↦ rw (w.first-is, w.least-is) (least_same (sums_from 0 changes) c.loop-place.place c.loop-place.first c.loop-place.least _ c.loop-place.invariant.least here w.if-sum-least.false)
      ];
    }

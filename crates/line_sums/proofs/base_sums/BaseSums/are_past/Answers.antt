use Rattle.std.proofs.Common.{◌≤◌, ◌<◌, ◌+◌, ◌^◌, ℕ, List, get_or, sym, subst, arith}
use Rattle.line_sums.specs.inside.RunningSums.{sums_from}
use Rattle.line_sums.proofs.RunningLaws.{sum_here, sum_next, one_more}
use Rattle.line_sums.proofs.base_sums.BaseSums.are_past.Goals as goal

pub overflow_add-sum : goal.overflow_add-sum
overflow_add-sum c =
    let here = sum_here c.self.inside.changes.items c.loop-place.place c.loop-place.sum c.index.result.now (omega (arith, c.self.invariant)) c.loop-place.invariant.sum c.index.ensures in
    let room = subst (λ (z : List ℕ). get_or z c.loop-place.place 0 + c.args.rest < 2 ^ 64) (sym c.self.view_is) (c.requires c.loop-place.place (omega arith)) in
    record { fits = omega (arith, here, room) }

pub loop-place-preserved : goal.loop-place-preserved
loop-place-preserved c =
    let changes = c.self.inside.changes.items in
    let here = sum_here changes c.loop-place.place c.loop-place.sum c.index.result.now (omega (arith, c.self.invariant)) c.loop-place.invariant.sum c.index.ensures in
    record {
      sum = sum_next changes c.loop-place.place c.loop-place.sum c.index.result.now (omega (arith, c.self.invariant)) c.loop-place.invariant.sum c.index.ensures;
      past = one_more (λ (place : ℕ). c.args.bytes ≤ get_or (sums_from 0 changes) place 0 + c.args.rest) c.loop-place.place c.loop-place.invariant.past (omega (arith, here, c.if-sum-rest.false));
    }

use Rattle.std.proofs.Common.{subst, sym, arith}
use Rattle.leb_codec.specs.LineCosts.{IsLeastCost}
use Rattle.list_model.specs.Potentials.{OnFrom}
use Rattle.list_least.proofs.tail.bytes_under.Goals.{then-loop-i-test+else-base-runs, else-loop-i-test}
use Rattle.list_least.proofs.tail.bytes_under.Goals as goal

pub returns : goal.returns
returns c addr context items ps left =
    let here = left c.loop-i.i c.args.base (record {
      inside = c.loop-i.invariant.0;
      upto = c.loop-i.invariant.1;
      beyond = λ more. elim c.loop-i-test.branch [
        | then-loop-i-test+else-base-runs w ↦ w.if-base-runs.false
        | else-loop-i-test w ↦ absurd (omega (arith, more, w.loop-i-test.false))
      ];
    }) in
    subst (IsLeastCost (OnFrom addr context c.args.base items ps)) (sym c.saturating_sub.ensures) here.1

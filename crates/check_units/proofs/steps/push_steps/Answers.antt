use Rattle.check_units.proofs.StepLaws.{push_next}
use Rattle.check_units.proofs.steps.push_steps.Goals as goal

pub loop-number-preserved : goal.loop-number-preserved
loop-number-preserved c =
    push_next c.args.slot c.loop-number.number c.args.own.now c.args.all.now.items c.loop-number.all.items c.push.new.self.items c.loop-number-test.true c.loop-number.invariant c.in_ok-push.ensures.items

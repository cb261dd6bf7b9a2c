use Rattle.std.proofs.Common.{ℕ, List, IfOk, subst}
use Rattle.commands.specs.inside.Check.{IsAnswer}
use Rattle.commands.proofs.check.judge.Goals as goal

pub returns-in-Ok : goal.returns-in-Ok
returns-in-Ok c = subst (λ (file : List ℕ). IfOk c.judge_written.result (IsAnswer c.args.classes file c.args.written.now c.args.certificate.now)) c.in-Ok.ensures.world.holds.image c.judge_written.ensures

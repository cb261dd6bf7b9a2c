use Rattle.std.proofs.Common.{ℕ, List, IfOk, subst}
use Rattle.commands.specs.inside.Check.{IsAnswer}
use Rattle.commands.proofs.check.judge_written.Goals as goal

pub returns-in-Ok : goal.returns-in-Ok
returns-in-Ok c = subst (λ (written : List ℕ). IfOk c.answer_for.result (IsAnswer c.args.classes c.args.before.now.image written c.args.certificate.now)) c.in-Ok.ensures.world.holds.image c.answer_for.ensures

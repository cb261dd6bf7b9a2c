use Rattle.std.proofs.Common.{append_assoc}
use Rattle.std.proofs.lemmas.Result.{IfOk-weaker}
use Rattle.commands.proofs.saying.input_refusal.Goals as goal

pub returns : goal.returns
returns c =
    let said = rw c.name-kind.ensures at c.format.ensures.ok in
    IfOk-weaker c.format.result _ _ (λ text e. simp append_assoc e) said

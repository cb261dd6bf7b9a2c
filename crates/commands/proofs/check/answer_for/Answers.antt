use Rattle.std.proofs.Common.{◌∙◌, ℕ, List, refl, ap, true≢false}
use Rattle.commands.specs.Said.{rejection_text}
use Rattle.commands.proofs.check.answer_for.Goals as goal

pub returns-in-None : goal.returns-in-None
returns-in-None c =
    let accepted = rw c.in-None.is at c.in_ok-verdict.ensures.accepted in
    let least = rw c.in-None.is at c.in_ok-verdict.ensures.least in
    let kept = rw c.in-None.is at c.in_ok-verdict.ensures.kept in
    (accepted.0 refl, (least refl, kept refl))

pub returns-in_ok-rejection-in-Some : goal.returns-in_ok-rejection-in-Some
returns-in_ok-rejection-in-Some c =
    let accepted = rw c.in-Some.is at c.in_ok-verdict.ensures.accepted in
    let first = rw c.in-Some.is at c.in_ok-verdict.ensures.first in
    let text = c.in_ok-rejection-in-Some.ensures ∙ ap (λ (file : List ℕ). rejection_text file c.in-Some.reason) c.image.ensures in (
      c.in-Some.reason,
      record {
        valid = c.requires.before.valid;
        output_valid = c.requires.after.valid;
        unaccepted = λ accepts. true≢false (accepted.1 accepts);
        first = first;
      },
      text,
    )

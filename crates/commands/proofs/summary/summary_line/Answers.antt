use Rattle.std.proofs.Common.{◌≡◌, ◌++◌, ◌∙◌, [], ◌∷◌, ap, refl, string_bytes, arith}
use Rattle.serde_json.specs.Written.{compact_text}
use Rattle.commands.specs.inside.Summary.{summary_data}
use Rattle.commands.proofs.Lines.{summary_said}
use Rattle.commands.proofs.summary.summary_line.Goals as goal

pub returns : goal.returns
returns c = λ file written debug old new counts.
    let text : string_bytes c.in_ok-line.line ≡ compact_text (summary_data c.args.old.now c.args.new.now c.args.counts.now) = rw c.in_ok-value.ensures at c.in_ok-line.ensures.text refl in
    let whole : string_bytes c.push.new.self ≡ string_bytes c.in_ok-line.line ++ 10 ∷ [] = c.in_ok-push.ensures.bytes ∙ ap (λ z. string_bytes c.in_ok-line.line ++ z) (c.in_ok-push.ensures.ascii (omega arith)) in
    whole ∙ ap (λ z. z ++ 10 ∷ []) text ∙ summary_said c.args.old.now c.args.new.now c.args.counts.now file written debug old new counts

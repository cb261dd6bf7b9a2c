use Rattle.std.proofs.Common.{◌∙◌, sym, inl, inr, rules}
use Rattle.std.proofs.lemmas.Bool.{cases_Bool}
use Rattle.form_codec.specs.Forms.{is_written}
use Rattle.form_codec.specs.Values.{meant_in}
use Rattle.form_codec.proofs.FormLaws.{admitted, not_admitted, not_written, not_known}
use Rattle.form_codec.proofs.write.admits.Goals as goal

pub returns-in_default : goal.returns-in_default
returns-in_default c = λ bytes i. (λ is. absurd (search rules), λ a. absurd (not_known c.args.name c.args.form (meant_in bytes c.args.value.now) c.in_default.ensures a))

pub returns-in-Some-encoding_in : goal.returns-in-Some-encoding_in
returns-in-Some-encoding_in c = λ bytes i. (
  λ is. admitted c.args.name c.args.form c.in-Some.form c.args.value.now c.in-Some-encoding_in.field-0 bytes c.in-Some.ensures (sym c.is_written.ensures ∙ is) c.in-Some-encoding_in.ensures i,
  λ a.
      elim (cases_Bool (is_written c.in-Some.form)) [
        | inl chosen ↦ c.is_written.ensures ∙ chosen
        | inr never ↦ absurd (not_written c.args.name c.args.form c.in-Some.form (meant_in bytes c.args.value.now) c.in-Some.ensures never a)
      ],
)

pub returns-in-None : goal.returns-in-None
returns-in-None c = λ bytes i. (λ is. absurd (search rules), λ a. absurd (not_admitted c.args.name c.args.form c.in-Some.form c.args.value.now bytes c.in-Some.ensures c.in-None.ensures i a))

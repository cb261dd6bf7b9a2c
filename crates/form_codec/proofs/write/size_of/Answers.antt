use Rattle.std.proofs.Common.{◌∙◌, ap}
use Rattle.form_codec.specs.Forms.{counted}
use Rattle.form_codec.specs.Values.{meant_in}
use Rattle.form_codec.proofs.FormLaws.{shortest_some}
use Rattle.form_codec.proofs.NameLaws.{one_size}
use Rattle.form_codec.proofs.write.size_of.Goals as goal

pub returns-in-Some : goal.returns-in-Some
returns-in-Some c = λ section name few i a.
    let code = c.args.form in
    let v = c.args.value.now in
    let e = c.in-Some.encoding in
    let known = c.in-Some.ensures in
    let own = shortest_some known.0 code v e section c.encoded_size.result known.1 i (λ b is. c.encoded_size.ensures section b few (known.1.encoding.shape.lies section i) is) in
    let w = one_size known.0 name code (meant_in section v) own.0 a.bytes a.constant own.1 a.spelled in
    (w.0, w.1, c.counted_size.ensures section ∙ ap (λ z. counted (meant_in section v) z) (own.2 ∙ w.2))

pub returns-in-None : goal.returns-in-None
returns-in-None c = λ section name few i a. absurd (c.in-None.ensures name section a.bytes a.constant i a.spelled)

use Rattle.std.proofs.Common.{◌∙◌}
use Rattle.form_codec.specs.Values.{meant_in}
use Rattle.form_codec.proofs.ShortestLaws.{number_shortest, encoding_shortest}
use Rattle.form_codec.proofs.write.shaped_size.Goals as goal

pub returns-in-Number : goal.returns-in-Number
returns-in-Number c =
    rw c.in-Number.is (λ section bytes few i small p. number_shortest c.in-Number.width c.in-Number.field-1 (meant_in section c.args.value.now) bytes c.from.result small p (c.from.ensures ∙ c.size.ensures))

pub returns-in-Some : goal.returns-in-Some
returns-in-Some c = λ section bytes few i small p.
    encoding_shortest c.args.shape c.args.value.now c.in-Some.encoding section c.encoded_size.result c.in-Some.ensures i (λ b lies e. c.encoded_size.ensures section b few lies e)

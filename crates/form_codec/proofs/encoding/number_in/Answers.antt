use Rattle.form_codec.proofs.NumberLaws.{no_number}
use Rattle.form_codec.proofs.encoding.number_in.Goals as goal

pub returns-in_default-clause-number : goal.returns-in_default-clause-number
returns-in_default-clause-number c = λ section m small e.
    no_number section c.args.value.now c.args.role c.args.width m (λ k few h. c.in_default.ensures section k few h) small e

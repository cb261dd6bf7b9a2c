use Rattle.std.proofs.Common.{◌∙◌, ◌≡◌, arith, rules}
use Rattle.std.specs.Prelude.{pos}
use Rattle.form_codec.proofs.SizeLaws.{data_size}
use Rattle.form_codec.proofs.write.data_size.Goals as goal

pub returns-in-Ok : goal.returns-in-Ok
returns-in-Ok c =
    let same : c.args.whole ≡ pos c.in-Ok.number = search rules in
    rw same (data_size c.args.width c.in-Ok.number c.half.result c.from.result (omega arith) c.half.ensures c.if-number-half.true (c.from.ensures ∙ c.size.ensures))

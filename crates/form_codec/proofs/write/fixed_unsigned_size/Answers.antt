use Rattle.std.proofs.Common.{◌∙◌, ◌≡◌, arith, rules}
use Rattle.std.specs.Prelude.{pos}
use Rattle.form_codec.proofs.SizeLaws.{fixed_unsigned_size, whole_too_large}
use Rattle.form_codec.proofs.write.fixed_unsigned_size.Goals as goal

pub returns-in-Ok : goal.returns-in-Ok
returns-in-Ok c =
    let same : c.args.whole ≡ pos c.in-Ok.number = search rules in
    rw same (fixed_unsigned_size c.args.width c.in-Ok.number c.greatest.result c.from.result (omega arith) c.greatest.ensures c.if-number-greatest.true (c.from.ensures ∙ c.size.ensures))

pub returns-in_default : goal.returns-in_default
returns-in_default c =
    let same : c.args.whole ≡ pos c.in-Ok.number = search rules in
    rw same (whole_too_large c.args.width c.in-Ok.number c.greatest.result c.greatest.ensures c.if-number-greatest.false)

use Rattle.std.proofs.Common.{◌∙◌, ◌≡◌, arith, rules}
use Rattle.std.specs.Prelude.{pos}
use Rattle.form_codec.proofs.SizeLaws.{uleb_size}
use Rattle.form_codec.proofs.write.uleb_size.Goals as goal

pub returns-in-Ok : goal.returns-in-Ok
returns-in-Ok c =
    let same : c.args.whole ≡ pos c.in-Ok.number = search rules in
    rw same (uleb_size c.in-Ok.number c.from.result (omega arith) (omega arith) (c.from.ensures ∙ c.len_u.ensures.least))

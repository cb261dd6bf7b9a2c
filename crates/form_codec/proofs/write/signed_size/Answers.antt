use Rattle.std.proofs.Common.{◌∙◌, ◌≡◌, arith, rules}
use Rattle.std.proofs.lemmas.Int.{to_z-of_z}
use Rattle.std.specs.Prelude.{FitsSigned}
use Rattle.std.specs.Int.{w64}
use Rattle.form_codec.proofs.SizeLaws.{signed_size}
use Rattle.form_codec.proofs.write.signed_size.Goals as goal

pub returns-in-Ok : goal.returns-in-Ok
returns-in-Ok c =
    let same : c.args.whole ≡ c.in-Ok.number = search rules in
    let fits : FitsSigned w64 c.in-Ok.number = search rules in
    let least = simp to_z-of_z at c.len_s.ensures.least in
    rw same (signed_size c.in-Ok.number c.from.result fits (omega arith) (c.from.ensures ∙ least))

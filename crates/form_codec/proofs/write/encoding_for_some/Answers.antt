use Rattle.std.proofs.Common.{ℕ}
use Rattle.form_codec.specs.inside.Written.{IsCodeEncoding}
use Rattle.form_codec.proofs.FormLaws.{match_map}
use Rattle.form_codec.proofs.NameLaws.{never_spelled}
use Rattle.form_codec.proofs.write.encoding_for_some.Goals as goal

pub returns-in-Some : goal.returns-in-Some
returns-in-Some c = (0, c.in-Some.ensures)

pub returns-in-None : goal.returns-in-None
returns-in-None c =
    let code = c.args.code in
    let v = c.args.value.now in
    match_map {R = λ e. IsCodeEncoding 11 code v e} {S = λ e. (name : ℕ) × IsCodeEncoding name code v e} c.encoding_for-in-None.result (never_spelled code v c.in-None.ensures) (λ e enc. (11, enc)) c.encoding_for-in-None.ensures

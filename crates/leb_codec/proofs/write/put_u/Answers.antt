use Rattle.std.proofs.Common.{◌-◌, ◌∙◌, false, arith}
use Rattle.std.proofs.lemmas.Result.{on_ok_weaker}
use Rattle.leb_codec.specs.inside.Digits.{digits_of}
use Rattle.leb_codec.proofs.Lens.{fits_unsigned}
use Rattle.leb_codec.proofs.SpellingLaws.{digits_spell, len_digits}
use Rattle.leb_codec.proofs.write.put_u.Goals as goal

pub returns-clause-ok : goal.returns-clause-ok
returns-clause-ok c =
    let len = c.len_u.result in
    let value = c.args.value in
    let fits = fits_unsigned value len (omega (arith, c.len_u.ensures.least)) in
    on_ok_weaker c.put_digits.result (λ appended. (digits_of false (len - 1) value, (digits_spell value len fits, len_digits false value len fits.some ∙ c.len_u.ensures.least), appended)) c.put_digits.ensures.ok

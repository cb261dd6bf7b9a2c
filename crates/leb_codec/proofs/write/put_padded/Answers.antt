use Rattle.std.proofs.Common.{◌-◌, false}
use Rattle.std.proofs.lemmas.Result.{on_ok_weaker}
use Rattle.leb_codec.specs.inside.Digits.{digits_of}
use Rattle.leb_codec.proofs.Lens.{fits_unsigned}
use Rattle.leb_codec.proofs.SpellingLaws.{digits_spell, len_digits}
use Rattle.leb_codec.proofs.write.put_padded.Goals as goal

pub put_digits-requires : goal.put_digits-requires
put_digits-requires c = (fits_unsigned c.args.value c.args.size c.requires).some

pub returns-clause-ok : goal.returns-clause-ok
returns-clause-ok c =
    let size = c.args.size in
    let value = c.args.value in
    let fits = fits_unsigned value size c.requires in
    on_ok_weaker c.put_digits.result (λ appended. (digits_of false (size - 1) value, (digits_spell value size fits, len_digits false value size fits.some), appended)) c.put_digits.ensures.ok

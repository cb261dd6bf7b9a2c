use Rattle.std.proofs.Common.{◌-◌, ◌∙◌, arith}
use Rattle.std.proofs.lemmas.Int.{to_z-of_z}
use Rattle.std.proofs.lemmas.Result.{on_ok_weaker}
use Rattle.std.specs.Prelude.{FitsSigned, int_lt, pos}
use Rattle.std.specs.Int.{w64}
use Rattle.leb_codec.specs.Leb.{magnitude}
use Rattle.leb_codec.specs.inside.Digits.{digits_of}
use Rattle.leb_codec.proofs.Lens.{fits_signed}
use Rattle.leb_codec.proofs.SpellingLaws.{signed_digits_spell, len_digits}
use Rattle.leb_codec.proofs.write.put_s.Goals as goal

pub returns-clause-ok : goal.returns-clause-ok
returns-clause-ok c =
    let in_range : FitsSigned w64 c.args.value = c.ranges.value in
    let least = simp to_z-of_z at c.len_s.ensures.least in
    let far = simp to_z-of_z at c.magnitude.ensures.far in
    let appended = simp (to_z-of_z, far) at c.put_digits.ensures.ok in
    let len = c.len_s.result in
    let value = c.args.value in
    let fits = fits_signed value len (omega (arith, least)) in
    on_ok_weaker c.put_digits.result (λ e. (digits_of (int_lt value (pos 0)) (len - 1) (magnitude value), (signed_digits_spell value len fits, len_digits (int_lt value (pos 0)) (magnitude value) len fits.some ∙ least), e)) appended

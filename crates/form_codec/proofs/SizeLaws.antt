-- How many bytes a constant has in the shapes of constants.
use Rattle.std.proofs.Common.{◌≡◌, ◌≤◌, ◌<◌, ◌+◌, ◌-◌, ◌*◌, ◌^◌, ℕ, length, leb, false, ◌∙◌, sym, ap, refl, subst, arith}
use Rattle.std.proofs.lemmas.Bool.{lt-leb}
use Rattle.std.specs.Prelude.{ℤ, pos, FitsSigned, if◌then◌else◌}
use Rattle.std.specs.Int.{w64}
use Rattle.leb_codec.specs.Leb.{least_unsigned_len, least_signed_len}
use Rattle.form_codec.specs.declared.form.Role.TheVariants as role
use Rattle.form_codec.specs.declared.form.Shape.TheVariants.{Number, Uleb as ByUleb, Sleb as BySleb}
use Rattle.form_codec.specs.declared.form.Width.{Width}
use Rattle.form_codec.specs.declared.form.Width.TheVariants.{One, Two, Three, Four, Eight}
use Rattle.form_codec.specs.declared.value.Value.TheVariants as value
use Rattle.form_codec.specs.declared.encoding.Encoding.TheVariants as encoding
use Rattle.form_codec.specs.Forms.{size_of, in_role}
use Rattle.form_codec.specs.Forms.Meaning.{Whole, Bits}
use Rattle.form_codec.specs.Written.{HasNoEncoding, IsShapeSize}
use Rattle.form_codec.proofs.FormLaws.{shape_size}
use Rattle.form_codec.proofs.NumberLaws.{number_least}
use Rattle.form_codec.proofs.WriteLaws.{low_len, fixed_fits, fixed_too_large, uleb_fits, sleb_fits}

-- below its half a number fits a width
below_half : (w : Width) (n : ℕ) → n < 2 ^ (8 * size_of w - 1) → n < 256 ^ size_of w
below_half One n h = omega arith
below_half Two n h = omega arith
below_half Three n h = omega arith
below_half Four n h = omega arith
below_half Eight n h = omega arith

pub data_size : (w : Width) (n half size : ℕ) → size < 2 ^ 64 → half ≡ 2 ^ (8 * size_of w - 1) → n < half → size ≡ size_of w → IsShapeSize (Number w role.Data) (value.Int (pos n)) size
data_size w n half size small h few e =
    let below : n < 2 ^ (8 * size_of w - 1) = subst (λ (z : ℕ). n < z) h few in
    let clear : leb (2 ^ (8 * size_of w - 1)) n ≡ false = lt-leb (2 ^ (8 * size_of w - 1)) n below in
    let means : Whole (pos n) ≡ in_role role.Data w n = sym (ap (λ b. if b then Bits (size_of w) n else Whole (pos n)) clear) in
    let written = fixed_fits w role.Data (value.Int (pos n)) n (below_half w n below) (λ section. means) (λ section m. number_least section (value.Int (pos n)) role.Data w n m refl) in
    shape_size (Number w role.Data) (value.Int (pos n)) (encoding.Fixed w n) size size small written (λ section bytes short lies is. e ∙ sym (ap length is ∙ low_len w n)) (λ section. refl)

pub fixed_unsigned_size : (w : Width) (n greatest size : ℕ) → size < 2 ^ 64 → greatest + 1 ≡ 256 ^ size_of w → n ≤ greatest → size ≡ size_of w → IsShapeSize (Number w role.Unsigned) (value.Int (pos n)) size
fixed_unsigned_size w n greatest size small g few e =
    let written = fixed_fits w role.Unsigned (value.Int (pos n)) n (omega arith) (λ section. refl) (λ section m. number_least section (value.Int (pos n)) role.Unsigned w n m refl) in
    shape_size (Number w role.Unsigned) (value.Int (pos n)) (encoding.Fixed w n) size size small written (λ section bytes short lies is. e ∙ sym (ap length is ∙ low_len w n)) (λ section. refl)

pub whole_too_large : (w : Width) (n greatest : ℕ) → greatest + 1 ≡ 256 ^ size_of w → greatest < n → HasNoEncoding (Number w role.Unsigned) (value.Int (pos n))
whole_too_large w n greatest g large =
    fixed_too_large w role.Unsigned (value.Int (pos n)) n greatest g large (λ section m. number_least section (value.Int (pos n)) role.Unsigned w n m refl)

pub uleb_size : (n size : ℕ) → n < 2 ^ 64 → size < 2 ^ 64 → size ≡ least_unsigned_len n → IsShapeSize (ByUleb role.Unsigned) (value.Int (pos n)) size
uleb_size n size fits small e =
    shape_size (ByUleb role.Unsigned) (value.Int (pos n)) (encoding.Uleb n) size size small (uleb_fits role.Unsigned (value.Int (pos n)) n fits (λ section. refl) (λ section m. number_least section (value.Int (pos n)) role.Unsigned Eight n m refl)) (λ section bytes short lies is. e ∙ sym is.1) (λ section. refl)

pub signed_size : (v : ℤ) (size : ℕ) → FitsSigned w64 v → size < 2 ^ 64 → size ≡ least_signed_len v → IsShapeSize BySleb (value.Int v) size
signed_size v size fits small e =
    shape_size BySleb (value.Int v) (encoding.Sleb v) size size small (sleb_fits (value.Int v) v fits (λ section. refl)) (λ section bytes short lies is. e ∙ sym is.1) (λ section. refl)

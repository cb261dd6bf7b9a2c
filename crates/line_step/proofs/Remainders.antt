-- Laws of the line remainder that leaves the fewest bytes.
use Rattle.std.proofs.Common.{◌≡◌, ◌≤◌, ◌<◌, ◌-◌, ◌*◌, ◌^◌, ℕ, ◌∙◌, ap, arith, inl, inr}
use Rattle.std.specs.Prelude.{T, nat_abs, ℤ, pos, negsuc, neg_ℤ, ◌+ℤ◌, ◌-ℤ◌, ◌≤ℤ◌, ◌<ℤ◌}
use Rattle.std.proofs.lemmas.Int.{ints}
use lib.Signed.{non_neg}
use mir.Val.{Fits}
use mir.Syntax.{w8}
use Rattle.std.proofs.lemmas.Bool.{cases_lt}
use Rattle.leb_codec.specs.Leb.{FitsSignedLen, least_signed_len}
use Rattle.leb_codec.specs.LineCosts.{advance_line_bytes}
use Rattle.leb_codec.proofs.Lens.{signed_lens}
use Rattle.line_step.specs.inside.Search.{IsRemainderFor}
use Rattle.line_step.proofs.Parts.{line_none, line_some, line_opcode, zero_or}
use Rattle.line_step.proofs.Powers.{half_some}

pub fits_of : (z : ℤ) → FitsSignedLen z (least_signed_len z)
fits_of z = (signed_lens.is_least z).enough

pub some_len : (z : ℤ) → 1 ≤ least_signed_len z
some_len z = (fits_of z).some

-- a number below 0 takes at most the bytes of a lower one
pub neg_rises : (z w : ℤ) → z ≤ℤ pos 0 → w ≤ℤ z → advance_line_bytes z ≤ advance_line_bytes w
neg_rises z w neg low =
    elim (zero_or z) [
      | inl none ↦ omega (arith, ap advance_line_bytes none, line_none)
      | inr some ↦
          let some' : w ≡ pos 0 → ⊥ = λ e. some (omega (arith, ints, e)) in
          let fits = fits_of w in
          let half = half_some (least_signed_len w) in
          let fits' : FitsSignedLen z (least_signed_len w) = record { some = fits.some; from = omega (arith, ints, fits.from); below = omega (arith, ints, half) } in
          omega (arith, line_some z some, line_some w some', (signed_lens.enough z (least_signed_len w)).0 fits')
    ]

-- the same of a number above 0 and a higher one
pub pos_rises : (z w : ℤ) → pos 0 ≤ℤ z → z ≤ℤ w → least_signed_len z ≤ least_signed_len w
pos_rises z w some high =
    let fits = fits_of w in
    let half = half_some (least_signed_len w) in
    (signed_lens.enough z (least_signed_len w)).0 (record { some = fits.some; from = omega (arith, ints, half); below = omega (arith, ints, fits.below) })

-- a distance that is not above 0
pub none_best : (line : ℤ) (most : ℕ) → line ≤ℤ pos 0 → IsRemainderFor line most 0
none_best line most neg = record {
  fewest = λ r less. neg_rises (line -ℤ pos 0) (line -ℤ pos r) (omega (arith, ints)) (omega (arith, ints));
  first = λ r less. absurd (omega arith);
}

-- a distance that the remainder is as large as
pub all_best : (line : ℤ) (most remainder : ℕ) → line ≡ pos remainder → IsRemainderFor line most remainder
all_best line most remainder same =
    let none : line -ℤ pos remainder ≡ pos 0 = omega (arith, ints, same) in
    let free : advance_line_bytes (line -ℤ pos remainder) ≡ 0 = ap advance_line_bytes none ∙ line_none in
    record {
      fewest = λ r less. omega (arith, free);
      first = λ r less. omega (arith, free, line_some (line -ℤ pos r) (λ e. omega (arith, ints, e, same)));
    }

-- a distance that no remainder reaches: the greatest number of as few bytes is left, or less
pub near_best : (line left greatest : ℤ) (most remainder len : ℕ) → left ≡ line -ℤ pos most → pos 0 <ℤ left → len ≡ least_signed_len left → greatest +ℤ pos 1 ≡ pos (64 * 128 ^ (len - 1)) → pos 0 <ℤ (line -ℤ pos remainder) → (line -ℤ pos remainder) ≤ℤ greatest → ((r : ℕ) → r < remainder → greatest <ℤ (line -ℤ pos r)) → IsRemainderFor line most remainder
near_best line left greatest most remainder len same some is top positive under over =
    let half = half_some len in
    let one : 1 ≤ len = omega (arith, some_len left) in
    let fits : FitsSignedLen (line -ℤ pos remainder) len = record { some = one; from = omega (arith, ints, half, positive); below = omega (arith, ints, under, top) } in
    let short = (signed_lens.enough (line -ℤ pos remainder) len).0 fits in
    let cost = line_opcode (line -ℤ pos remainder) in
    record {
      fewest = λ r within.
          let low = pos_rises left (line -ℤ pos r) (omega (arith, ints, some)) (omega (arith, ints, same)) in
          let other = line_some (line -ℤ pos r) (λ e. omega (arith, ints, e, same, some)) in
          omega (arith, short, cost, low, other, is);
      first = λ r less.
          let far = over r less in
          let other = line_some (line -ℤ pos r) (λ e. omega (arith, ints, e, positive, less)) in
          elim (cases_lt len (least_signed_len (line -ℤ pos r))) [
            | inl longer ↦ omega (arith, short, cost, other)
            | inr fits' ↦
                let in_window = ((signed_lens.enough (line -ℤ pos r) len).1 fits').below in
                absurd (omega (arith, ints, in_window, far, top))
          ];
    }

-- the number itself lies below the greatest of its length
pub below_greatest : (left greatest : ℤ) (len : ℕ) → len ≡ least_signed_len left → greatest +ℤ pos 1 ≡ pos (64 * 128 ^ (len - 1)) → left ≤ℤ greatest
below_greatest left greatest len is top =
    let fits = (signed_lens.enough left len).1 (omega (arith, is)) in
    omega (arith, ints, fits.below, top)

-- small numbers have few bytes
pub near_len : (z : ℤ) (len : ℕ) → len ≡ least_signed_len z → neg_ℤ (pos (2 ^ 34)) ≤ℤ z → z <ℤ pos (2 ^ 34) → len ≤ 5
near_len z len is low high = omega (arith, is, (signed_lens.enough z 5).0 (record { some = omega arith; from = low; below = high }))

-- a cast to a byte
pub fits_byte : (z : ℤ) → pos 0 ≤ℤ z → z <ℤ pos 256 → T (non_neg z) × Fits w8 (nat_abs z)
fits_byte (pos n) low high = (tt, record { fits = omega (arith, ints, high) })
fits_byte (negsuc n) low high = absurd (omega (arith, ints, low))

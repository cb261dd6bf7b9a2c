-- Laws of the bytes of line distances.
use Rattle.std.proofs.Common.{◌≡◌, ◌≤◌, ◌+◌, ◌-◌, ◌*◌, ◌^◌, ◌∙◌, ℕ, ap, refl, sym, arith, inl, inr}
use Rattle.std.specs.Prelude.{ℤ, pos, negsuc, neg_ℤ, ◌+ℤ◌, ◌-ℤ◌, ◌≤ℤ◌, ◌<ℤ◌, nat_abs}
use Rattle.std.proofs.lemmas.Int.{ints}
use Rattle.std.proofs.lemmas.Bool.{cases_lt}
use Rattle.leb_codec.specs.Leb.{FitsSignedLen, least_signed_len}
use Rattle.leb_codec.specs.LineCosts.{advance_line_bytes}
use Rattle.leb_codec.proofs.Lens.{signed_lens}
use Rattle.line_step.proofs.Parts.{line_none, line_some}
use Rattle.line_step.proofs.Powers.{half_some}
use Rattle.line_step.proofs.Remainders.{some_len, neg_rises, pos_rises}
use Rattle.line_sums.specs.inside.Windows.{IsLineCost, IsLeastOfLen}

pub least_of_one : IsLeastOfLen 1 (pos 1)
least_of_one = record {
  some = omega (arith, ints);
  from = λ z some h. some_len z;
  to = λ z some h. omega (arith, ints);
}

pub least_of_more : (len : ℕ) (value : ℤ) → 2 ≤ len → value ≡ pos (64 * 128 ^ (len - 1 - 1)) → IsLeastOfLen len value
least_of_more len value two is =
    let half = half_some (len - 1) in
    record {
      some = omega (arith, ints, is, half);
      from = λ z some h.
          elim (cases_lt (least_signed_len z) len) [
            | inl short ↦
                let fits = ((signed_lens.enough z (len - 1)).1 (omega arith)).below in
                absurd (omega (arith, ints, is, fits))
            | inr long ↦ long
          ];
      to = λ z some h. rw is (reaches len z (64 * 128 ^ (len - 1 - 1)) two half refl some h);
    }
  where
    reaches : (len : ℕ) (z : ℤ) (least : ℕ) → 2 ≤ len → 64 ≤ least → least ≡ 64 * 128 ^ (len - 1 - 1) → pos 0 <ℤ z → len ≤ least_signed_len z → pos least ≤ℤ z
    reaches len (pos m) least two half is some h =
        elim (cases_lt m least) [
          | inl less ↦
              let fits : FitsSignedLen (pos m) (len - 1) = record { some = omega arith; from = omega (arith, ints, half, is); below = omega (arith, ints, is) } in
              let short = (signed_lens.enough (pos m) (len - 1)).0 fits in
              absurd (omega arith)
          | inr more ↦ omega (arith, ints)
        ]
    reaches len (negsuc m) least two half is some h = absurd (omega (arith, ints, some))

same_bytes : (y z : ℤ) → y ≡ z → advance_line_bytes y ≡ advance_line_bytes z
same_bytes y z e = ap advance_line_bytes e

-- a distance below 0
pub run_below : (line : ℤ) (most len : ℕ) → line <ℤ pos 0 → len ≡ least_signed_len line → (lower : ℤ) → neg_ℤ (pos (64 * 128 ^ (len - 1))) ≤ℤ lower → lower ≤ℤ line → IsLineCost lower most (1 + len)
run_below line most len neg is lower low high =
    let half = half_some len in
    let one = some_len line in
    let some : lower ≡ pos 0 → ⊥ = λ e. omega (arith, ints, e) in
    let some' : line ≡ pos 0 → ⊥ = λ e. omega (arith, ints, e) in
    let fits : FitsSignedLen lower len = record { some = omega (arith, is); from = low; below = omega (arith, ints, half) } in
    let short = (signed_lens.enough lower len).0 fits in
    let long = neg_rises line lower (omega (arith, ints)) high in
    let bytes : 1 + len ≡ advance_line_bytes lower = omega (arith, short, long, is, line_some lower some, line_some line some') in
    record {
      fewest = λ r few. let more = neg_rises lower (lower -ℤ pos r) (omega (arith, ints)) (omega (arith, ints)) in omega (arith, bytes);
      taken = (0, omega arith, bytes ∙ same_bytes lower (lower -ℤ pos 0) (omega (arith, ints)));
    }

-- from 0 to the greatest number that it may be lessened by
pub run_within : (most : ℕ) (lower : ℤ) → pos 0 ≤ℤ lower → lower ≤ℤ pos most → IsLineCost lower most 0
run_within most lower low high = record {
  fewest = λ r few. omega arith;
  taken = (nat_abs lower, omega (arith, ints), sym line_none ∙ same_bytes (pos 0) (lower -ℤ pos (nat_abs lower)) (omega (arith, ints)));
}

-- above
pub run_above : (line left value : ℤ) (most len : ℕ) → left ≡ line -ℤ pos most → pos 0 <ℤ left → len ≡ least_signed_len left → IsLeastOfLen len value → (lower : ℤ) → (value +ℤ pos most) ≤ℤ lower → lower ≤ℤ line → IsLineCost lower most (1 + len)
run_above line left value most len is some len_is first lower low high =
    let z = lower -ℤ pos most in
    let positive : pos 0 <ℤ z = omega (arith, ints, first.some) in
    let long = first.from z positive (omega (arith, ints)) in
    let short = pos_rises z left (omega (arith, ints, positive)) (omega (arith, ints, is)) in
    let bytes : 1 + len ≡ advance_line_bytes z = omega (arith, short, long, len_is, line_some z (λ e. omega (arith, ints, e, positive))) in
    record {
      fewest = λ r few.
          let more = pos_rises z (lower -ℤ pos r) (omega (arith, ints, positive)) (omega (arith, ints)) in
          omega (arith, bytes, line_some z (λ e. omega (arith, ints, e, positive)), line_some (lower -ℤ pos r) (λ e. omega (arith, ints, e, positive, few)));
      taken = (most, omega arith, bytes);
    }

-- a number from the least of its length on is no less than that
pub least_below : (left value : ℤ) (len : ℕ) → pos 0 <ℤ left → len ≡ least_signed_len left → IsLeastOfLen len value → value ≤ℤ left
least_below left value len some is first = first.to left some (omega (arith, is))

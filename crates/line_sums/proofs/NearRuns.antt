-- Laws of what a step costs whose line distance is near, by how much of the line distance a line_base leaves.
use Rattle.std.proofs.Common.{◌≡◌, ◌≤◌, ◌<◌, ◌+◌, ◌*◌, ◌^◌, ◌∙◌, ℕ, min, refl, sym, subst, arith, inl, inr}
use Rattle.std.specs.Prelude.{ℤ, pos, neg_ℤ, ◌+ℤ◌, ◌-ℤ◌, ◌≤ℤ◌, ◌<ℤ◌}
use Rattle.std.proofs.lemmas.Int.{ints}
use Rattle.std.proofs.lemmas.Bool.{cases_lt}
use Rattle.std.proofs.Math.Nat.{mul-le-mul}
use Rattle.leb_codec.specs.Leb.{FitsSignedLen, least_signed_len}
use Rattle.leb_codec.proofs.Lens.{signed_lens}
use Rattle.line_step.proofs.Remainders.{some_len}
use Rattle.line_sums.specs.declared.window.Window.{Window}
use Rattle.line_sums.specs.declared.window.Windows.{Windows}
use Rattle.line_sums.specs.Sums.{base_at}
use Rattle.line_sums.specs.inside.Windows.{IsLineCost, AddsRun}
use Rattle.line_sums.proofs.LineRuns.{run_below, run_above, least_of_one, least_of_more}
use Rattle.line_sums.proofs.SpecialParts.{step_least}

-- the numbers whose signed LEB128 has one byte
one_byte : (z : ℤ) → neg_ℤ (pos 64) ≤ℤ z → z <ℤ pos 64 → 1 ≡ least_signed_len z
one_byte z low high =
    let fits : FitsSignedLen z 1 = record { some = omega arith; from = omega (arith, ints, low); below = omega (arith, ints, high) } in
    omega (arith, (signed_lens.enough z 1).0 fits, some_len z)

-- and those farther from 0 with two bytes
two_bytes_below : (z : ℤ) → neg_ℤ (pos 8192) ≤ℤ z → z <ℤ neg_ℤ (pos 64) → 2 ≡ least_signed_len z
two_bytes_below z low high =
    let fits : FitsSignedLen z 2 = record { some = omega arith; from = omega (arith, ints, low); below = omega (arith, ints, high) } in
    elim (cases_lt (least_signed_len z) 2) [
      | inl short ↦
          let one = (signed_lens.enough z 1).1 (omega arith) in
          absurd (omega (arith, ints, high, one.from))
      | inr long ↦ omega (arith, (signed_lens.enough z 2).0 fits, long)
    ]

two_bytes_above : (z : ℤ) → pos 64 ≤ℤ z → z <ℤ pos 8192 → 2 ≡ least_signed_len z
two_bytes_above z low high =
    let fits : FitsSignedLen z 2 = record { some = omega arith; from = omega (arith, ints, low); below = omega (arith, ints, high) } in
    elim (cases_lt (least_signed_len z) 2) [
      | inl short ↦
          let one = (signed_lens.enough z 1).1 (omega arith) in
          absurd (omega (arith, ints, low, one.below))
      | inr long ↦ omega (arith, (signed_lens.enough z 2).0 fits, long)
    ]

-- what is left is above the greatest number that special opcodes take, and further than one byte tells
pub far_above : (left : ℤ) (most : ℕ) → (pos most +ℤ pos 63) <ℤ left → left ≤ℤ pos 8191 → IsLineCost left most 3
far_above left most low high =
    let z = left -ℤ pos most in
    run_above left z (pos 64) most 2 refl (omega (arith, ints, low)) (two_bytes_above z (omega (arith, ints, low)) (omega (arith, ints, high))) (least_of_more 2 (pos 64) (omega arith) refl) left (omega (arith, ints, low)) (omega (arith, ints))

-- no further than that
pub near_above : (left : ℤ) (most : ℕ) → pos most <ℤ left → left ≤ℤ (pos most +ℤ pos 63) → IsLineCost left most 2
near_above left most low high =
    let z = left -ℤ pos most in
    run_above left z (pos 1) most 1 refl (omega (arith, ints, low)) (one_byte z (omega (arith, ints, low)) (omega (arith, ints, high))) least_of_one left (omega (arith, ints, low)) (omega (arith, ints))

-- below 0
pub near_below : (left : ℤ) (most : ℕ) → neg_ℤ (pos 64) ≤ℤ left → left <ℤ pos 0 → IsLineCost left most 2
near_below left most low high = run_below left most 1 high (one_byte left low (omega (arith, ints, high))) left (omega (arith, ints, low)) (omega (arith, ints))

pub far_below : (left : ℤ) (most : ℕ) → neg_ℤ (pos 8192) ≤ℤ left → left <ℤ neg_ℤ (pos 64) → IsLineCost left most 3
far_below left most low high = run_below left most 2 (omega (arith, ints, high)) (two_bytes_below left low high) left (omega (arith, ints, low)) (omega (arith, ints))

-- a step whose special opcodes are of one kind, by what its line costs before them
pub near_adds : (line : ℤ) (copy count place old new amount cost : ℕ) (window : Window) (w : Windows) → w.wide ≡ window → w.last ≡ window → IsLineCost (line -ℤ base_at place) window.most cost → amount ≡ count * min copy (1 + window.address + cost) → new ≡ old + amount → AddsRun line copy w count place old new
near_adds line copy count place old new amount cost window w wide last is amount_is added =
    let bytes = min copy (1 + window.address + cost) in
    let left = line -ℤ base_at place in
    record {
      run = record { bytes = bytes; low = left };
      right = record {
        least = λ base range scale line' d windows by_copy low high.
            let same : line' -ℤ base ≡ left = omega (arith, ints, low, high) in
            let one : IsLineCost (line' -ℤ base) window.most cost = subst (λ (z : ℤ). IsLineCost z window.most cost) (sym same) is in
            step_least base range scale line' d copy cost cost bytes w windows by_copy
            (subst (λ (v : Window). IsLineCost (line' -ℤ base) v.most cost) (sym wide) one)
            (subst (λ (v : Window). IsLineCost (line' -ℤ base) v.most cost) (sym last) one)
            (rw (wide, last) (omega arith));
      };
      reached = omega (arith, ints);
      few = omega arith;
      added = added ∙ rw amount_is refl;
    }

-- where more has to be left there are no more places
pub places_rise : (top high low : ℤ) (p q : ℕ) → low ≤ℤ high → p ≤ 256 → ((place : ℕ) → place < p → high <ℤ (top -ℤ pos place)) → ((place : ℕ) → q ≤ place → place < 256 → (top -ℤ pos place) ≤ℤ low) → p ≤ q
places_rise top high low p q less within before after =
    elim (cases_lt q p) [
      | inl more ↦ absurd (omega (arith, ints, less, before q more, after q (omega arith) (omega arith)))
      | inr order ↦ order
    ]

-- a sum that has room for a count and few bytes
pub near_room : (old mid count bytes amount : ℕ) → old < 2 ^ 63 → mid ≡ old → count < 2 ^ 32 → bytes ≤ 18 → amount ≡ count * bytes → mid + amount < 2 ^ 64
near_room old mid count bytes amount small same few low is =
    let most : count * bytes ≤ 4294967295 * 18 = mul-le-mul {n₁ = count} {m₁ = bytes} {n₂ = 4294967295} {m₂ = 18} (omega arith) low in
    omega (arith, most)

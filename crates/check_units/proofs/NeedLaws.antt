-- What numbers past 64 bits need.
use Rattle.std.proofs.Common.{◌≡◌, ◌≤◌, ◌<◌, ◌+◌, ◌-◌, ◌^◌, inl, inr, ℕ, min, ap, sym, ◌∙◌, arith}
use Rattle.std.proofs.lemmas.Bool.{cases_lt}
use Rattle.leb_codec.specs.Leb.{least_unsigned_len}
use Rattle.leb_codec.proofs.Lebs.{pow128}
use Rattle.leb_codec.proofs.Lens.{only_unsigned}

-- from 64 to 70 bits are ten bytes
ten_bytes : (v : ℕ) → 2 ^ 63 ≤ v → v < 2 ^ 70 → 10 ≡ least_unsigned_len v
ten_bytes v low high = only_unsigned v 10 (record {
  enough = record { some = omega arith; below = omega (arith, high) };
  least = λ k f. elim (cases_lt k 10) [
    | inl few ↦ absurd (omega (arith, f.below, pow128 k 9 (omega (arith, few)), low))
    | inr many ↦ many
  ];
})

-- the greatest number of 64 bits stands for a sum past it
pub need_of_sum : (fixed sizes number : ℕ) → fixed < 2 ^ 64 → sizes < 2 ^ 64 → number ≡ min (fixed + sizes) (2 ^ 64 - 1) → least_unsigned_len number ≡ least_unsigned_len (fixed + sizes)
need_of_sum fixed sizes number first second is =
    elim (cases_lt (fixed + sizes) (2 ^ 64)) [
      | inl fits ↦ ap least_unsigned_len (let e : number ≡ fixed + sizes = omega (arith, is, fits) in e)
      | inr past ↦ sym (ten_bytes number (omega (arith, is, past)) (omega (arith, is, past))) ∙ ten_bytes (fixed + sizes) (omega (arith, past)) (omega (arith, first, second))
    ]

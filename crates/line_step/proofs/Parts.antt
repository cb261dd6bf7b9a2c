-- Laws of the bytes of advance_pc and of advance_line.
use Rattle.std.proofs.Common.{◌≡◌, ◌≤◌, ◌<◌, ◌+◌, ◌^◌, ◌⊎◌, ℕ, zero, suc, ap, refl, arith, inl, inr}
use Rattle.std.specs.Prelude.{cond, ℤ, pos, negsuc, ◌+ℤ◌}
use Rattle.std.proofs.lemmas.Int.{ints}
use Rattle.std.proofs.lemmas.Bool.{cases_lt, ne_eqb}
use Rattle.leb_codec.specs.Leb.{least_unsigned_len, least_signed_len}
use Rattle.leb_codec.specs.LineCosts.{advance_pc_bytes, advance_line_bytes}
use Rattle.line_step.specs.Laws.{LineLaws}
use Rattle.leb_codec.proofs.Lens.{unsigned_lens, signed_lens}

pub pc_none : advance_pc_bytes 0 ≡ 0
unfolding advance_pc_bytes
pc_none = refl

pub pc_some : (q : ℕ) → 0 < q → advance_pc_bytes q ≡ 1 + least_unsigned_len q
unfolding advance_pc_bytes
pc_some q some =
    ap (λ b. cond b 0 (1 + least_unsigned_len q)) (ne_eqb q 0 (λ e. omega (arith, e)))

pub some_len : (q : ℕ) → 1 ≤ least_unsigned_len q
some_len q = (unsigned_lens.is_least q).enough.some

pub pc_sum : (q r : ℕ) → advance_pc_bytes (q + r) ≤ advance_pc_bytes q + advance_pc_bytes r
pc_sum q r =
    elim (cases_lt 0 q) [
      | inl some ↦
          elim (cases_lt 0 r) [
            | inl some' ↦ omega (arith, pc_some q some, pc_some r some', pc_some (q + r) (omega arith), unsigned_lens.sum q r)
            | inr none ↦ let e : q + r ≡ q = omega arith in omega (arith, ap advance_pc_bytes e)
          ]
      | inr none ↦ let e : q + r ≡ r = omega arith in omega (arith, ap advance_pc_bytes e)
    ]

pub pc_rises : (q r : ℕ) → q ≤ r → advance_pc_bytes q ≤ advance_pc_bytes r
pc_rises q r h =
    elim (cases_lt 0 q) [
      | inl some ↦ omega (arith, pc_some q some, pc_some r (omega arith), unsigned_lens.rises q r h)
      | inr none ↦ let e : q ≡ 0 = omega arith in omega (arith, ap advance_pc_bytes e, pc_none)
    ]

-- an operand that some bytes hold
pub pc_below : (q n : ℕ) → 0 < q → advance_pc_bytes q ≤ 1 + n → q < 128 ^ n
pc_below q n some h = ((unsigned_lens.enough q n).1 (omega (arith, pc_some q some))).below

pub pc_short : (q n : ℕ) → 1 ≤ n → q < 128 ^ n → advance_pc_bytes q ≤ 1 + n
pc_short q n one h =
    elim (cases_lt 0 q) [
      | inl some ↦ omega (arith, pc_some q some, (unsigned_lens.enough q n).0 (record { some = one; below = h }))
      | inr none ↦ let e : q ≡ 0 = omega arith in omega (arith, ap advance_pc_bytes e, pc_none)
    ]

-- an operand takes bytes
pub pc_two : (q : ℕ) → 0 < q → 2 ≤ advance_pc_bytes q
pc_two q some = omega (arith, pc_some q some, some_len q)

pub pc_free : (q : ℕ) → advance_pc_bytes q ≡ 0 → q ≡ 0
pc_free q free = elim (cases_lt 0 q) [ inl some ↦ absurd (omega (arith, pc_two q some)) | inr none ↦ omega arith ]

pub line_none : advance_line_bytes (pos 0) ≡ 0
unfolding advance_line_bytes
line_none = refl

pub line_some : (z : ℤ) → (z ≡ pos 0 → ⊥) → advance_line_bytes z ≡ 1 + least_signed_len z
unfolding advance_line_bytes
line_some (pos zero) some = absurd (some refl)
line_some (pos (suc n)) some = refl
line_some (negsuc n) some = refl

pub zero_or : (z : ℤ) → (z ≡ pos 0) ⊎ (z ≡ pos 0 → ⊥)
zero_or (pos zero) = inl refl
zero_or (pos (suc n)) = inr (λ e. cc)
zero_or (negsuc n) = inr (λ e. cc)

pub line_opcode : (z : ℤ) → advance_line_bytes z ≤ 1 + least_signed_len z
line_opcode z =
    elim (zero_or z) [
      | inl none ↦ omega (arith, ap advance_line_bytes none, line_none)
      | inr some ↦ omega (arith, line_some z some)
    ]

pub line_add : (y z : ℤ) → advance_line_bytes (y +ℤ z) ≤ 1 + least_signed_len y + advance_line_bytes z
line_add y z =
    elim (zero_or z) [
      | inl none ↦
          let e : y +ℤ z ≡ y = omega (arith, ints, none) in
          omega (arith, ap advance_line_bytes e, line_opcode y)
      | inr some ↦ omega (arith, line_opcode (y +ℤ z), line_some z some, signed_lens.sum y z)
    ]

pub line_sum : (y z : ℤ) → advance_line_bytes (y +ℤ z) ≤ advance_line_bytes y + advance_line_bytes z
line_sum y z =
    elim (zero_or y) [
      | inl none ↦
          let e : y +ℤ z ≡ z = omega (arith, ints, none) in
          omega (arith, ap advance_line_bytes e)
      | inr some ↦ omega (arith, line_some y some, line_add y z)
    ]

pub line_laws : LineLaws
line_laws = record { none = line_none; opcode = line_opcode; sum = line_sum; advance_line = line_add }

pub line_bytes_none : (z : ℤ) → z ≡ pos 0 → 0 ≡ advance_line_bytes z
line_bytes_none z none = omega (arith, ap advance_line_bytes none, line_none)

pub line_bytes_some : (z w : ℤ) (len : ℕ) → w ≡ z → len ≡ least_signed_len w → (z ≡ pos 0 → ⊥) → 1 + len ≡ advance_line_bytes z
line_bytes_some z w len same is some = omega (arith, is, ap least_signed_len same, line_some z some)

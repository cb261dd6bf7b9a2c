-- Multiples of a number.
use Rattle.std.proofs.Common.{◌≡◌, ◌≤◌, ◌<◌, ◌+◌, ◌*◌, ◌/◌, ◌%◌, ℕ, max, arith, inl, inr}
use Rattle.std.proofs.lemmas.Bool.{cases_lt}
use Rattle.std.proofs.lemmas.Nat.{div-add-mod'}
use Rattle.std.proofs.Math.Nat.{mul-le-mul_right, add-mul, mul-mod_left, mod-lt}
use Rattle.elf_place.specs.Layout.{IsNextMultiple}

-- of two multiples of a number that are less than it apart, the later one isn't above the other
pub multiple-le : (a x y : ℕ) → x % a ≡ 0 → y % a ≡ 0 → y < x + a → y ≤ x
multiple-le a x y whole_x whole_y near =
    let of_x : x / a * a + x % a ≡ x = div-add-mod' x a in
    let of_y : y / a * a + y % a ≡ y = div-add-mod' y a in
    elim (cases_lt (x / a) (y / a)) [
      | inl less ↦
          let grown : (x / a + 1) * a ≤ y / a * a = mul-le-mul_right a (let h : x / a + 1 ≤ y / a = omega arith in h) in
          let split : (x / a + 1) * a ≡ x / a * a + 1 * a = add-mul (x / a) 1 a in
          omega arith
      | inr not_less ↦
          let below : y / a * a ≤ x / a * a = mul-le-mul_right a not_less in
          omega arith
    ]

-- the next multiple of an alignment is no farther than the alignment
pub next-near : (start align at : ℕ) → IsNextMultiple start align at → at ≤ start + max align 1
next-near start align at next =
    let a = max align 1 in
    let whole : start / a * a + start % a ≡ start = div-add-mod' start a in
    let rest : start % a < a = mod-lt start (omega arith) in
    let other : (start / a + 1) * a ≡ start / a * a + 1 * a = add-mul (start / a) 1 a in
    let before : at ≤ (start / a + 1) * a = next.least ((start / a + 1) * a) (omega arith) (mul-mod_left (start / a + 1) a) in
    omega arith

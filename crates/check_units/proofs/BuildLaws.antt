-- Sums made from the last to the first.
use Rattle.std.proofs.Common.{◌≡◌, ◌≤◌, ◌+◌, ◌*◌, ◌/◌, inl, inr, ℕ, List, length, get_or, set, sum, ap, arith}
use Rattle.std.specs.List.{All}
use Rattle.std.proofs.lemmas.Bool.{cases_eq}
use Rattle.std.proofs.lemmas.List.{length-set, get_or-set_same, get_or-set_other, drop-set-lt}
use Rattle.std.proofs.lemmas.List.Sums.{sum-map, sum_by-le}
use Rattle.leb_codec.specs.Layout.{SlotForm, uleb, call, SlotRow, size_after}
use Rattle.slot_layout.specs.inside.Rounds.{smallest_of}
use Rattle.check_units.specs.inside.Sums.{numbers_of, AreSumsFrom}
use Rattle.check_units.proofs.CellLaws.{before_more, before_rises, total_is, level}

smallest_two : (form : SlotForm) → size_after form 0 ≤ 2
smallest_two uleb = omega arith
smallest_two call = omega arith

pub sum_smallest : (rows : List SlotRow) → sum (smallest_of rows) ≤ 2 * length rows
sum_smallest rows =
    let all : All (λ (row : SlotRow). size_after row.form 0 ≤ 2) rows = λ k d lt. smallest_two (get_or rows k d).form in
    omega (arith, sum-map (λ (row : SlotRow). size_after row.form 0) rows, sum_by-le (λ (row : SlotRow). size_after row.form 0) 2 rows all)

module _ (cells : List ℕ) (n : ℕ) (long : length cells ≡ 2 * n) (p : ℕ) (some : 1 ≤ p) (within : p + 1 ≤ n) (sums : AreSumsFrom (p + 1) cells) where
  half : length cells / 2 ≡ n
  half = omega (arith, long)

  -- two cells below have no more than the sum of all numbers
  pub below_few : get_or cells (2 * p) 0 + get_or cells (2 * p + 1) 0 ≤ sum (numbers_of cells)
  below_few =
      let even : length cells ≡ 2 * (length cells / 2) = omega (arith, long) in
      let total = total_is cells even in
      let up = level cells even (p + 1) sums (p + 1) (length cells / 2) (omega arith) (omega (arith, half, within)) (omega arith) in
      let first = before_more cells (2 * p) (omega (arith, long, within)) in
      let second = before_more cells (2 * p + 1) (omega (arith, long, within)) in
      let e : 2 * (p + 1) ≡ 2 * p + 1 + 1 = omega arith in
      let up' = rw e at up in
      let rises = before_rises cells (p + 1) (2 * p) (omega (arith, some)) in
      omega (arith, total, up', first, second, rises)

  pub sums_next : AreSumsFrom p (set cells p (get_or cells (2 * p) 0 + get_or cells (2 * p + 1) 0))
  sums_next q low inside =
      let value : ℕ = get_or cells (2 * p) 0 + get_or cells (2 * p + 1) 0 in
      let size = length-set cells p value in
      let same : length (set cells p value) / 2 ≡ length cells / 2 = ap (λ (k : ℕ). k / 2) size in
      let left = get_or-set_other cells p (2 * q) value 0 (λ e. absurd (omega (arith, e, low, some))) in
      let right = get_or-set_other cells p (2 * q + 1) value 0 (λ e. absurd (omega (arith, e, low, some))) in
      elim (cases_eq q p) [
        | inl here ↦
            let this : get_or (set cells p value) q 0 ≡ value = rw here (get_or-set_same cells p value 0 (omega (arith, long, within))) in
            let l : get_or cells (2 * q) 0 ≡ get_or cells (2 * p) 0 = ap (λ (k : ℕ). get_or cells (2 * k) 0) here in
            let r : get_or cells (2 * q + 1) 0 ≡ get_or cells (2 * p + 1) 0 = ap (λ (k : ℕ). get_or cells (2 * k + 1) 0) here in
            omega (arith, this, left, right, l, r)
        | inr other ↦
            let this = get_or-set_other cells p q value 0 other in
            omega (arith, this, left, right, sums q (omega (arith, low, other)) (omega (arith, inside, same)))
      ]

  pub numbers_same : (v : ℕ) → numbers_of (set cells p v) ≡ numbers_of cells
  numbers_same v =
      let same : length (set cells p v) / 2 ≡ length cells / 2 = ap (λ (k : ℕ). k / 2) (length-set cells p v) in
      rw same (drop-set-lt (length cells / 2) cells p v (omega (arith, half, within)))

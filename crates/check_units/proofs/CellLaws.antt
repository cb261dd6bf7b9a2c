-- Sums of cells of which each is the sum of two.
use Rattle.std.proofs.Common.{◌≡◌, ◌≤◌, ◌<◌, ◌+◌, ◌-◌, ◌*◌, ◌/◌, ◌%◌, ◌⊎◌, inl, inr, ℕ, zero, suc, List, length, get_or, take, drop, sum, eqb, sym, ap, subst, arith}
use Rattle.std.specs.Prelude.{slice_range}
use Rattle.std.proofs.lemmas.Bool.{cases_lt, cases_eq, cond-true, cond-false, eq-eqb, ne_eqb}
use Rattle.std.proofs.lemmas.List.{take_all, take-take, drop-drop}
use Rattle.std.proofs.lemmas.List.Sums.{sum_by_more, sum_by-take-drop, sum_by-take-le}
use Rattle.slot_layout.proofs.SumLaws.{sum_range}
use Rattle.check_units.specs.inside.Sums.{numbers_of, AreSumsFrom, AreSums, odd_cell}

-- the sum of the cells before a place
abbrev pub before : List ℕ → ℕ → ℕ
before cells k = sum (take k cells)

pub before_more : (cells : List ℕ) (k : ℕ) → k < length cells → before cells (k + 1) ≡ before cells k + get_or cells k 0
before_more cells k lt = sum_by_more (λ s. s) cells k 0 lt

pub before_rises : (cells : List ℕ) (a b : ℕ) → a ≤ b → before cells a ≤ before cells b
before_rises cells a b up =
    let front : take a (take b cells) ≡ take a cells = take-take a b cells up in
    let less = sum_by-take-le (λ s. s) (take b cells) a in
    rw front at less

-- the sum of all numbers, and of some
pub total_is : (cells : List ℕ) → length cells ≡ 2 * (length cells / 2) → sum (numbers_of cells) + before cells (length cells / 2) ≡ before cells (2 * (length cells / 2))
total_is cells even =
    let parts = sum_by-take-drop (λ s. s) cells (length cells / 2) in
    let whole : take (2 * (length cells / 2)) cells ≡ cells = take_all (2 * (length cells / 2)) cells (omega (arith, even)) in
    rw whole (omega (arith, parts))

pub range_is : (cells : List ℕ) (from to : ℕ) → from ≤ to → sum (slice_range (numbers_of cells) from to) + before cells (length cells / 2 + from) ≡ before cells (length cells / 2 + to)
range_is cells from to up =
    let n : ℕ = length cells / 2 in
    let same : slice_range (drop n cells) from to ≡ slice_range cells (n + from) (n + to) = rw (drop-drop from n cells) (ap (λ (k : ℕ). take k (drop (n + from) cells)) (let e : to - from ≡ (n + to) - (n + from) = omega arith in e)) in
    let rest = sum_range cells (n + from) (n + to) (omega arith) in
    let rises = before_rises cells (n + from) (n + to) (omega arith) in
    rw same (omega (arith, rest, rises))

evens : (k : ℕ) → ((k % 2 ≡ 1) × (2 * ((k + 1) / 2) ≡ k + 1) × (2 * (k / 2) + 1 ≡ k)) ⊎ ((k % 2 ≡ 0) × (2 * ((k + 1) / 2) ≡ k) × (2 * (k / 2) ≡ k))
evens k =
    elim (cases_eq (k % 2) 1) [
      | inl odd ↦ inl (odd, omega (arith, odd), omega (arith, odd))
      | inr even ↦ inr (omega (arith, even), omega (arith, even), omega (arith, even))
    ]

odd_is : (cells : List ℕ) (place cell : ℕ) → place % 2 ≡ 1 → odd_cell cells place cell ≡ get_or cells cell 0
odd_is cells place cell odd = cond-true {A = ℕ} (eqb (place % 2) 1) (get_or cells cell 0) 0 (eq-eqb (place % 2) 1 odd)

even_is : (cells : List ℕ) (place cell : ℕ) → place % 2 ≡ 0 → odd_cell cells place cell ≡ 0
even_is cells place cell even = cond-false {A = ℕ} (eqb (place % 2) 1) (get_or cells cell 0) 0 (ne_eqb (place % 2) 1 (omega (arith, even)))

low_end : (cells : List ℕ) (low : ℕ) → low < length cells → odd_cell cells low low + before cells low ≡ before cells (2 * ((low + 1) / 2))
low_end cells low inside =
    elim (evens low) [
      | inl odd ↦ rw (odd.1, odd_is cells low low odd.0) (omega (arith, before_more cells low inside))
      | inr even ↦ rw (even.1, even_is cells low low even.0) (omega arith)
    ]

high_end : (cells : List ℕ) (high : ℕ) → high ≤ length cells → before cells (2 * (high / 2)) + odd_cell cells high (high - 1) ≡ before cells high
high_end cells high inside =
    elim (evens high) [
      | inl odd ↦
          let k : ℕ = 2 * (high / 2) in
          let last : high ≡ k + 1 = sym odd.2 in
          let here : get_or cells (high - 1) 0 ≡ get_or cells k 0 = ap (λ (j : ℕ). get_or cells j 0) (let e : high - 1 ≡ k = omega (arith, last) in e) in
          let more = before_more cells k (omega (arith, last)) in
          let whole : before cells high ≡ before cells (k + 1) = ap (before cells) last in
          omega (arith, odd_is cells high (high - 1) odd.0, here, more, whole)
      | inr even ↦
          let whole : before cells (2 * (high / 2)) ≡ before cells high = ap (before cells) even.2 in
          omega (arith, even_is cells high (high - 1) even.0, whole)
    ]

module _ (cells : List ℕ) (even : length cells ≡ 2 * (length cells / 2)) (from : ℕ) (inner : AreSumsFrom from cells) where
  step_up : (a c : ℕ) → from ≤ c → c < length cells / 2 → before cells (2 * c) + before cells a ≡ before cells (2 * a) + before cells c → before cells (2 * (c + 1)) + before cells a ≡ before cells (2 * a) + before cells (c + 1)
  step_up a c up inside same =
      let e : 2 * (c + 1) ≡ 2 * c + 1 + 1 = omega arith in
      let first = before_more cells (2 * c) (omega (arith, even)) in
      let second = before_more cells (2 * c + 1) (omega (arith, even)) in
      let one = before_more cells c (omega (arith, even)) in
      rw e (omega (arith, first, second, one, inner c up inside, same))

  level_by : (k a b : ℕ) → b ≡ a + k → from ≤ a → b ≤ length cells / 2 → before cells (2 * b) + before cells a ≡ before cells (2 * a) + before cells b
  level_by zero a b is up inside = let e : b ≡ a = omega arith in rw e (omega arith)
  level_by (suc k) a b is up inside =
      let e : b - 1 + 1 ≡ b = omega arith in
      let rest = level_by k a (b - 1) (omega arith) up (omega arith) in
      subst (λ (x : ℕ). before cells (2 * x) + before cells a ≡ before cells (2 * a) + before cells x) e (step_up a (b - 1) (omega arith) (omega arith) rest)

  -- a range of cells has the sum of the cells below it
  pub level : (a b : ℕ) → from ≤ a → a ≤ b → b ≤ length cells / 2 → before cells (2 * b) + before cells a ≡ before cells (2 * a) + before cells b
  level a b up order inside = level_by (b - a) a b (omega arith) up inside

-- no cell has more than the sum of all numbers
pub cell_few : (cells : List ℕ) → AreSums cells → (p : ℕ) → 1 ≤ p → p < length cells → get_or cells p 0 ≤ sum (numbers_of cells)
cell_few cells are p some inside =
    let n : ℕ = length cells / 2 in
    let more = before_more cells p inside in
    let total = total_is cells are.even in
    elim (cases_lt p n) [
      | inl sum_ ↦
          let up = level cells are.even 1 are.inner p n some (omega arith) (omega arith) in
          let rises = before_rises cells (p + 1) (2 * p) (omega arith) in
          omega (arith, up, rises, more, total)
      | inr number ↦
          let low = before_rises cells n p number in
          let high = before_rises cells (p + 1) (2 * n) (omega (arith, are.even)) in
          omega (arith, low, high, more, total)
    ]

-- a sum on its way
pub record IsSumming (cells : List ℕ) (from to low high so_far : ℕ) : Type 0 where
  pub order : low ≤ high
  pub inside : high ≤ length cells
  pub some : low < high → 1 ≤ low
  pub total : so_far + before cells high ≡ sum (slice_range (numbers_of cells) from to) + before cells low

module _ (cells : List ℕ) (are : AreSums cells) (from to : ℕ) (up : from ≤ to) (within : to ≤ length cells / 2) where
  pub summing_start : IsSumming cells from to (length cells / 2 + from) (length cells / 2 + to) 0
  summing_start = record {
    order = omega arith;
    inside = omega (arith, are.even);
    some = λ less. omega arith;
    total = omega (arith, range_is cells from to up);
  }

  pub summing_next : (low high so_far : ℕ) → low < high → IsSumming cells from to low high so_far → IsSumming cells from to ((low + 1) / 2) (high / 2) (so_far + (odd_cell cells low low + odd_cell cells high (high - 1)))
  summing_next low high so_far less is =
      let some = is.some less in
      let upper = level cells are.even 1 are.inner ((low + 1) / 2) (high / 2) (omega (arith, some)) (omega arith) (omega (arith, is.inside)) in
      let first = low_end cells low (omega (arith, is.inside)) in
      let last = high_end cells high is.inside in
      record {
        order = omega arith;
        inside = omega (arith, is.inside);
        some = λ further. omega (arith, some);
        total = omega (arith, upper, first, last, is.total);
      }

  -- what is summed so far fits
  pub summing_few : (low high so_far : ℕ) → IsSumming cells from to low high so_far → so_far ≤ sum (numbers_of cells)
  summing_few low high so_far is =
      let n : ℕ = length cells / 2 in
      let rises = before_rises cells low high is.order in
      let range = range_is cells from to up in
      let front = before_rises cells n (n + from) (omega arith) in
      let back = before_rises cells (n + to) (2 * n) (omega arith) in
      omega (arith, is.total, rises, range, front, back, total_is cells are.even)

  pub summing_end : (low high so_far : ℕ) → high ≤ low → IsSumming cells from to low high so_far → so_far ≡ sum (slice_range (numbers_of cells) from to)
  summing_end low high so_far done is =
      let e : low ≡ high = omega (arith, is.order) in
      let same : before cells low ≡ before cells high = ap (before cells) e in
      omega (arith, is.total, same)

pub range_few : (xs : List ℕ) (from to : ℕ) → sum (slice_range xs from to) ≤ sum xs
range_few xs from to =
    omega (arith, sum_by-take-le (λ s. s) (drop from xs) (to - from), sum_by-take-drop (λ s. s) xs from)

-- Numbers in the second half of a list of cells, and sums of them in the first.
use Rattle.std.specs.Prelude.{◌≡◌, ◌≤◌, ◌<◌, ◌+◌, ◌*◌, ◌/◌, ◌%◌, ℕ, List, length, drop, slice_index, nat_eq, if◌then◌else◌}

-- the numbers
abbrev pub numbers_of : List ℕ → List ℕ
numbers_of cells = drop (length cells / 2) cells

-- each cell from a place on, up to the numbers, is the sum of the cells at its double place and behind it
abbrev pub AreSumsFrom : ℕ → List ℕ → Type 0
AreSumsFrom from cells =
    (p : ℕ) → from ≤ p → p < length cells / 2 → slice_index cells p ≡ slice_index cells (2 * p) + slice_index cells (2 * p + 1)

-- each cell but that at 0 is such a sum
pub record AreSums (cells : List ℕ) : Type 0 where
  pub even : length cells ≡ 2 * (length cells / 2)
  pub inner : AreSumsFrom 1 cells

-- Something has been added to a number and to the sums that have it, from the last one to that at a place. The sum above that place,
-- if there is one, lacks it.
pub record IsAdding (old : List ℕ) (place more at : ℕ) (cells : List ℕ) : Type 0 where
  pub long : length cells ≡ length old
  pub low : 1 ≤ at
  pub inside : at < length cells
  pub number : slice_index cells (length old / 2 + place) ≡ slice_index old (length old / 2 + place) + more
  pub others : (q : ℕ) → length old / 2 ≤ q → ¬ (q ≡ length old / 2 + place) → slice_index cells q ≡ slice_index old q
  pub before : (q : ℕ) → q < at → slice_index cells q ≡ slice_index old q
  pub inner :
      (q : ℕ) → 1 ≤ q → q < length old / 2 → ¬ (q ≡ at / 2) → slice_index cells q ≡ slice_index cells (2 * q) + slice_index cells (2 * q + 1)
  pub broken : 1 ≤ at / 2 → slice_index cells (at / 2) + more ≡ slice_index cells (2 * (at / 2)) + slice_index cells (2 * (at / 2) + 1)

-- what a cell has where a place is odd, and else 0
abbrev pub odd_cell : List ℕ → ℕ → ℕ → ℕ
odd_cell cells place cell = if nat_eq (place % 2) 1 then slice_index cells cell else 0

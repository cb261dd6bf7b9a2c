-- The ranks of steps, slot by slot and joined.
use Rattle.std.proofs.Common.{◌≡◌, ◌≤◌, ◌<◌, ◌+◌, inl, inr, ℕ, zero, suc, ltb, cond, List, [], ◌∷◌, length, get_or, take, ap, ◌∙◌, refl, arith}
use Rattle.std.specs.List.{count_by}
use Rattle.std.proofs.lemmas.Bool.{cases_lt, cond-true, cond-false, lt-ltb, le-ltb}
use Rattle.std.proofs.lemmas.List.{length-take-le, length-append, take_at, drop_at}
use Rattle.std.proofs.lemmas.List.Sums.{sum_by-cons}
use Rattle.leb_codec.specs.Layout.{SlotForm, uleb, call, SlotRow, row_at, IsSlotSize, size_after, steps_to, ranks_by_slot, sizes_below, step_count}
use Rattle.slot_layout.specs.inside.Rounds.{AreNoted, joined}
use Rattle.slot_layout.proofs.SizeLaws.{step_within, step_past}
use Rattle.slot_layout.proofs.RoundLaws.{rounds, rounds_start}

-- ---- one slot's ranks

-- each step of a slot has the round that led past its size
pub record IsRanked (rows : List SlotRow) (t i : ℕ) (ranks : List ℕ) : Type 0 where
  pub long : length ranks ≡ 4
  pub past : (k : ℕ) → k < steps_to (row_at rows i).form (get_or (rounds rows t) i 0) → get_or ranks k 0 < t
  pub before : (k : ℕ) → k < steps_to (row_at rows i).form (get_or (rounds rows t) i 0) → get_or (rounds rows (get_or ranks k 0)) i 0 < size_after (row_at rows i).form (k + 1)
  pub after : (k : ℕ) → k < steps_to (row_at rows i).form (get_or (rounds rows t) i 0) → size_after (row_at rows i).form (k + 1) ≤ get_or (rounds rows (suc (get_or ranks k 0))) i 0

-- no step is taken at first
no_steps : (form : SlotForm) → steps_to form (size_after form 0) ≡ 0
no_steps uleb = refl
no_steps call = refl

pub ranked_start : (rows : List SlotRow) (i : ℕ) (ranks : List ℕ) → i < length rows → length ranks ≡ 4 → IsRanked rows 0 i ranks
ranked_start rows i ranks inside long =
    let none : steps_to (row_at rows i).form (get_or (rounds rows 0) i 0) ≡ 0 = ap (steps_to (row_at rows i).form) (rounds_start rows i inside) ∙ no_steps (row_at rows i).form in
    record {
      long = long;
      past = λ k below. absurd (omega (arith, none));
      before = λ k below. absurd (omega (arith, none));
      after = λ k below. absurd (omega (arith, none));
    }

pub ranked_next : (rows : List SlotRow) (t i : ℕ) (old new : List ℕ) → IsSlotSize (row_at rows i).form (get_or (rounds rows t) i 0) → IsSlotSize (row_at rows i).form (get_or (rounds rows (suc t)) i 0) → IsRanked rows t i old → AreNoted (steps_to (row_at rows i).form (get_or (rounds rows t) i 0)) (steps_to (row_at rows i).form (get_or (rounds rows (suc t)) i 0)) t old new → IsRanked rows (suc t) i new
ranked_next rows t i old new sized grown is noted =
    let form : SlotForm = (row_at rows i).form in
    let steps : ℕ = steps_to form (get_or (rounds rows t) i 0) in
    record {
      long = noted.same_length ∙ is.long;
      past = λ k below. elim (cases_lt k steps) [
        | inl early ↦ omega (arith, noted.before k early, is.past k early)
        | inr late ↦ omega (arith, noted.since k late below)
      ];
      before = λ k below. elim (cases_lt k steps) [
        | inl early ↦ rw (noted.before k early) (is.before k early)
        | inr late ↦ rw (noted.since k late below) (step_past form (get_or (rounds rows t) i 0) k sized late)
      ];
      after = λ k below. elim (cases_lt k steps) [
        | inl early ↦ rw (noted.before k early) (is.after k early)
        | inr late ↦ rw (noted.since k late below) (step_within form (get_or (rounds rows (suc t)) i 0) k grown below)
      ];
    }

-- a round that changes nothing keeps the ranks
pub ranked_same : (rows : List SlotRow) (t i : ℕ) (old new : List ℕ) → IsRanked rows t i old → AreNoted (steps_to (row_at rows i).form (get_or (rounds rows t) i 0)) (steps_to (row_at rows i).form (get_or (rounds rows t) i 0)) t old new → IsRanked rows t i new
ranked_same rows t i old new is noted = record {
  long = noted.same_length ∙ is.long;
  past = λ k below. rw (noted.before k below) (is.past k below);
  before = λ k below. rw (noted.before k below) (is.before k below);
  after = λ k below. rw (noted.before k below) (is.after k below);
}

-- a count of what stands in front
pub count_front : (xs : List ℕ) (t j : ℕ) → j ≤ length xs → ((k : ℕ) → k < length xs → k < j → get_or xs k 0 < t) → ((k : ℕ) → k < length xs → j ≤ k → t ≤ get_or xs k 0) → count_by (λ x. ltb x t) xs ≡ j
count_front [] t j few low high = omega arith
count_front (x ∷ xs) t zero few low high =
    let no = cond-false {A = ℕ} (ltb x t) 1 0 (le-ltb x t (high 0 (omega arith) (omega arith))) in
    let rest = count_front xs t 0 (omega arith) (λ k l m. absurd (omega arith)) (λ k l m. high (suc k) (omega arith) (omega arith)) in
    omega (arith, sum_by-cons (λ y. cond (ltb y t) 1 0) x xs, no, rest)
count_front (x ∷ xs) t (suc j) few low high =
    let yes = cond-true {A = ℕ} (ltb x t) 1 0 (lt-ltb x t (low 0 (omega arith) (omega arith))) in
    let rest = count_front xs t j (omega arith) (λ k l m. low (suc k) (omega arith) (omega arith)) (λ k l m. high (suc k) (omega arith) (omega arith)) in
    omega (arith, sum_by-cons (λ y. cond (ltb y t) 1 0) x xs, yes, rest)

-- ---- the slots' ranks joined

-- what each slot has of its list
abbrev pub fronts : List SlotRow → List ℕ → List (List ℕ) → List (List ℕ)
fronts (row ∷ rows) (size ∷ sizes) (ranks ∷ more) = take (steps_to row.form size) ranks ∷ fronts rows sizes more
fronts _ _ _ = []

-- each slot's list has its ranks
pub record AreLong (rows : List SlotRow) (sizes : List ℕ) (lists : List (List ℕ)) : Type 0 where
  pub sizes_length : length sizes ≡ length rows
  pub lists_length : length lists ≡ length rows
  pub each : (i : ℕ) → i < length rows → steps_to (row_at rows i).form (get_or sizes i 0) ≤ length (get_or lists i [])

long_rest : (row : SlotRow) (rows : List SlotRow) (size : ℕ) (sizes : List ℕ) (ranks : List ℕ) (lists : List (List ℕ)) → AreLong (row ∷ rows) (size ∷ sizes) (ranks ∷ lists) → AreLong rows sizes lists
long_rest row rows size sizes ranks lists long = record {
  sizes_length = omega (arith, long.sizes_length);
  lists_length = omega (arith, long.lists_length);
  each = λ i l. long.each (suc i) (omega arith);
}

pub split_joined : (rows : List SlotRow) (sizes : List ℕ) (lists : List (List ℕ)) → AreLong rows sizes lists → ranks_by_slot rows sizes (joined rows sizes lists) ≡ fronts rows sizes lists
split_joined [] sizes lists long = refl
split_joined (row ∷ rows) [] lists long = refl
split_joined (row ∷ rows) (size ∷ sizes) [] long = absurd (omega (arith, long.lists_length))
split_joined (row ∷ rows) (size ∷ sizes) (ranks ∷ lists) long =
    let n : ℕ = steps_to row.form size in
    let front : length (take n ranks) ≡ n = length-take-le n ranks (long.each 0 (omega arith)) in
    let rest = split_joined rows sizes lists (long_rest row rows size sizes ranks lists long) in
    rw (take_at (take n ranks) (joined rows sizes lists) n front, drop_at (take n ranks) (joined rows sizes lists) n front)
    (ap (λ (ls : List (List ℕ)). take n ranks ∷ ls) rest)

pub joined_length : (rows : List SlotRow) (sizes : List ℕ) (lists : List (List ℕ)) → AreLong rows sizes lists → length (joined rows sizes lists) ≤ step_count rows sizes
joined_length [] sizes lists long = omega arith
joined_length (row ∷ rows) [] lists long = omega arith
joined_length (row ∷ rows) (size ∷ sizes) [] long = omega arith
joined_length (row ∷ rows) (size ∷ sizes) (ranks ∷ lists) long =
    let n : ℕ = steps_to row.form size in
    omega (arith, length-append (take n ranks) (joined rows sizes lists), length-take-le n ranks (long.each 0 (omega arith)), joined_length rows sizes lists (long_rest row rows size sizes ranks lists long))

pub front_at : (rows : List SlotRow) (sizes : List ℕ) (lists : List (List ℕ)) (i : ℕ) → length sizes ≡ length rows → length lists ≡ length rows → i < length rows → get_or (fronts rows sizes lists) i [] ≡ take (steps_to (row_at rows i).form (get_or sizes i 0)) (get_or lists i [])
front_at [] sizes lists i long longer inside = absurd (omega arith)
front_at (row ∷ rows) [] lists i long longer inside = absurd (omega arith)
front_at (row ∷ rows) (size ∷ sizes) [] i long longer inside = absurd (omega arith)
front_at (row ∷ rows) (size ∷ sizes) (ranks ∷ lists) zero long longer inside = refl
front_at (row ∷ rows) (size ∷ sizes) (ranks ∷ lists) (suc i) long longer inside = front_at rows sizes lists i (omega arith) (omega arith) (omega arith)

pub length_fronts : (rows : List SlotRow) (sizes : List ℕ) (lists : List (List ℕ)) → length sizes ≡ length rows → length lists ≡ length rows → length (fronts rows sizes lists) ≡ length rows
length_fronts [] sizes lists long longer = refl
length_fronts (row ∷ rows) [] lists long longer = absurd (omega arith)
length_fronts (row ∷ rows) (size ∷ sizes) [] long longer = absurd (omega arith)
length_fronts (row ∷ rows) (size ∷ sizes) (ranks ∷ lists) long longer = ap suc (length_fronts rows sizes lists (omega arith) (omega arith))

pub length_below : (t : ℕ) (rows : List SlotRow) (lists : List (List ℕ)) → length lists ≡ length rows → length (sizes_below t rows lists) ≡ length rows
length_below t [] lists long = refl
length_below t (row ∷ rows) [] long = absurd (omega arith)
length_below t (row ∷ rows) (ranks ∷ lists) long = ap suc (length_below t rows lists (omega arith))

pub below_at : (t : ℕ) (rows : List SlotRow) (lists : List (List ℕ)) (i : ℕ) → length lists ≡ length rows → i < length rows → get_or (sizes_below t rows lists) i 0 ≡ size_after (row_at rows i).form (count_by (λ rank. ltb rank t) (get_or lists i []))
below_at t [] lists i long inside = absurd (omega arith)
below_at t (row ∷ rows) [] i long inside = absurd (omega arith)
below_at t (row ∷ rows) (ranks ∷ lists) zero long inside = refl
below_at t (row ∷ rows) (ranks ∷ lists) (suc i) long inside = below_at t rows lists i (omega arith) (omega arith)

-- Sums of sizes.
use Rattle.std.proofs.Common.{◌≡◌, ◌≤◌, ◌<◌, ◌+◌, ◌-◌, ◌*◌, ◌^◌, ℕ, suc, min, List, [], ◌∷◌, length, get_or, take, drop, sum, sym, ap, ◌∙◌, subst, arith}
use Rattle.std.specs.List.{All}
use Rattle.std.specs.Prelude.{slice_range}
use Rattle.std.proofs.lemmas.List.{drop-take, length-take, length-drop, get_or-take, get_or-drop, take-take}
use Rattle.std.proofs.lemmas.List.Sums.{sum_by-take-drop, sum_by-cons, sum_by-take-le, sum_by-le}
use Rattle.std.proofs.lemmas.List.Elements.{All-from_get_or}
use Rattle.slot_layout.specs.Rows.{most_slots}
use Rattle.slot_layout.specs.inside.Rounds.{AreSmall}

-- sums of so many small sizes are small
pub sum-small : (sizes : List ℕ) → AreSmall sizes → sum sizes ≤ 5 * most_slots
sum-small sizes small =
    let all : All (λ s. s ≤ 5) sizes = All-from_get_or (λ s. s ≤ 5) sizes 0 small.each in
    omega (arith, sum_by-le (λ s. s) 5 sizes all, small.few)

pub sum_take-small : (sizes : List ℕ) (k : ℕ) → AreSmall sizes → sum (take k sizes) ≤ 5 * most_slots
sum_take-small sizes k small = omega (arith, sum_by-take-le (λ s. s) sizes k, sum-small sizes small)

pub sum_range-small : (sizes : List ℕ) (from to : ℕ) → AreSmall sizes → sum (slice_range sizes from to) ≤ 5 * most_slots
sum_range-small sizes from to small =
    omega (arith, sum_by-take-le (λ s. s) (drop from sizes) (to - from), sum_by-take-drop (λ s. s) sizes from, sum-small sizes small)

-- larger sizes have a larger sum
pub sum_rises : (xs ys : List ℕ) → length xs ≡ length ys → ((i : ℕ) → i < length xs → get_or xs i 0 ≤ get_or ys i 0) → sum xs ≤ sum ys
sum_rises [] ys long below = omega arith
sum_rises (x ∷ xs) [] long below = absurd (omega arith)
sum_rises (x ∷ xs) (y ∷ ys) long below =
    omega (arith, sum_by-cons (λ s. s) x xs, sum_by-cons (λ s. s) y ys, below 0 (omega arith), sum_rises xs ys (omega arith) (λ i l. below (suc i) (omega arith)))

pub sum_range_rises : (xs ys : List ℕ) (from to : ℕ) → length xs ≡ length ys → ((i : ℕ) → i < length xs → get_or xs i 0 ≤ get_or ys i 0) → sum (slice_range xs from to) ≤ sum (slice_range ys from to)
sum_range_rises xs ys from to long below =
    let n : ℕ = to - from in
    let long_xs : length (take n (drop from xs)) ≡ min n (length xs - from) = length-take n (drop from xs) ∙ ap (λ m. min n m) (length-drop from xs) in
    let long_ys : length (take n (drop from ys)) ≡ min n (length ys - from) = length-take n (drop from ys) ∙ ap (λ m. min n m) (length-drop from ys) in
    sum_rises (take n (drop from xs)) (take n (drop from ys)) (omega (arith, long_xs, long_ys))
    (λ i l. rw (get_or-take n (drop from xs) i 0 (omega (arith, long_xs)), get_or-take n (drop from ys) i 0 (omega (arith, long_xs)), get_or-drop from xs i 0, get_or-drop from ys i 0)
    (below (from + i) (omega (arith, long_xs))))

-- the sum of a range by the sums before its two ends
pub sum_range : (xs : List ℕ) (from to : ℕ) → from ≤ to → sum (slice_range xs from to) ≡ sum (take to xs) - sum (take from xs)
sum_range xs from to up =
    let whole = sum_by-take-drop (λ s. s) (take to xs) from in
    let e : to ≡ from + (to - from) = omega arith in
    let rest : drop from (take to xs) ≡ take (to - from) (drop from xs) = subst (λ (m : ℕ). drop from (take m xs) ≡ take (to - from) (drop from xs)) (sym e) (drop-take from (to - from) xs) in
    let front : take from (take to xs) ≡ take from xs = take-take from to xs up in
    let h = rw (rest, front) at whole in
    omega (arith, h)

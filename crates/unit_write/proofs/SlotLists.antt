-- Sums of parts of lists, for the slots of a unit.
use Rattle.std.proofs.Common.{◌≡◌, ◌≤◌, ◌+◌, ◌-◌, ℕ, zero, suc, List, [], ◌∷◌, get_or, take, drop, sum, ap, arith}
use Rattle.std.specs.Prelude.{slice_range}
use Rattle.std.proofs.lemmas.List.{drop-take, take-take}
use Rattle.std.proofs.lemmas.List.Sums.{sum_by-cons, sum_by-take-drop, sum_by-take-le}

-- a longer front in two parts
sum_more : (xs : List ℕ) (a b : ℕ) → sum (take (a + b) xs) ≡ sum (take a xs) + sum (take b (drop a xs))
sum_more xs a b =
    let whole = sum_by-take-drop (λ (s : ℕ). s) (take (a + b) xs) a in
    let front : take a (take (a + b) xs) ≡ take a xs = take-take a (a + b) xs (omega arith) in
    let rest : drop a (take (a + b) xs) ≡ take b (drop a xs) = drop-take a b xs in
    let h = rw (front, rest) at whole in
    omega (arith, h)

-- the second part is a range
pub sum_range : (xs : List ℕ) (a b : ℕ) → a ≤ b → sum (take b xs) ≡ sum (take a xs) + sum (slice_range xs a b)
sum_range xs a b le =
    let whole : sum (take (a + (b - a)) xs) ≡ sum (take a xs) + sum (take (b - a) (drop a xs)) = sum_more xs a (b - a) in
    let same : sum (take (a + (b - a)) xs) ≡ sum (take b xs) = ap (λ (n : ℕ). sum (take n xs)) (let e : a + (b - a) ≡ b = omega arith in e) in
    omega arith

-- the sum of a part, behind those before it
pub sum_part : (xs : List ℕ) (a b c : ℕ) → c ≡ a + b → sum (take c xs) ≡ sum (take a xs) + sum (take b (drop a xs))
sum_part xs a b c is =
    let whole : sum (take (a + b) xs) ≡ sum (take a xs) + sum (take b (drop a xs)) = sum_more xs a b in
    let same : sum (take c xs) ≡ sum (take (a + b) xs) = ap (λ (n : ℕ). sum (take n xs)) is in
    omega arith

-- no part has a larger sum than all
pub part_few : (xs : List ℕ) (a b : ℕ) → sum (take a xs) + sum (take b (drop a xs)) ≤ sum xs
part_few xs a b =
    let whole : sum (take (a + b) xs) ≡ sum (take a xs) + sum (take b (drop a xs)) = sum_more xs a b in
    let few : sum (take (a + b) xs) ≤ sum xs = sum_by-take-le (λ (s : ℕ). s) xs (a + b) in
    omega arith

-- one more
pub sum_next : (xs : List ℕ) (k : ℕ) → sum (take (suc k) xs) ≡ sum (take k xs) + get_or xs k 0
sum_next [] zero = omega arith
sum_next [] (suc k) = omega arith
sum_next (x ∷ xs) zero =
    let one = sum_by-cons (λ (s : ℕ). s) x (take 0 xs) in
    omega (arith, one)
sum_next (x ∷ xs) (suc k) =
    let more : sum (take (suc k) xs) ≡ sum (take k xs) + get_or xs k 0 = sum_next xs k in
    let long = sum_by-cons (λ (s : ℕ). s) x (take (suc k) xs) in
    let short = sum_by-cons (λ (s : ℕ). s) x (take k xs) in
    omega (arith, more, long, short)

-- Sums of terms, by the items of a list and by numbers.
use Rattle.std.proofs.Common.{◌≡◌, ◌≤◌, ◌<◌, ◌+◌, inl, inr, ℕ, zero, suc, List, [], ◌∷◌, length, map, get_or, cond, ltb, Bool, true, sym, ap, ◌∙◌, refl, subst, arith}
use Rattle.std.specs.List.{sum_by}
use Rattle.std.proofs.lemmas.Bool.{cases_Bool, cases_lt, cond_both, cond-true, cond-false, lt-ltb}
use Rattle.std.proofs.lemmas.List.Sums.{sum_by-cons}
use Rattle.elf_place.proofs.Totals.{total, total-le}

-- ITEMS

pub sum_by-map : {X Y : Type 0} (f : Y → ℕ) (g : X → Y) (xs : List X) → sum_by f (map g xs) ≡ sum_by (λ (x : X). f (g x)) xs
sum_by-map f g [] = refl
sum_by-map {X} f g (x ∷ xs) = sum_by-cons f (g x) (map g xs) ∙ ap (λ (n : ℕ). f (g x) + n) (sum_by-map f g xs) ∙ sym (sum_by-cons (λ (y : X). f (g y)) x xs)

-- terms that are no greater have no greater sum
pub sum_by-le_at : {X : Type 0} (f g : X → ℕ) (xs : List X) (d : X) → ((k : ℕ) → k < length xs → f (get_or xs k d) ≤ g (get_or xs k d)) → sum_by f xs ≤ sum_by g xs
sum_by-le_at f g [] d each = omega arith
sum_by-le_at f g (x ∷ xs) d each =
    omega (arith, sum_by-cons f x xs, sum_by-cons g x xs, each 0 (omega arith), sum_by-le_at f g xs d (λ k below. each (suc k) (omega arith)))

-- and where one is smaller, a smaller sum
pub sum_by-less_at : {X : Type 0} (f g : X → ℕ) (xs : List X) (d : X) (i : ℕ) → ((k : ℕ) → k < length xs → f (get_or xs k d) ≤ g (get_or xs k d)) → i < length xs → f (get_or xs i d) < g (get_or xs i d) → sum_by f xs < sum_by g xs
sum_by-less_at f g [] d i each inside less = absurd (omega arith)
sum_by-less_at f g (x ∷ xs) d zero each inside less =
    omega (arith, sum_by-cons f x xs, sum_by-cons g x xs, less, sum_by-le_at f g xs d (λ k below. each (suc k) (omega arith)))
sum_by-less_at f g (x ∷ xs) d (suc i) each inside less =
    omega (arith, sum_by-cons f x xs, sum_by-cons g x xs, each 0 (omega arith), sum_by-less_at f g xs d i (λ k below. each (suc k) (omega arith)) (omega arith) less)

-- something that is counted is counted at an item
pub counted_once : {X : Type 0} (f : X → ℕ) (term : ℕ) (xs : List X) → cond {A = ℕ} (ltb 0 (sum_by f xs)) term 0 ≤ sum_by (λ (x : X). cond {A = ℕ} (ltb 0 (f x)) term 0) xs
counted_once f term [] = omega arith
counted_once {X} f term (x ∷ xs) =
    let here : X → ℕ = λ (y : X). cond {A = ℕ} (ltb 0 (f y)) term 0 in
    let rest : cond {A = ℕ} (ltb 0 (sum_by f xs)) term 0 ≤ sum_by here xs = counted_once f term xs in
    let parts : sum_by here (x ∷ xs) ≡ here x + sum_by here xs = sum_by-cons here x xs in
    elim (cases_lt 0 (f x)) [
      | inl some ↦
          let most : cond {A = ℕ} (ltb 0 (sum_by f (x ∷ xs))) term 0 ≤ term = cond_both (ltb 0 (sum_by f (x ∷ xs))) term 0 (λ (n : ℕ). n ≤ term) (λ _. omega arith) (λ _. omega arith) in
          omega (arith, most, parts, cond-true {A = ℕ} (ltb 0 (f x)) term 0 (lt-ltb 0 (f x) some))
      | inr none ↦
          let same : sum_by f xs ≡ sum_by f (x ∷ xs) = omega (arith, sum_by-cons f x xs) in
          subst (λ (n : ℕ). cond {A = ℕ} (ltb 0 n) term 0 ≤ sum_by here (x ∷ xs)) same (omega (arith, rest, parts))
    ]

-- NUMBERS

pub total-add : (f g : ℕ → ℕ) (n : ℕ) → total (λ (k : ℕ). f k + g k) n ≡ total f n + total g n
total-add f g zero = refl
total-add f g (suc n) =
    let before : total (λ (k : ℕ). f k + g k) n ≡ total f n + total g n = total-add f g n in
    omega (arith, before)

pub total-none : (f : ℕ → ℕ) (n : ℕ) → ((k : ℕ) → k < n → f k ≡ 0) → total f n ≡ 0
total-none f zero none = refl
total-none f (suc n) none = omega (arith, total-none f n (λ k below. none k (omega arith)), none n (omega arith))

-- the terms of tests of which at most one passes
pub total-once : (test : ℕ → Bool) (term : ℕ → ℕ) (most n : ℕ) → ((k : ℕ) → test k ≡ true → term k ≤ most) → ((i j : ℕ) → i < j → j < n → test i ≡ true → test j ≡ true → ⊥) → total (λ (k : ℕ). cond (test k) (term k) 0) n ≤ most
total-once test term most zero each once = omega arith
total-once test term most (suc n) each once =
    let f : ℕ → ℕ = λ (k : ℕ). cond (test k) (term k) 0 in
    elim (cases_Bool (test n)) [
      | inl here ↦
          let before : total f n ≡ 0 = total-none f n (λ k below. elim (cases_Bool (test k)) [
            | inl too ↦ absurd (once k n below (omega arith) too here)
            | inr not_there ↦ cond-false {A = ℕ} (test k) (term k) 0 not_there
          ]) in
          omega (arith, before, cond-true {A = ℕ} (test n) (term n) 0 here, each n here)
      | inr not_here ↦
          let before : total f n ≤ most = total-once test term most n each (λ i j less below. once i j less (omega arith)) in
          omega (arith, before, cond-false {A = ℕ} (test n) (term n) 0 not_here)
    ]

-- a sum of sums, by the terms of each item
pub total-sums : {X : Type 0} (f : ℕ → X → ℕ) (most : X → ℕ) (n : ℕ) → ((x : X) → total (λ (k : ℕ). f k x) n ≤ most x) → (xs : List X) → total (λ (k : ℕ). sum_by (f k) xs) n ≤ sum_by most xs
total-sums f most n each [] = omega (arith, total-none (λ (k : ℕ). sum_by (f k) []) n (λ k below. refl))
total-sums {X} f most n each (x ∷ xs) =
    let rest : total (λ (k : ℕ). sum_by (f k) xs) n ≤ sum_by most xs = total-sums f most n each xs in
    let parts : total (λ (k : ℕ). sum_by (f k) (x ∷ xs)) n ≤ total (λ (k : ℕ). f k x + sum_by (f k) xs) n = total-le (λ (k : ℕ). sum_by (f k) (x ∷ xs)) (λ (k : ℕ). f k x + sum_by (f k) xs) n (λ k below. omega (arith, sum_by-cons (f k) x xs)) in
    omega (arith, parts, total-add (λ (k : ℕ). f k x) (λ (k : ℕ). sum_by (f k) xs) n, each x, rest, sum_by-cons most x xs)

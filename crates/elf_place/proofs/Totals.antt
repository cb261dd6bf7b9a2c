-- Sums of the first values of a function.
use Rattle.std.proofs.Common.{◌≡◌, ◌≢◌, ◌≤◌, ◌<◌, ◌+◌, ℕ, zero, suc, List, [], ◌∷◌, eqb, false, cond, get_or, refl, sym, ap, arith, inl, inr}
use Rattle.std.specs.List.{All, AllPairs, sum_by}
use Rattle.std.proofs.lemmas.Bool.{cases_Bool, cases_eq, eq-eqb, ne_eqb}
use Rattle.std.proofs.lemmas.List.Sums.{sum_by-cons}

-- the sum of the first n values of a function
abbrev pub total : (ℕ → ℕ) → ℕ → ℕ
total f zero = 0
total f (suc n) = total f n + f n

-- a function whose values are no greater has no greater sum
pub total-le : (f g : ℕ → ℕ) (n : ℕ) → ((k : ℕ) → k < n → f k ≤ g k) → total f n ≤ total g n
total-le f g zero below = omega arith
total-le f g (suc n) below =
    omega (arith, total-le f g n (λ k lt. below k (omega arith)), below n (omega arith))

-- nor has one that is greater at one place alone, but for as much as it is greater there
pub total-one_more : (f g : ℕ → ℕ) (s x n : ℕ) → ((k : ℕ) → k ≢ s → f k ≤ g k) → f s ≤ g s + x → total f n ≤ total g n + x
total-one_more f g s x zero others here = omega arith
total-one_more f g s x (suc n) others here =
    elim (cases_eq n s) [
      | inl same ↦
          let before : total f n ≤ total g n = total-le f g n (λ k lt. others k (λ e. omega arith)) in
          let last : f n ≤ g n + x = rw same here in
          omega arith
      | inr other ↦ omega (arith, total-one_more f g s x n others here, others n other)
    ]

-- a function with the value 0 at one place
abbrev without : (ℕ → ℕ) → ℕ → ℕ → ℕ
without f i k = cond (eqb k i) 0 (f k)

without-le : (f : ℕ → ℕ) (i k : ℕ) → without f i k ≤ f k
without-le f i k =
    elim (cases_Bool (eqb k i)) [ inl here ↦ rw here (omega arith) | inr other ↦ rw other (omega arith) ]

total-without : (f : ℕ → ℕ) (i n : ℕ) → i < n → total (without f i) n + f i ≤ total f n
total-without f i zero lt = absurd (omega arith)
total-without f i (suc n) lt =
    elim (cases_eq i n) [
      | inl same ↦
          let before : total (without f i) n ≤ total f n = total-le (without f i) f n (λ k below. without-le f i k) in
          let none : without f i n ≡ 0 = rw (eq-eqb n i (sym same)) refl in
          let here : f i ≡ f n = ap f same in
          omega arith
      | inr other ↦ omega (arith, total-without f i n (omega arith), without-le f i n)
    ]

-- values that are no greater have no greater sum
pub sum_by-below : (f g : ℕ → ℕ) (xs : List ℕ) → All (λ (x : ℕ). f x ≤ g x) xs → sum_by f xs ≤ sum_by g xs
sum_by-below f g [] below = omega arith
sum_by-below f g (x ∷ xs) below =
    let here : f x ≤ g x = below zero 0 (omega arith) in
    let rest : sum_by f xs ≤ sum_by g xs = sum_by-below f g xs (λ k d lt. below (suc k) d (omega arith)) in
    omega (arith, sum_by-cons f x xs, sum_by-cons g x xs)

-- the values at distinct numbers below n have no greater sum than the first n values
pub sum_by-distinct : (f : ℕ → ℕ) (xs : List ℕ) (n : ℕ) → All (λ (x : ℕ). x < n) xs → AllPairs (λ (x y : ℕ). x ≢ y) xs → sum_by f xs ≤ total f n
sum_by-distinct f [] n inside apart = omega arith
sum_by-distinct f (x ∷ xs) n inside apart =
    let low : x < n = inside zero 0 (omega arith) in
    let others : All (λ (y : ℕ). f y ≤ without f x y) xs = λ k d lt.
    let y = get_or xs k d in
    let differ : x ≢ y = apart zero (suc k) d (omega arith) (omega arith) in
    let is : eqb y x ≡ false = ne_eqb y x (λ e. differ (sym e)) in
    rw is (omega arith) in
    let rest = sum_by-distinct (without f x) xs n (λ k d lt. inside (suc k) d (omega arith)) (λ i j d less lt. apart (suc i) (suc j) d (omega arith) (omega arith)) in
    omega (arith, sum_by-cons f x xs, sum_by-below f (without f x) xs others, total-without f x n low)

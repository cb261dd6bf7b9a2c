-- Sums of a rising function over different numbers, and over weights that fall.
use Rattle.std.proofs.Common.{◌≡◌, ◌≢◌, ◌≤◌, ◌<◌, ◌+◌, ◌-◌, ◌*◌, ℕ, zero, suc, cond, ltb, List, [], ◌∷◌, length, get_or, take, sym, ap, ◌∙◌, refl, arith}
use Rattle.std.proofs.lemmas.Bool.{cond_both, ltb-true, ltb-false}
use Rattle.std.proofs.lemmas.List.{get_or-take, length-take-le}
use Rattle.std.proofs.Math.Nat.{mul-le-mul_right, mul-add}

-- each number is above the one before it, and the first above a bound
abbrev pub Climbs : ℕ → List ℕ → Type 0
Climbs low [] = Unit {0}
Climbs low (x ∷ xs) = (low < x) × Climbs x xs

-- a number is none of these
abbrev pub Avoids : ℕ → List ℕ → Type 0
Avoids x [] = Unit {0}
Avoids x (y ∷ ys) = (x ≢ y) × Avoids x ys

abbrev pub AllDiffer : List ℕ → Type 0
AllDiffer [] = Unit {0}
AllDiffer (x ∷ xs) = Avoids x xs × AllDiffer xs

abbrev pub AllPositive : List ℕ → Type 0
AllPositive [] = Unit {0}
AllPositive (x ∷ xs) = (0 < x) × AllPositive xs

-- a number put where it belongs among numbers that climb
abbrev placed : ℕ → List ℕ → List ℕ
placed x [] = x ∷ []
placed x (y ∷ ys) = cond (ltb x y) (x ∷ (y ∷ ys)) (y ∷ placed x ys)

climbs_placed : (low x : ℕ) (ys : List ℕ) → low < x → Avoids x ys → Climbs low ys → Climbs low (placed x ys)
climbs_placed low x [] above other climbs = (above, tt)
climbs_placed low x (y ∷ ys) above other climbs =
    cond_both (ltb x y) (x ∷ (y ∷ ys)) (y ∷ placed x ys) (Climbs low)
    (λ test. (above, (ltb-true x y test, climbs.1)))
    (λ test. let e : x ≢ y = other.0 in (climbs.0, climbs_placed y x ys (let l : y ≤ x = ltb-false x y test in omega arith) other.1 climbs.1))

avoids_placed : (z x : ℕ) (ys : List ℕ) → z ≢ x → Avoids z ys → Avoids z (placed x ys)
avoids_placed z x [] other avoids = (other, tt)
avoids_placed z x (y ∷ ys) other avoids =
    cond_both (ltb x y) (x ∷ (y ∷ ys)) (y ∷ placed x ys) (Avoids z)
    (λ _. (other, avoids))
    (λ _. (avoids.0, avoids_placed z x ys other avoids.1))

length_placed : (x : ℕ) (ys : List ℕ) → length (placed x ys) ≡ suc (length ys)
length_placed x [] = refl
length_placed x (y ∷ ys) =
    cond_both (ltb x y) (x ∷ (y ∷ ys)) (y ∷ placed x ys) (λ zs. length zs ≡ suc (suc (length ys)))
    (λ _. refl)
    (λ _. ap suc (length_placed x ys))

abbrev ordered : List ℕ → List ℕ
ordered [] = []
ordered (x ∷ xs) = placed x (ordered xs)

avoids_ordered : (z : ℕ) (xs : List ℕ) → Avoids z xs → Avoids z (ordered xs)
avoids_ordered z [] avoids = tt
avoids_ordered z (x ∷ xs) avoids = avoids_placed z x (ordered xs) avoids.0 (avoids_ordered z xs avoids.1)

climbs_ordered : (xs : List ℕ) → AllPositive xs → AllDiffer xs → Climbs 0 (ordered xs)
climbs_ordered [] positive differ = tt
climbs_ordered (x ∷ xs) positive differ =
    climbs_placed 0 x (ordered xs) positive.0 (avoids_ordered x xs differ.0) (climbs_ordered xs positive.1 differ.1)

length_ordered : (xs : List ℕ) → length (ordered xs) ≡ length xs
length_ordered [] = refl
length_ordered (x ∷ xs) = length_placed x (ordered xs) ∙ ap suc (length_ordered xs)

avoids_from : (x : ℕ) (xs : List ℕ) → ((k : ℕ) → k < length xs → x ≢ get_or xs k 0) → Avoids x xs
avoids_from x [] h = tt
avoids_from x (y ∷ xs) h = (h 0 (omega arith), avoids_from x xs (λ k l. h (suc k) (omega arith)))

differ_from : (xs : List ℕ) → ((k l : ℕ) → k < l → l < length xs → get_or xs k 0 ≢ get_or xs l 0) → AllDiffer xs
differ_from [] h = tt
differ_from (x ∷ xs) h = (
  avoids_from x xs (λ k l. h 0 (suc k) (omega arith) (omega arith)),
  differ_from xs (λ k l m n. h (suc k) (suc l) (omega arith) (omega arith)),
)

positive_from : (xs : List ℕ) → ((k : ℕ) → k < length xs → 0 < get_or xs k 0) → AllPositive xs
positive_from [] h = tt
positive_from (x ∷ xs) h = (h 0 (omega arith), positive_from xs (λ k l. h (suc k) (omega arith)))

-- each weight is at most the one before it, and the first at most a bound
abbrev pub Falls : ℕ → List ℕ → Type 0
Falls top [] = Unit {0}
Falls top (w ∷ ws) = (w ≤ top) × Falls w ws

pub falls_from : (top : ℕ) (ws : List ℕ) → (0 < length ws → get_or ws 0 0 ≤ top) → ((k : ℕ) → suc k < length ws → get_or ws (suc k) 0 ≤ get_or ws k 0) → Falls top ws
falls_from top [] first next = tt
falls_from top (w ∷ ws) first next =
    (first (omega arith), falls_from w ws (λ l. next 0 (omega arith)) (λ k l. next (suc k) (omega arith)))

-- the sum of f over numbers
abbrev pub total : (ℕ → ℕ) → List ℕ → ℕ
total f [] = 0
total f (x ∷ xs) = f x + total f xs

-- the sum of f over the n numbers above one
abbrev pub ladder : (ℕ → ℕ) → ℕ → ℕ → ℕ
ladder f low zero = 0
ladder f low (suc n) = f (suc low) + ladder f (suc low) n

-- the weighted sum of f over numbers
abbrev pub cost : (ℕ → ℕ) → List ℕ → List ℕ → ℕ
cost f (w ∷ ws) (x ∷ xs) = w * f x + cost f ws xs
cost f _ _ = 0

-- the same over the numbers above one
abbrev pub climb_cost : (ℕ → ℕ) → ℕ → List ℕ → ℕ
climb_cost f low [] = 0
climb_cost f low (w ∷ ws) = w * f (suc low) + climb_cost f (suc low) ws

module _ (f : ℕ → ℕ) (rises : (v w : ℕ) → v ≤ w → f v ≤ f w) where
  total_placed : (x : ℕ) (ys : List ℕ) → total f (placed x ys) ≡ f x + total f ys
  total_placed x [] = refl
  total_placed x (y ∷ ys) =
      cond_both (ltb x y) (x ∷ (y ∷ ys)) (y ∷ placed x ys) (λ zs. total f zs ≡ f x + (f y + total f ys))
      (λ _. refl)
      (λ _. omega (arith, total_placed x ys))

  total_ordered : (xs : List ℕ) → total f (ordered xs) ≡ total f xs
  total_ordered [] = refl
  total_ordered (x ∷ xs) = total_placed x (ordered xs) ∙ ap (λ n. f x + n) (total_ordered xs)

  ladder_rises : (low high n : ℕ) → low ≤ high → ladder f low n ≤ ladder f high n
  ladder_rises low high zero h = omega arith
  ladder_rises low high (suc n) h =
      omega (arith, rises (suc low) (suc high) (omega arith), ladder_rises (suc low) (suc high) n (omega arith))

  ladder_climbs : (low : ℕ) (xs : List ℕ) → Climbs low xs → ladder f low (length xs) ≤ total f xs
  ladder_climbs low [] climbs = omega arith
  ladder_climbs low (x ∷ xs) climbs =
      let above : low < x = climbs.0 in
      omega (arith, rises (suc low) x (omega arith), ladder_rises (suc low) x (length xs) (omega arith), ladder_climbs x xs climbs.1)

  ladder_differ : (xs : List ℕ) → AllPositive xs → AllDiffer xs → ladder f 0 (length xs) ≤ total f xs
  ladder_differ xs positive differ =
      let h = ladder_climbs 0 (ordered xs) (climbs_ordered xs positive differ) in
      rw (length_ordered xs, total_ordered xs) at h

  -- the first n of different positive numbers have at least the sum over 1 to n
  pub ladder_front : (xs : List ℕ) → ((k : ℕ) → k < length xs → 0 < get_or xs k 0) → ((k l : ℕ) → k < l → l < length xs → get_or xs k 0 ≢ get_or xs l 0) → (n : ℕ) → n ≤ length xs → ladder f 0 n ≤ total f (take n xs)
  ladder_front xs positive differ n within =
      let long : length (take n xs) ≡ n = length-take-le n xs within in
      let one : (k : ℕ) → k < length (take n xs) → 0 < get_or (take n xs) k 0 = λ k l. rw (get_or-take n xs k 0 (omega arith)) (positive k (omega arith)) in
      let two : (k l : ℕ) → k < l → l < length (take n xs) → get_or (take n xs) k 0 ≢ get_or (take n xs) l 0 = λ k l m o. rw (get_or-take n xs k 0 (omega arith), get_or-take n xs l 0 (omega arith)) (differ k l m (omega arith)) in
      let h = ladder_differ (take n xs) (positive_from (take n xs) one) (differ_from (take n xs) two) in
      rw long at h

  -- where the weights fall and each front of the numbers has at least the front's sum, up to a credit
  climb_least : (top credit low : ℕ) (ws xs : List ℕ) → length xs ≡ length ws → Falls top ws → ((n : ℕ) → n ≤ length ws → ladder f low n ≤ total f (take n xs) + credit) → climb_cost f low ws ≤ cost f ws xs + top * credit
  climb_least top credit low [] xs long falls fronts = omega arith
  climb_least top credit low (w ∷ ws) [] long falls fronts = absurd (omega arith)
  climb_least top credit low (w ∷ ws) (x ∷ xs) long falls fronts =
      let first : f (suc low) + 0 ≤ f x + 0 + credit = fronts 1 (omega arith) in
      let left : ℕ = f x + credit - f (suc low) in
      let rest = climb_least w left (suc low) ws xs (omega arith) falls.1 (λ n l. let h : f (suc low) + ladder f (suc low) n ≤ f x + total f (take n xs) + credit = fronts (suc n) (omega arith) in omega arith) in
      let even : left + f (suc low) ≡ f x + credit = omega arith in
      let spread : w * left + w * f (suc low) ≡ w * f x + w * credit = sym (mul-add w left (f (suc low))) ∙ ap (λ n. w * n) even ∙ mul-add w (f x) credit in
      let below : w * credit ≤ top * credit = mul-le-mul_right credit falls.0 in
      omega (arith, rest, spread, below)

  -- the numbers above one cost their own sum
  pub cost_climb : (low : ℕ) (ws xs : List ℕ) → length xs ≡ length ws → ((k : ℕ) → k < length xs → get_or xs k 0 ≡ low + k + 1) → cost f ws xs ≡ climb_cost f low ws
  cost_climb low [] xs long is = refl
  cost_climb low (w ∷ ws) [] long is = absurd (omega arith)
  cost_climb low (w ∷ ws) (x ∷ xs) long is =
      let e : x ≡ suc low = omega (arith, is 0 (omega arith)) in
      rw e (ap (λ n. w * f (suc low) + n) (cost_climb (suc low) ws xs (omega arith) (λ k l. omega (arith, is (suc k) (omega arith)))))

  -- different positive numbers cost at least as much as those from 1 on
  pub climb_is_least : (ws xs : List ℕ) → length xs ≡ length ws → Falls (get_or ws 0 0) ws → ((k : ℕ) → k < length xs → 0 < get_or xs k 0) → ((k l : ℕ) → k < l → l < length xs → get_or xs k 0 ≢ get_or xs l 0) → climb_cost f 0 ws ≤ cost f ws xs
  climb_is_least ws xs long falls positive differ =
      omega (arith, climb_least (get_or ws 0 0) 0 0 ws xs long falls (λ n l. omega (arith, ladder_front xs positive differ n (omega arith))))

-- Lists that are told by others, one by one.
use Rattle.std.proofs.Common.{◌≡◌, ◌<◌, ◌∙◌, ℕ, zero, suc, List, [], ◌∷◌, length, get_or, sym, ap, refl, arith}
use Rattle.std.specs.List.{AllZip, Contains}
use Rattle.std.proofs.lemmas.List.{get_or_default}
use Rattle.std.proofs.lemmas.Slice.Zip.{AllZip-long}

-- Each of some things is told by another, and `IsSame` of two that tell says that what they tell is the same.
module _ {A B : Type 0} (Tells : A → B → Type 0) (IsSame : B → B → Type 0) (same : (a b : A) (c d : B) → Tells a c → Tells b d → IsSame c d → b ≡ a) (alike : (a b : A) (c d : B) → Tells a c → Tells b d → b ≡ a → IsSame c d) where
  pub same_all : (xs ys : List A) (cs ds : List B) → AllZip Tells xs cs → AllZip Tells ys ds → length ds ≡ length cs → ((k : ℕ) (e : B) → k < length cs → IsSame (get_or cs k e) (get_or ds k e)) → ys ≡ xs
  same_all [] [] cs ds p q count each = refl
  same_all [] (b ∷ ys) [] [] p q count each = absurd q
  same_all [] (b ∷ ys) [] (d ∷ ds) p q count each = absurd (omega (arith, count))
  same_all [] (b ∷ ys) (c ∷ cs) ds p q count each = absurd p
  same_all (a ∷ xs) ys [] ds p q count each = absurd p
  same_all (a ∷ xs) [] (c ∷ cs) [] p q count each = absurd (omega (arith, count))
  same_all (a ∷ xs) [] (c ∷ cs) (d ∷ ds) p q count each = absurd q
  same_all (a ∷ xs) (b ∷ ys) (c ∷ cs) [] p q count each = absurd q
  same_all (a ∷ xs) (b ∷ ys) (c ∷ cs) (d ∷ ds) (first, p) (second, q) count each =
      let one : b ≡ a = same a b c d first second (each 0 c (omega arith)) in
      let rest : ys ≡ xs = same_all xs ys cs ds p q (omega (arith, count)) (λ k e inside. each (suc k) e (omega (arith, inside))) in
      ap (λ (z : A). z ∷ ys) one ∙ ap (λ (z : List A). a ∷ z) rest

  pub same_count : (xs ys : List A) (cs ds : List B) → AllZip Tells xs cs → AllZip Tells ys ds → ys ≡ xs → length ds ≡ length cs
  same_count xs ys cs ds p q is = AllZip-long Tells ys ds q ∙ ap length is ∙ sym (AllZip-long Tells xs cs p)

  told_at : (xs : List A) (cs : List B) (k : ℕ) (d : A) (e : B) → AllZip Tells xs cs → k < length cs → Tells (get_or xs k d) (get_or cs k e)
  told_at [] [] k d e p inside = absurd (omega (arith, inside))
  told_at [] (c ∷ cs) k d e p inside = absurd p
  told_at (a ∷ xs) [] k d e p inside = absurd p
  told_at (a ∷ xs) (c ∷ cs) zero d e (first, p) inside = first
  told_at (a ∷ xs) (c ∷ cs) (suc k) d e (first, p) inside = told_at xs cs k d e p (omega (arith, inside))

  some_told : (xs : List A) (cs : List B) (k : ℕ) → AllZip Tells xs cs → k < length cs → A
  some_told [] [] k p inside = absurd (omega (arith, inside))
  some_told [] (c ∷ cs) k p inside = absurd p
  some_told (a ∷ xs) cs k p inside = a

  pub same_each : (xs ys : List A) (cs ds : List B) (k : ℕ) (e : B) → AllZip Tells xs cs → AllZip Tells ys ds → ys ≡ xs → k < length cs → IsSame (get_or cs k e) (get_or ds k e)
  same_each xs ys cs ds k e p q is inside =
      let d : A = some_told xs cs k p inside in
      let count : length ds ≡ length cs = same_count xs ys cs ds p q is in
      alike (get_or xs k d) (get_or ys k d) (get_or cs k e) (get_or ds k e) (told_at xs cs k d e p inside) (told_at ys ds k d e q (omega (arith, count, inside))) (ap (λ (z : List A). get_or z k d) is)

-- a list that has an element with a number contains it
pub element : {X : Type 0} (xs : List X) (k : ℕ) → k < length xs → (x : X) × Contains xs x × ((d : X) → get_or xs k d ≡ x)
element [] k inside = absurd (omega (arith, inside))
element (x ∷ xs) k inside =
    (get_or (x ∷ xs) k x, (k, inside, get_or_default (x ∷ xs) k (get_or (x ∷ xs) k x) x inside), λ d. get_or_default (x ∷ xs) k d x inside)

-- where something stands for each number below a count, a list has it
pub choose : {X : Type 0} (P : ℕ → X → Type 0) (n : ℕ) → ((k : ℕ) → k < n → (x : X) × P k x) → (xs : List X) × (length xs ≡ n) × ((k : ℕ) (d : X) → k < n → P k (get_or xs k d))
choose P zero each = ([], refl, λ k d inside. absurd (omega (arith, inside)))
choose {X = X} P (suc n) each =
    let (first, here) = each 0 (omega arith) in
    let (rest, count, there) = choose {X = X} (λ (k : ℕ) (x : X). P (suc k) x) n (λ k inside. each (suc k) (omega (arith, inside))) in
    (first ∷ rest, omega (arith, count), chosen first rest here there)
  where
    chosen : (first : X) (rest : List X) → P 0 first → ((k : ℕ) (d : X) → k < n → P (suc k) (get_or rest k d)) → (k : ℕ) (d : X) → k < suc n → P k (get_or (first ∷ rest) k d)
    chosen first rest here there zero d inside = here
    chosen first rest here there (suc k) d inside = there k d (omega (arith, inside))

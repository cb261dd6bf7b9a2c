-- Lists whose elements go together, one by one.
use Rattle.std.proofs.Common.{◌≡◌, ◌≤◌, ◌<◌, ◌+◌, ◌*◌, ℕ, suc, List, [], ◌∷◌, length, get_or, arith}
use Rattle.std.specs.List.{All, AllZip, sum_by}
use Rattle.std.proofs.lemmas.List.Elements.{All-nil, All-cons, All-head, All-tail}
use Rattle.std.proofs.lemmas.List.Sums.{sum_by-cons}

module _ {A B : Type 0} where
  pub zip_weaker : (P Q : A → B → Type 0) → ((a : A) (b : B) → P a b → Q a b) → (xs : List A) (ys : List B) → AllZip P xs ys → AllZip Q xs ys
  zip_weaker P Q each [] [] zip = tt
  zip_weaker P Q each [] (b ∷ ys) zip = absurd zip
  zip_weaker P Q each (a ∷ xs) [] zip = absurd zip
  zip_weaker P Q each (a ∷ xs) (b ∷ ys) (first, zip) = (each a b first, zip_weaker P Q each xs ys zip)

  pub zip_from : (R : A → B → Type 0) (xs : List A) (ys : List B) (d : A) (e : B) → length ys ≡ length xs → ((k : ℕ) → k < length xs → R (get_or xs k d) (get_or ys k e)) → AllZip R xs ys
  zip_from R [] [] d e same each = tt
  zip_from R [] (b ∷ ys) d e same each = absurd (omega (arith, same))
  zip_from R (a ∷ xs) [] d e same each = absurd (omega (arith, same))
  zip_from R (a ∷ xs) (b ∷ ys) d e same each = (each 0 (omega arith), zip_from R xs ys d e (omega (arith, same)) (λ k inside. each (suc k) (omega (arith, inside))))

  -- what holds of the first ones tells what holds of the second ones
  pub zip_all : (P : A → B → Type 0) (Q : A → Type 0) (R : B → Type 0) → ((a : A) (b : B) → P a b → Q a → R b) → (xs : List A) (ys : List B) → AllZip P xs ys → All Q xs → All R ys
  zip_all P Q R each [] [] zip all = All-nil R
  zip_all P Q R each [] (b ∷ ys) zip all = absurd zip
  zip_all P Q R each (a ∷ xs) [] zip all = absurd zip
  zip_all P Q R each (a ∷ xs) (b ∷ ys) (first, zip) all = All-cons R b ys (each a b first (All-head Q a xs all)) (zip_all P Q R each xs ys zip (All-tail Q a xs all))

  -- where each of the second ones is at most three times the first one, so are their sums
  pub zip_thrice : (P : A → B → Type 0) (f : A → ℕ) (g : B → ℕ) → ((a : A) (b : B) → P a b → g b ≤ 3 * f a) → (xs : List A) (ys : List B) → AllZip P xs ys → sum_by g ys ≤ 3 * sum_by f xs
  zip_thrice P f g each [] [] zip = omega arith
  zip_thrice P f g each [] (b ∷ ys) zip = absurd zip
  zip_thrice P f g each (a ∷ xs) [] zip = absurd zip
  zip_thrice P f g each (a ∷ xs) (b ∷ ys) (first, zip) =
      let old : sum_by f (a ∷ xs) ≡ f a + sum_by f xs = sum_by-cons f a xs in
      let new : sum_by g (b ∷ ys) ≡ g b + sum_by g ys = sum_by-cons g b ys in
      let here : g b ≤ 3 * f a = each a b first in
      let rest : sum_by g ys ≤ 3 * sum_by f xs = zip_thrice P f g each xs ys zip in
      omega (arith, old, new, here, rest)

-- two lists that go with a third one go together
pub zip_both : {A B C : Type 0} (P : A → B → Type 0) (Q : A → C → Type 0) (R : B → C → Type 0) → ((a : A) (b : B) (c : C) → P a b → Q a c → R b c) → (xs : List A) (ys : List B) (zs : List C) → AllZip P xs ys → AllZip Q xs zs → AllZip R ys zs
zip_both P Q R each [] [] [] one other = tt
zip_both P Q R each [] [] (c ∷ zs) one other = absurd other
zip_both P Q R each [] (b ∷ ys) zs one other = absurd one
zip_both P Q R each (a ∷ xs) [] zs one other = absurd one
zip_both P Q R each (a ∷ xs) (b ∷ ys) [] one other = absurd other
zip_both P Q R each (a ∷ xs) (b ∷ ys) (c ∷ zs) (first, one) (second, other) = (each a b c first second, zip_both P Q R each xs ys zs one other)

-- Sums of what is measured of the elements of two lists with the same numbers: with at most twice, or three times, as much of each, there
-- is at most as many times as much of all.
module _ {X : Type 0} (d : X) (f : X → ℕ) where
  abbrev pub AreAtMost : ℕ → List X → List X → Type 0
  AreAtMost times olds news = (k : ℕ) → k < length olds → f (get_or news k d) ≤ times * f (get_or olds k d)

  pub sum_twice : (olds news : List X) → length news ≡ length olds → AreAtMost 2 olds news → sum_by f news ≤ 2 * sum_by f olds
  sum_twice [] [] count each = omega arith
  sum_twice [] (b ∷ news) count each = absurd (omega (arith, count))
  sum_twice (a ∷ olds) [] count each = absurd (omega (arith, count))
  sum_twice (a ∷ olds) (b ∷ news) count each =
      let old : sum_by f (a ∷ olds) ≡ f a + sum_by f olds = sum_by-cons f a olds in
      let new : sum_by f (b ∷ news) ≡ f b + sum_by f news = sum_by-cons f b news in
      let here : f b ≤ 2 * f a = each 0 (omega arith) in
      let rest : sum_by f news ≤ 2 * sum_by f olds = sum_twice olds news (omega (arith, count)) (λ k inside. each (suc k) (omega (arith, inside))) in
      omega (arith, old, new, here, rest)

  pub sum_thrice : (olds news : List X) → length news ≡ length olds → AreAtMost 3 olds news → sum_by f news ≤ 3 * sum_by f olds
  sum_thrice [] [] count each = omega arith
  sum_thrice [] (b ∷ news) count each = absurd (omega (arith, count))
  sum_thrice (a ∷ olds) [] count each = absurd (omega (arith, count))
  sum_thrice (a ∷ olds) (b ∷ news) count each =
      let old : sum_by f (a ∷ olds) ≡ f a + sum_by f olds = sum_by-cons f a olds in
      let new : sum_by f (b ∷ news) ≡ f b + sum_by f news = sum_by-cons f b news in
      let here : f b ≤ 3 * f a = each 0 (omega arith) in
      let rest : sum_by f news ≤ 3 * sum_by f olds = sum_thrice olds news (omega (arith, count)) (λ k inside. each (suc k) (omega (arith, inside))) in
      omega (arith, old, new, here, rest)

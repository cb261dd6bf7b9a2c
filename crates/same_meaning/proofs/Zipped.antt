-- Two lists whose elements go together with those of one list.
use Rattle.std.proofs.Common.{◌≡◌, ◌<◌, ℕ, zero, suc, List, [], ◌∷◌, length, map, get_or, refl, arith}
use Rattle.std.specs.List.{AllZip}
use Rattle.same_meaning.specs.inside.Compared.{MeanOne}

module _ {A B X Y L : Type 0} (P : X → L → Type 0) (Q : Y → L → Type 0) (f : A → X) (g : B → Y) where
  -- where each two elements mean one thing, the lists do
  pub zips_from : (xs : List A) (ys : List B) (d : A) (e : B) → length xs ≡ length ys → ((k : ℕ) → k < length xs → MeanOne (P (f (get_or xs k d))) (Q (g (get_or ys k e)))) → MeanOne (AllZip P (map f xs)) (AllZip Q (map g ys))
  zips_from [] [] d e same each = ([], tt, tt)
  zips_from [] (y ∷ ys) d e same each = absurd (omega (arith, same))
  zips_from (x ∷ xs) [] d e same each = absurd (omega (arith, same))
  zips_from (x ∷ xs) (y ∷ ys) d e same each =
      let (one, is, other) = each 0 (omega arith) in
      let (more, are, others) = zips_from xs ys d e (omega (arith, same)) (λ k inside. each (suc k) (omega (arith, inside))) in
      (one ∷ more, (is, are), (other, others))

  -- and lists that do have xs many elements, of which each two do
  pub zips_count : (xs : List A) (ys : List B) → MeanOne (AllZip P (map f xs)) (AllZip Q (map g ys)) → length xs ≡ length ys
  zips_count [] [] zips = refl
  zips_count [] (y ∷ ys) ([], are, others) = absurd others
  zips_count [] (y ∷ ys) (l ∷ ls, are, others) = absurd are
  zips_count (x ∷ xs) [] ([], are, others) = absurd are
  zips_count (x ∷ xs) [] (l ∷ ls, are, others) = absurd others
  zips_count (x ∷ xs) (y ∷ ys) ([], are, others) = absurd are
  zips_count (x ∷ xs) (y ∷ ys) (l ∷ ls, are, others) = let rest : length xs ≡ length ys = zips_count xs ys (ls, are.1, others.1) in omega (arith, rest)

  pub zips_at : (xs : List A) (ys : List B) (d : A) (e : B) → MeanOne (AllZip P (map f xs)) (AllZip Q (map g ys)) → (k : ℕ) → k < length xs → MeanOne (P (f (get_or xs k d))) (Q (g (get_or ys k e)))
  zips_at [] ys d e zips k inside = absurd (omega arith)
  zips_at (x ∷ xs) [] d e ([], are, others) k inside = absurd are
  zips_at (x ∷ xs) [] d e (l ∷ ls, are, others) k inside = absurd others
  zips_at (x ∷ xs) (y ∷ ys) d e ([], are, others) k inside = absurd are
  zips_at (x ∷ xs) (y ∷ ys) d e (l ∷ ls, are, others) zero inside = (l, are.0, others.0)
  zips_at (x ∷ xs) (y ∷ ys) d e (l ∷ ls, are, others) (suc k) inside = zips_at xs ys d e (ls, are.1, others.1) k (omega (arith, inside))

module _ {A : Type 0} where
  -- what means one thing still does by other words
  pub mean_one : (P Q R S : A → Type 0) → ((x : A) → P x → R x) → ((x : A) → Q x → S x) → MeanOne P Q → MeanOne R S
  mean_one P Q R S first second (x, p, q) = (x, first x p, second x q)

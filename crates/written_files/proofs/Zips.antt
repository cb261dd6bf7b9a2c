-- Lists of which a relation holds, place by place.
use Rattle.std.proofs.Common.{◌<◌, ℕ, zero, suc, List, [], ◌∷◌, ◌++◌, length, map, get_or, arith}
use Rattle.std.specs.List.{AllZip}

pub zip_at : {A B : Type 0} (R : A → B → Type 0) (xs : List A) (ys : List B) (k : ℕ) (d : A) (e : B) → AllZip R xs ys → k < length xs → R (get_or xs k d) (get_or ys k e)
zip_at R [] ys k d e all inside = absurd (omega (arith, inside))
zip_at R (x ∷ xs) [] k d e all inside = absurd all
zip_at R (x ∷ xs) (y ∷ ys) zero d e all inside = all.0
zip_at R (x ∷ xs) (y ∷ ys) (suc k) d e all inside = zip_at R xs ys k d e all.1 (omega (arith, inside))

pub zip_append : {A B : Type 0} (R : A → B → Type 0) (xs more : List A) (ys others : List B) → AllZip R xs ys → AllZip R more others → AllZip R (xs ++ more) (ys ++ others)
zip_append R [] more [] others first second = second
zip_append R [] more (y ∷ ys) others first second = absurd first
zip_append R (x ∷ xs) more [] others first second = absurd first
zip_append R (x ∷ xs) more (y ∷ ys) others first second = (first.0, zip_append R xs more ys others first.1 second)

pub zip_map : {A B C D : Type 0} (R : C → D → Type 0) (f : A → C) (g : B → D) (xs : List A) (ys : List B) → AllZip (λ (x : A) (y : B). R (f x) (g y)) xs ys → AllZip R (map f xs) (map g ys)
zip_map R f g [] [] all = tt
zip_map R f g [] (y ∷ ys) all = absurd all
zip_map R f g (x ∷ xs) [] all = absurd all
zip_map R f g (x ∷ xs) (y ∷ ys) all = (all.0, zip_map R f g xs ys all.1)

-- Lists whose items mean the same, one by one.
use Rattle.std.proofs.Common.{◌≡◌, ◌<◌, ◌∙◌, ℕ, zero, suc, List, [], ◌∷◌, length, get_or, sym, ap, refl, arith}
use Rattle.std.specs.List.{AllZip}
use Rattle.same_meaning.specs.inside.Compared.{MeanOne}

zip_count : {A B : Type 0} (R : A → B → Type 0) (xs : List A) (zs : List B) → AllZip R xs zs → length zs ≡ length xs
zip_count R [] [] all = refl
zip_count R [] (z ∷ zs) all = absurd all
zip_count R (x ∷ xs) [] all = absurd all
zip_count R (x ∷ xs) (z ∷ zs) all = ap suc (zip_count R xs zs all.1)

pub zip_at : {A B : Type 0} (R : A → B → Type 0) (xs : List A) (zs : List B) (k : ℕ) (d : A) (b : B) → AllZip R xs zs → k < length xs → R (get_or xs k d) (get_or zs k b)
zip_at R [] zs k d b all inside = absurd (omega arith)
zip_at R (x ∷ xs) [] k d b all inside = absurd all
zip_at R (x ∷ xs) (z ∷ zs) zero d b all inside = all.0
zip_at R (x ∷ xs) (z ∷ zs) (suc k) d b all inside = zip_at R xs zs k d b all.1 (omega arith)

zip_item : {A B : Type 0} (R : A → B → Type 0) (xs : List A) (zs : List B) (k : ℕ) → AllZip R xs zs → k < length xs → B
zip_item R [] zs k all inside = absurd (omega arith)
zip_item R (x ∷ xs) [] k all inside = absurd all
zip_item R (x ∷ xs) (z ∷ zs) k all inside = z

-- where each item can mean one thing, a list does
pub zip_once : {A B : Type 0} (R : A → B → Type 0) → ((x : A) (y z : B) → R x y → R x z → y ≡ z) → (xs : List A) (ys zs : List B) → AllZip R xs ys → AllZip R xs zs → ys ≡ zs
zip_once R once [] [] [] one two = refl
zip_once R once [] [] (z ∷ zs) one two = absurd two
zip_once R once [] (y ∷ ys) zs one two = absurd one
zip_once R once (x ∷ xs) [] zs one two = absurd one
zip_once R once (x ∷ xs) (y ∷ ys) [] one two = absurd two
zip_once R once (x ∷ xs) (y ∷ ys) (z ∷ zs) one two =
    ap (λ w. w ∷ ys) (once x y z one.0 two.0) ∙ ap (λ ws. z ∷ ws) (zip_once R once xs ys zs one.1 two.1)

-- two lists mean one where they are as long and their items mean one each
pub zip_same : {A B C : Type 0} (R : A → B → Type 0) (S : C → B → Type 0) (xs : List A) (ys : List C) (d : A) (e : C) → length ys ≡ length xs → ((k : ℕ) → k < length xs → MeanOne (R (get_or xs k d)) (S (get_or ys k e))) → MeanOne (AllZip R xs) (AllZip S ys)
zip_same R S [] [] d e size each = ([], tt, tt)
zip_same R S [] (y ∷ ys) d e size each = absurd (omega (arith, size))
zip_same R S (x ∷ xs) [] d e size each = absurd (omega (arith, size))
zip_same R S (x ∷ xs) (y ∷ ys) d e size each =
    let (b, one, two) = each 0 (omega arith) in
    let (bs, ones, twos) = zip_same R S xs ys d e (omega (arith, size)) (λ k inside. each (suc k) (omega arith)) in
    (b ∷ bs, (one, ones), (two, twos))

pub same_count : {A B C : Type 0} (R : A → B → Type 0) (S : C → B → Type 0) (xs : List A) (ys : List C) → MeanOne (AllZip R xs) (AllZip S ys) → length ys ≡ length xs
same_count R S xs ys (zs, one, two) = sym (zip_count S ys zs two) ∙ zip_count R xs zs one

pub same_at : {A B C : Type 0} (R : A → B → Type 0) (S : C → B → Type 0) (xs : List A) (ys : List C) (d : A) (e : C) (k : ℕ) → MeanOne (AllZip R xs) (AllZip S ys) → k < length xs → MeanOne (R (get_or xs k d)) (S (get_or ys k e))
same_at R S xs ys d e k (zs, one, two) inside =
    let b = zip_item R xs zs k one inside in
    let size : length ys ≡ length xs = same_count R S xs ys (zs, one, two) in
    (get_or zs k b, zip_at R xs zs k d b one inside, zip_at S ys zs k e b two (omega arith))

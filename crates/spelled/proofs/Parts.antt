-- Parts of lists, and bytes.
use Rattle.std.proofs.Common.{◌≡◌, ◌≤◌, ◌+◌, ◌-◌, ℕ, List, ◌++◌, length, get_or, take, drop, ◌∙◌, sym, ap, refl, arith, inl, inr}
use Rattle.std.proofs.lemmas.Bool.{cases_lt}
use Rattle.std.proofs.lemmas.List.{append_assoc, take_at, drop_at, take-append-drop, take-take, drop-take, length-take-le, length-drop, length-append, get_or-take, get_or-drop, get_or_append_left, get_or-append-add}
use Rattle.spelled.specs.Spelled.{AreBytes}

-- fronts of the same length are the same
pub same_front : (a b x y : List ℕ) → length a ≡ length b → a ++ x ≡ b ++ y → a ≡ b
same_front a b x y size h = sym (take_at a x (length a) refl) ∙ ap (λ n. take n (a ++ x)) size ∙ ap (take (length b)) h ∙ take_at b y (length b) refl

-- a front in two parts
pub take_sum : (m n : ℕ) (l : List ℕ) → take (m + n) l ≡ take m l ++ take n (drop m l)
take_sum m n l =
    let a : take m (take (m + n) l) ≡ take m l = take-take m (m + n) l (omega arith) in
    sym (take-append-drop m (take (m + n) l)) ∙ ap (λ z. z ++ drop m (take (m + n) l)) a ∙ ap (λ z. take m l ++ z) (drop-take m n l)

-- a part has as many numbers as were taken
pub length_part : (m n : ℕ) (l : List ℕ) → m + n ≤ length l → length (take n (drop m l)) ≡ n
length_part m n l h = length-take-le n (drop m l) (let e : length (drop m l) ≡ length l - m = length-drop m l in omega arith)

-- a part of a list, with more before it and behind it
pub own_part : {X : Type 0} (before own after : List X) → take (length own) (drop (length before) ((before ++ own) ++ after)) ≡ own
own_part before own after =
    ap (λ z. take (length own) (drop (length before) z)) (append_assoc before own after) ∙ ap (take (length own)) (drop_at before (own ++ after) (length before) refl) ∙ take_at own after (length own) refl

-- BYTES

-- a part of bytes is bytes
pub bytes_part : (at n : ℕ) (l : List ℕ) → AreBytes l → at + n ≤ length l → AreBytes (take n (drop at l))
bytes_part at n l small inside k lt =
    let size : length (take n (drop at l)) ≡ n = length_part at n l inside in
    let e : get_or (take n (drop at l)) k 0 ≡ get_or l (at + k) 0 = get_or-take n (drop at l) k 0 (omega arith) ∙ get_or-drop at l k 0 in
    rw e (small (at + k) (omega arith))

-- bytes behind bytes
pub bytes_append : (a b : List ℕ) → AreBytes a → AreBytes b → AreBytes (a ++ b)
bytes_append a b p q k inside =
    elim (cases_lt k (length a)) [
      | inl left ↦ rw (get_or_append_left a b 0 k left) (p k left)
      | inr right ↦
          let e : k ≡ length a + (k - length a) = omega arith in
          let all : length (a ++ b) ≡ length a + length b = length-append a b in
          let at : get_or (a ++ b) k 0 ≡ get_or b (k - length a) 0 = ap (λ i. get_or (a ++ b) i 0) e ∙ get_or-append-add a b (k - length a) 0 in
          rw at (q (k - length a) (omega arith))
    ]

-- what stands behind others in bytes
pub bytes_after : (a b : List ℕ) → AreBytes (a ++ b) → AreBytes b
bytes_after a b small k inside =
    let at : get_or (a ++ b) (length a + k) 0 ≡ get_or b k 0 = get_or-append-add a b k 0 in
    let all : length (a ++ b) ≡ length a + length b = length-append a b in
    let s = small (length a + k) (omega arith) in
    omega (arith, s, at)

-- The things of a list by their numbers, where one more comes at its end.
use Rattle.std.proofs.Common.{◌≡◌, ◌<◌, ◌+◌, ◌∙◌, ℕ, List, [], ◌∷◌, ◌++◌, length, get_or, inl, inr, sym, ap, subst, arith}
use Rattle.std.proofs.lemmas.Bool.{cases_lt}
use Rattle.std.proofs.lemmas.List.{get_or_push, get_or_append_left, length_push}

-- what holds of each thing by its number holds with one more at the end
pub each_more : {X : Type 0} (P : ℕ → X → Type 0) (n : ℕ) (xs : List X) (x : X) → length xs ≡ n → ((i : ℕ) (d : X) → i < n → P i (get_or xs i d)) → P n x → (i : ℕ) (d : X) → i < n + 1 → P i (get_or (xs ++ x ∷ []) i d)
each_more {X} P n xs x count each last i d less = elim (cases_lt i n) [
  | inl before ↦ subst (λ (z : X). P i z) (sym (get_or_append_left xs (x ∷ []) d i (omega arith))) (each i d before)
  | inr past ↦
      let here : n ≡ i = omega arith in
      subst (λ (z : ℕ). P z (get_or (xs ++ x ∷ []) z d)) here (subst (λ (z : X). P n z) (sym (get_or_push xs x d n count)) last)
]

pub counted_more : {X : Type 0} (n : ℕ) (xs : List X) (x : X) → length xs ≡ n → length (xs ++ x ∷ []) ≡ n + 1
counted_more n xs x count = length_push xs x ∙ ap (λ (z : ℕ). z + 1) count

-- Things that don't differ are the same, where that can be told of all of their kind.
use Rattle.std.proofs.Common.{◌≡◌, ◌≢◌, ◌⊎◌, inl, inr, ℕ, suc, ℤ, List, [], ◌∷◌, Bool, true, false, ap, refl}
use Rattle.std.specs.Prelude.{Option, Some, None, slice_get}
use Rattle.std.specs.Ordering.{int_eq}
use Rattle.std.proofs.lemmas.Bool.{cases_eq, cases_Bool}
use Rattle.std.proofs.lemmas.Bool.Decides.{Decides-int_eq}

-- of a type: what isn't different is the same
abbrev pub IsStable : Type 0 → Type 0
IsStable A = (x y : A) → (x ≢ y → ⊥) → x ≡ y

-- what follows from things being the same isn't different where they aren't
pub through : {A B : Type 0} {x y : A} (f : A → B) → (x ≢ y → ⊥) → f x ≢ f y → ⊥
through f same differ = same (λ e. differ (ap f e))

pub stable_by : {A : Type 0} (x y : A) → (x ≡ y) ⊎ (x ≢ y) → (x ≢ y → ⊥) → x ≡ y
stable_by x y (inl e) same = e
stable_by x y (inr differ) same = absurd (same differ)

pub stable_nat : IsStable ℕ
stable_nat x y same = stable_by x y (cases_eq x y) same

pub stable_bool : IsStable Bool
stable_bool true true same = refl
stable_bool false false same = refl
stable_bool x y same = absurd (same (λ e. cc))

pub stable_int : IsStable ℤ
stable_int x y same = elim (cases_Bool (int_eq x y)) [
  | inl is ↦ (Decides-int_eq x y).0 is
  | inr isnt ↦ absurd (same (λ e. let is = (Decides-int_eq x y).1 e in cc))
]

pub stable_list : {A : Type 0} → IsStable A → IsStable (List A)
stable_list each [] [] same = refl
stable_list each (x ∷ xs) (y ∷ ys) same =
    let first : x ≡ y = each x y (λ differ. same (λ e. differ (cc))) in
    let rest : xs ≡ ys = stable_list each xs ys (λ differ. same (λ e. differ (cc))) in
    cc
stable_list each xs ys same = absurd (same (λ e. cc))

pub stable_option : {A : Type 0} → IsStable A → IsStable (Option A)
stable_option each None None same = refl
stable_option each (Some x) (Some y) same = ap Some (each x y (λ differ. same (λ e. differ (cc))))
stable_option each x y same = absurd (same (λ e. cc))

pub stable_pair : {A B : Type 0} → IsStable A → IsStable B → IsStable (A × B)
stable_pair first second x y same =
    let e = first x.0 y.0 (through (λ p. p.0) same) in
    let f = second x.1 y.1 (through (λ p. p.1) same) in
    λ i. (e i, f i)

-- lists of which no place differs are the same
pub same_everywhere : {A : Type 0} → IsStable A → (xs ys : List A) → ((i : ℕ) → slice_get ys i ≢ slice_get xs i → ⊥) → xs ≡ ys
same_everywhere each [] [] same = refl
same_everywhere each (x ∷ xs) (y ∷ ys) same =
    let first : x ≡ y = each x y (λ differ. same 0 (λ e. differ (cc))) in
    let rest : xs ≡ ys = same_everywhere each xs ys (λ i. same (suc i)) in
    cc
same_everywhere each xs ys same = absurd (same 0 (λ e. cc))

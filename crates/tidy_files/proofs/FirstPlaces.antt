-- The least place of things that stand one after the other, of which some are amiss, is that of the first one that is.
use Rattle.std.proofs.Common.{◌≡◌, ◌≤◌, ◌<◌, ◌+◌, inl, inr, ℕ, sym, subst, arith}
use Rattle.std.proofs.lemmas.Bool.{cases_lt}
use Rattle.tidy_places.specs.Firsts.{IsLeastPlace}

module _ (offset count : ℕ) (at : ℕ → ℕ) (IsAmiss : ℕ → Type 0) (Holds : ℕ → Type 0) (to : (k : ℕ) → k < count → IsAmiss k → Holds (offset + at k)) (from : (p : ℕ) → Holds p → (k : ℕ) × (k < count) × IsAmiss k × (p ≡ offset + at k)) where
  pub first_least : ((i j : ℕ) → i < j → j < count → at i ≤ at j) → (i : ℕ) → i < count → IsAmiss i → ((k : ℕ) → k < i → IsAmiss k → ⊥) → (p : ℕ) → p ≡ offset + at i → IsLeastPlace Holds p
  first_least rising i inside amiss before p is = (subst Holds (sym is) (to i inside amiss), none)
    where
      none : (q : ℕ) → q < p → Holds q → ⊥
      none q less holds =
          let (k, known, other, place) = from q holds in
          elim (cases_lt k i) [
            | inl earlier ↦ before k earlier other
            | inr late ↦ elim (cases_lt i k) [
              | inl later ↦ absurd (omega (arith, rising i k later known))
              | inr most ↦ let same : k ≡ i = omega arith in absurd (omega (arith, subst (λ (z : ℕ). q ≡ offset + at z) same place))
            ]
          ]

  pub none_first : ((k : ℕ) → k < count → IsAmiss k → ⊥) → (p : ℕ) → Holds p → ⊥
  none_first none p holds = let (k, known, amiss, place) = from p holds in none k known amiss

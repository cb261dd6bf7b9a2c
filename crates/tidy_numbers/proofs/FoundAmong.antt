-- Least places that are found.
use Rattle.std.proofs.Common.{◌≡◌, ◌<◌, ◌+◌, ◌⊎◌, inl, inr, ℕ, subst, refl, arith}
use Rattle.std.specs.Prelude.{Option, Some, None}
use Rattle.std.specs.Option.{option_map}
use Rattle.std.proofs.lemmas.Bool.{cases_lt}
use Rattle.tidy_places.specs.Firsts.{IsLeastFound}

-- of two things that hold at the same places
pub found_same : (P Q : ℕ → Type 0) → ((p : ℕ) → P p → Q p) → ((p : ℕ) → Q p → P p) → (found : Option ℕ) → IsLeastFound P found → IsLeastFound Q found
found_same P Q to from None none = λ p holds. none p (from p holds)
found_same P Q to from (Some p) (holds, least) = (to p holds, λ q less other. least q less (from q other))

-- the place found is one
pub found_at : (P : ℕ → Type 0) (found : Option ℕ) (p : ℕ) → IsLeastFound P found → found ≡ Some p → P p
found_at P found p least is = (subst (IsLeastFound P) is least).0

-- what holds at a place is found, there or before it
pub found_before : (P : ℕ → Type 0) (found : Option ℕ) (q : ℕ) → IsLeastFound P found → P q → (p : ℕ) × (found ≡ Some p) × P p × (q < p → ⊥)
found_before P None q none holds = absurd (none q holds)
found_before P (Some p) q (here, least) holds = (p, refl, here, λ less. least q less holds)

-- the lesser of what is found of two things is that of both
module _ (P Q : ℕ → Type 0) (one other : Option ℕ) (first : IsLeastFound P one) (second : IsLeastFound Q other) where
  pub found_of_both : (found : Option ℕ) → IsLeastFound (λ p. (one ≡ Some p) ⊎ (other ≡ Some p)) found → IsLeastFound (λ p. P p ⊎ Q p) found
  found_of_both None none = λ p holds. elim holds [
    | inl here ↦ let (q, is, there, least) = found_before P one p first here in none q (inl is)
    | inr here ↦ let (q, is, there, least) = found_before Q other p second here in none q (inr is)
  ]
  found_of_both (Some p) (which, least) =
      let holds : P p ⊎ Q p = elim which [
        | inl is ↦ inl (found_at P one p first is)
        | inr is ↦ inr (found_at Q other p second is)
      ] in (
        holds,
        λ q less there. elim there [
          | inl here ↦ let (r, is, at_r, later) = found_before P one q first here in least r (not_less q r p less later) (inl is)
          | inr here ↦ let (r, is, at_r, later) = found_before Q other q second here in least r (not_less q r p less later) (inr is)
        ],
      )
    where
      not_less : (q r p : ℕ) → q < p → (q < r → ⊥) → r < p
      not_less q r p less later = omega (arith, less, later)

-- THE LEAST PLACE AMONG NUMBERED THINGS

-- it holds of one of the first so many
abbrev pub HoldsBelow : (ℕ → ℕ → Type 0) → ℕ → ℕ → Type 0
HoldsBelow At n p = (k : ℕ) × (k < n) × At k p

-- of one more the place is found that is the lesser
pub below_next : (At : ℕ → ℕ → Type 0) (n : ℕ) (found here next : Option ℕ) → IsLeastFound (HoldsBelow At n) found → IsLeastFound (At n) here → IsLeastFound (λ p. (found ≡ Some p) ⊎ (here ≡ Some p)) next → IsLeastFound (HoldsBelow At (n + 1)) next
below_next At n found here next first second least =
    found_same (λ p. HoldsBelow At n p ⊎ At n p) (HoldsBelow At (n + 1)) to from next (found_of_both (HoldsBelow At n) (At n) found here first second next least)
  where
    to : (p : ℕ) → HoldsBelow At n p ⊎ At n p → HoldsBelow At (n + 1) p
    to p (inl (k, less, holds)) = (k, omega (arith, less), holds)
    to p (inr holds) = (n, omega arith, holds)

    from : (p : ℕ) → HoldsBelow At (n + 1) p → HoldsBelow At n p ⊎ At n p
    from p (k, less, holds) = elim (cases_lt k n) [
      | inl before ↦ inl (k, before, holds)
      | inr more ↦ let same : k ≡ n = omega (arith, less) in inr (subst (λ (i : ℕ). At i p) same holds)
    ]

-- A PLACE THAT COUNTS FROM ANOTHER ONE

pub moved_found : (P : ℕ → Type 0) (from : ℕ) (found : Option ℕ) → IsLeastFound P found → IsLeastFound (λ p. (inner : ℕ) × P inner × (p ≡ from + inner)) (option_map (λ p. from + p) found)
moved_found P from None none = λ p (inner, holds, place). none inner holds
moved_found P from (Some p) (holds, least) = ((p, holds, refl), λ q less (inner, other, place). least inner (omega (arith, less, place)) other)

-- The least place at which something holds.
use Rattle.std.proofs.Common.{◌≡◌, ◌⊎◌, inl, inr, ℕ, min, subst, refl, arith}
use Rattle.std.specs.Prelude.{Option, Some, None}
use Rattle.std.proofs.lemmas.Bool.{cases_lt}
use Rattle.tidy_places.specs.Firsts.{IsLeastFound}
use Rattle.tidy_lists.specs.inside.LeastPlaces.{lesser_of}

-- what holds at the same places
pub least_same : (P Q : ℕ → Type 0) → ((p : ℕ) → P p → Q p) → ((p : ℕ) → Q p → P p) → (found : Option ℕ) → IsLeastFound P found → IsLeastFound Q found
least_same P Q to from None none = λ p holds. none p (from p holds)
least_same P Q to from (Some p) (here, first) = (to p here, λ q less holds. first q less (from q holds))

-- one of two
pub least_either : (P Q : ℕ → Type 0) (a b : Option ℕ) → IsLeastFound P a → IsLeastFound Q b → IsLeastFound (λ (p : ℕ). P p ⊎ Q p) (lesser_of a b)
least_either P Q None None one two = λ p either. elim either [ inl first ↦ one p first | inr second ↦ two p second ]
least_either P Q None (Some b) one (here, first) = (inr here, λ q less either. elim either [ inl is ↦ one q is | inr is ↦ first q less is ])
least_either P Q (Some a) None (here, first) two = (inl here, λ q less either. elim either [ inl is ↦ first q less is | inr is ↦ two q is ])
least_either P Q (Some a) (Some b) (here, first) (there, second) = (
  elim (cases_lt a b) [
    | inl less ↦ (let e : a ≡ min a b = omega (arith, less) in inl (subst P e here))
    | inr more ↦ (let e : b ≡ min a b = omega (arith, more) in inr (subst Q e there))
  ],
  λ q less either. elim either [
    | inl is ↦ first q (omega (arith, less)) is
    | inr is ↦ second q (omega (arith, less)) is
  ],
)

-- at one place alone
pub least_one : (at : ℕ) → IsLeastFound (λ (p : ℕ). p ≡ at) (Some at)
least_one at = (refl, λ q less e. omega (arith, less, e))

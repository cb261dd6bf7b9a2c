-- The least place at which one of several things holds.
use Rattle.std.proofs.Common.{◌≡◌, ◌≤◌, ◌<◌, ◌+◌, ◌⊎◌, inl, inr, ℕ, Bool, true, false, sym, subst, refl, arith}
use Rattle.std.specs.Prelude.{◌↔◌, Option, Some, None, IsTrue}
use Rattle.std.proofs.lemmas.Bool.{cases_lt, false≢true}
use Rattle.std.specs.Bool.{then_some}
use Rattle.tidy_places.specs.Firsts.{IsLeastFound}

-- the same places
pub least_same : (P Q : ℕ → Type 0) → ((p : ℕ) → P p → Q p) → ((p : ℕ) → Q p → P p) → (found : Option ℕ) → IsLeastFound P found → IsLeastFound Q found
least_same P Q to from None none = λ p there. none p (from p there)
least_same P Q to from (Some p) (here, first) = (to p here, λ q less there. first q less (from q there))

-- the place that was found is the least one
found_holds : (P : ℕ → Type 0) (found : Option ℕ) (p : ℕ) → IsLeastFound P found → found ≡ Some p → P p
found_holds P found p least is = (subst (IsLeastFound P) is least).0

found_below : (P : ℕ → Type 0) (found : Option ℕ) (q : ℕ) → IsLeastFound P found → P q → (p : ℕ) × (found ≡ Some p) × (p ≤ q)
found_below P None q none there = absurd (none q there)
found_below P (Some p) q (here, first) there = elim (cases_lt q p) [
  | inl less ↦ absurd (first q less there)
  | inr most ↦ (p, refl, most)
]

-- the lesser of the places of two things
pub least_of_both : (P Q : ℕ → Type 0) (one other found : Option ℕ) → IsLeastFound P one → IsLeastFound Q other → IsLeastFound (λ p. (one ≡ Some p) ⊎ (other ≡ Some p)) found → IsLeastFound (λ p. P p ⊎ Q p) found
least_of_both P Q one other found first second earlier = go found earlier
  where
    below : (q : ℕ) → P q ⊎ Q q → (p : ℕ) × ((one ≡ Some p) ⊎ (other ≡ Some p)) × (p ≤ q)
    below q (inl there) = let (p, is, most) = found_below P one q first there in (p, inl is, most)
    below q (inr there) = let (p, is, most) = found_below Q other q second there in (p, inr is, most)

    holds : (p : ℕ) → (one ≡ Some p) ⊎ (other ≡ Some p) → P p ⊎ Q p
    holds p (inl is) = inl (found_holds P one p first is)
    holds p (inr is) = inr (found_holds Q other p second is)

    go : (o : Option ℕ) → IsLeastFound (λ p. (one ≡ Some p) ⊎ (other ≡ Some p)) o → IsLeastFound (λ p. P p ⊎ Q p) o
    go None none = λ q there. let (p, is, most) = below q there in none p is
    go (Some p) (is, least) = (holds p is, λ q less there. let (a, found, most) = below q there in least a (omega arith) found)

-- things with numbers, which are looked at one after the other
pub least_of_none : (P : ℕ → ℕ → Type 0) → IsLeastFound (λ p. (k : ℕ) × (k < 0) × P k p) None
least_of_none P = λ p (k, below, there). absurd (omega arith)

pub least_of_more : (P : ℕ → ℕ → Type 0) (n : ℕ) (one other found : Option ℕ) → IsLeastFound (λ p. (k : ℕ) × (k < n) × P k p) one → IsLeastFound (P n) other → IsLeastFound (λ p. (one ≡ Some p) ⊎ (other ≡ Some p)) found → IsLeastFound (λ p. (k : ℕ) × (k < n + 1) × P k p) found
least_of_more P n one other found before here earlier =
    least_same (λ p. ((k : ℕ) × (k < n) × P k p) ⊎ P n p) (λ p. (k : ℕ) × (k < n + 1) × P k p) to from found (least_of_both (λ p. (k : ℕ) × (k < n) × P k p) (P n) one other found before here earlier)
  where
    to : (p : ℕ) → ((k : ℕ) × (k < n) × P k p) ⊎ P n p → (k : ℕ) × (k < n + 1) × P k p
    to p (inl (k, below, there)) = (k, omega arith, there)
    to p (inr there) = (n, omega arith, there)

    from : (p : ℕ) → (k : ℕ) × (k < n + 1) × P k p → ((k : ℕ) × (k < n) × P k p) ⊎ P n p
    from p (k, below, there) = elim (cases_lt k n) [
      | inl less ↦ inl (k, less, there)
      | inr most ↦ let same : k ≡ n = omega arith in inr (subst (λ (z : ℕ). P z p) same there)
    ]

-- a thing that may stand at one place
pub least_if : (H : ℕ → Type 0) (holds : Bool) (at : ℕ) (found : Option ℕ) → (IsTrue holds ↔ H at) → found ≡ then_some holds at → IsLeastFound (λ p. H p × (p ≡ at)) found
least_if H holds at found decides is = subst (IsLeastFound (λ p. H p × (p ≡ at))) (sym is) (go holds decides)
  where
    go : (b : Bool) → (IsTrue b ↔ H at) → IsLeastFound (λ p. H p × (p ≡ at)) (then_some b at)
    go true there = ((there.0 refl, refl), λ q less (here, same). absurd (omega arith))
    go false there = λ p (here, same). absurd (false≢true (there.1 (subst H same here)))

-- The least place of several, and among the members of a list.
use Rattle.std.proofs.Common.{◌≡◌, ◌≤◌, ◌<◌, ◌+◌, ◌⊎◌, inl, inr, ℕ, min, max, sym, subst, refl, arith}
use Rattle.std.specs.Prelude.{Option, Some, None}
use Rattle.std.proofs.lemmas.Bool.{cases_lt}
use Rattle.tidy_places.specs.Firsts.{IsLeastPlace, IsLeastFound}
use Rattle.tidy_tables.specs.inside.Marked.{IsAmong, IsGreatestOf, lesser_of}

-- what holds at the same places has the same least place
pub least_same : (P Q : ℕ → Type 0) (found : Option ℕ) → ((q : ℕ) → P q → Q q) → ((q : ℕ) → Q q → P q) → IsLeastFound P found → IsLeastFound Q found
least_same P Q None to from none = λ q holds. none q (from q holds)
least_same P Q (Some p) to from least = (to p least.0, λ q below holds. least.1 q below (from q holds))

-- the least place of either is the lesser of both least places
pub least_either : (P Q : ℕ → Type 0) (a b : Option ℕ) → IsLeastFound P a → IsLeastFound Q b → IsLeastFound (λ q. P q ⊎ Q q) (lesser_of a b)
least_either P Q None None none never = λ q holds. elim holds [ inl p ↦ none q p | inr p ↦ never q p ]
least_either P Q None (Some b) none least = (inr least.0, λ q below holds. elim holds [ inl p ↦ none q p | inr p ↦ least.1 q below p ])
least_either P Q (Some a) None least none = (inl least.0, λ q below holds. elim holds [ inl p ↦ least.1 q below p | inr p ↦ none q p ])
least_either P Q (Some a) (Some b) first second = elim (cases_lt a b) [
  | inl less ↦
      let is : min a b ≡ a = omega arith in
      subst (IsLeastPlace (λ q. P q ⊎ Q q)) (sym is) (inl first.0, λ q below holds. elim holds [ inl p ↦ first.1 q below p | inr p ↦ second.1 q (omega arith) p ])
  | inr more ↦
      let is : min a b ≡ b = omega arith in
      subst (IsLeastPlace (λ q. P q ⊎ Q q)) (sym is) (inr second.0, λ q below holds. elim holds [ inl p ↦ first.1 q (omega arith) p | inr p ↦ second.1 q below p ])
]

module _ (Amiss : ℕ → Type 0) (place : ℕ → ℕ) where
  -- nothing is amiss with the next member
  pub among_fine : (k : ℕ) (found : Option ℕ) → IsLeastFound (IsAmong Amiss place k) found → (Amiss k → ⊥) → IsLeastFound (IsAmong Amiss place (k + 1)) found
  among_fine k found least fine =
      least_same (IsAmong Amiss place k) (IsAmong Amiss place (k + 1)) found
      (λ q among. (among.0, omega (arith, among.1), among.2, among.3))
      (λ q among. elim (cases_lt among.0 k) [
        | inl earlier ↦ (among.0, earlier, among.2, among.3)
        | inr late ↦
            let here : among.0 ≡ k = omega (arith, among.1) in
            absurd (fine (subst Amiss here among.2))
      ])
      least

  -- something is
  pub among_more : (k : ℕ) (found : Option ℕ) → IsLeastFound (IsAmong Amiss place k) found → Amiss k → IsLeastFound (IsAmong Amiss place (k + 1)) (lesser_of found (Some (place k)))
  among_more k found least amiss =
      let this : IsLeastFound (λ q. q ≡ place k) (Some (place k)) = (refl, λ q below same. absurd (omega arith)) in
      least_same (λ q. IsAmong Amiss place k q ⊎ (q ≡ place k)) (IsAmong Amiss place (k + 1)) (lesser_of found (Some (place k)))
      (λ q either. elim either [
        | inl among ↦ (among.0, omega (arith, among.1), among.2, among.3)
        | inr same ↦ (k, omega arith, amiss, same)
      ])
      (λ q among. elim (cases_lt among.0 k) [
        | inl earlier ↦ inl (among.0, earlier, among.2, among.3)
        | inr late ↦
            let here : among.0 ≡ k = omega (arith, among.1) in
            inr (subst (λ (z : ℕ). q ≡ place z) here among.3)
      ])
      (least_either (IsAmong Amiss place k) (λ q. q ≡ place k) found (Some (place k)) least this)

  -- where places rise, the first member with which something is amiss has the least
  pub among_first : (k count : ℕ) → k < count → ((i : ℕ) → i < k → Amiss i → ⊥) → ((i : ℕ) → k < i → i < count → place k < place i) → Amiss k → IsLeastFound (IsAmong Amiss place count) (Some (place k))
  among_first k count inside fine rising amiss = (
    (k, inside, amiss, refl),
    λ q below among. elim (cases_lt among.0 k) [
      | inl earlier ↦ fine among.0 earlier among.2
      | inr late ↦ elim (cases_lt k among.0) [
        | inl later ↦ absurd (omega (arith, rising among.0 later among.1, among.3))
        | inr not_later ↦
            let here : among.0 ≡ k = omega arith in
            let same : q ≡ place k = subst (λ (z : ℕ). q ≡ place z) here among.3 in
            absurd (omega arith)
      ]
    ],
  )

  pub among_no : (count : ℕ) → ((i : ℕ) → i < count → Amiss i → ⊥) → IsLeastFound (IsAmong Amiss place count) None
  among_no count fine = λ q among. fine among.0 among.1 among.2

-- THE GREATEST OF SOME NUMBERS

module _ (number : ℕ → ℕ) where
  pub greatest_more : (k greatest next : ℕ) → IsGreatestOf number k greatest → next ≡ number k → IsGreatestOf number (k + 1) (max greatest next)
  greatest_more k greatest next is same = record {
    bound = λ i below. elim (cases_lt i k) [
      | inl earlier ↦ (let b : number i ≤ greatest = is.bound i earlier in omega arith)
      | inr late ↦
          let here : k ≡ i = omega arith in
          let b : next ≡ number i = subst (λ (z : ℕ). next ≡ number z) here same in
          omega arith
    ];
    one = elim (cases_lt greatest next) [
      | inl less ↦ inr (k, omega arith, omega arith)
      | inr more ↦
          let stays : max greatest next ≡ greatest = omega arith in
          elim is.one [
            | inl none ↦ inl (omega arith)
            | inr some ↦ inr (some.0, omega (arith, some.1), omega (arith, some.2))
          ]
    ];
  }

  -- a number below the greatest is below one of them, and no other is
  pub below_some : (k greatest x : ℕ) → IsGreatestOf number k greatest → x < greatest → (e : ℕ) × (e < k) × (x < number e)
  below_some k greatest x is less = elim is.one [
    | inl none ↦ absurd (omega arith)
    | inr some ↦ (some.0, some.1, omega (arith, some.2))
  ]

  pub below_none : (k greatest x : ℕ) → IsGreatestOf number k greatest → greatest ≤ x → (e : ℕ) × (e < k) × (x < number e) → ⊥
  below_none k greatest x is more (e, before, less) = omega (arith, is.bound e before)

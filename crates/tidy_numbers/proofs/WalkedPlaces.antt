-- The least of places that are looked at one after the other.
use Rattle.std.proofs.Common.{◌≡◌, ◌≤◌, ◌<◌, ◌+◌, ◌⊎◌, ℕ, Option, Some, None, subst, refl, inl, inr, arith}
use Rattle.std.proofs.lemmas.Bool.{cases_lt}
use Rattle.tidy_places.specs.Firsts.{IsLeastFound}
use Rattle.tidy_numbers.specs.inside.NumberWalks.{IsFoundBut}

-- what was found is one of the places, and isn't behind any
pub found_holds : (Holds : ℕ → Type 0) (found : Option ℕ) → IsLeastFound Holds found → (p : ℕ) → found ≡ Some p → Holds p
found_holds Holds None none p is = absurd (let no : ⊥ = cc is in no)
found_holds Holds (Some q) (holds, least) p is = let same : q ≡ p = cc is in subst Holds same holds

pub found_by : (Holds : ℕ → Type 0) (found : Option ℕ) → IsLeastFound Holds found → (p : ℕ) → Holds p → (q : ℕ) × (found ≡ Some q) × (q ≤ p)
found_by Holds None none p holds = absurd (none p holds)
found_by Holds (Some q) (here, least) p holds =
    elim (cases_lt p q) [
      | inl before ↦ absurd (least p before holds)
      | inr after ↦ (q, refl, after)
    ]

-- at first all are left but what was found before
pub found_before : (Holds : ℕ → Type 0) (before : Option ℕ) → IsFoundBut (λ p. (before ≡ Some p) ⊎ Holds p) Holds before
found_before Holds before = record {
  sound = λ p is. inl is;
  left = λ p holds. inr holds;
  full = λ p holds. elim holds [
    | inl is ↦ inr (p, is, omega arith)
    | inr there ↦ inl there
  ];
}

-- some of those that are left are looked at
pub found_more : (Holds Left Here Next : ℕ → Type 0) (found more : Option ℕ) → IsFoundBut Holds Left found → ((p : ℕ) → Left p → Here p ⊎ Next p) → ((p : ℕ) → Here p → Left p) → ((p : ℕ) → Next p → Left p) → IsLeastFound (λ p. (found ≡ Some p) ⊎ Here p) more → IsFoundBut Holds Next more
found_more Holds Left Here Next found more f split here next least =
    let Now : ℕ → Type 0 = λ p. (found ≡ Some p) ⊎ Here p in
    record {
      sound = λ p is. elim (found_holds Now more least p is) [
        | inl before ↦ f.sound p before
        | inr there ↦ f.left p (here p there)
      ];
      left = λ p there. f.left p (next p there);
      full = λ p holds. elim (f.full p holds) [
        | inl left ↦ elim (split p left) [
          | inl there ↦ inr (found_by Now more least p (inr there))
          | inr later ↦ inl later
        ]
        | inr earlier ↦
            let (q, is, order) = earlier in
            let (r, same, before) = found_by Now more least q (inl is) in
            inr (r, same, omega (arith, order, before))
      ];
    }

-- none is left
pub found_all : (Holds Left : ℕ → Type 0) (found : Option ℕ) → IsFoundBut Holds Left found → ((p : ℕ) → Left p → ⊥) → IsLeastFound Holds found
found_all Holds Left None f none =
    λ p holds. elim (f.full p holds) [
      | inl left ↦ none p left
      | inr earlier ↦ (let no : None ≡ Some earlier.0 = earlier.1 in cc no)
    ]
found_all Holds Left (Some q) f none = (
  f.sound q refl,
  λ p before holds. elim (f.full p holds) [
    | inl left ↦ none p left
    | inr earlier ↦
        let same : Some q ≡ Some earlier.0 = earlier.1 in
        let is : q ≡ earlier.0 = cc same in
        let order : earlier.0 ≤ p = earlier.2 in
        omega (arith, is, order, before)
  ],
)

-- what is left is all looked at
pub found_last : (Holds Left Here : ℕ → Type 0) (found last : Option ℕ) → IsFoundBut Holds Left found → ((p : ℕ) → Left p → Here p) → ((p : ℕ) → Here p → Left p) → IsLeastFound (λ p. (found ≡ Some p) ⊎ Here p) last → IsLeastFound Holds last
found_last Holds Left Here found last f to from least =
    found_all Holds (λ p. ⊥) last (found_more Holds Left Here (λ p. ⊥) found last f (λ p left. inl (to p left)) from (λ p no. absurd no) least) (λ p no. no)

-- the same places
pub found_same : (Holds Others : ℕ → Type 0) (found : Option ℕ) → IsLeastFound Holds found → ((p : ℕ) → Holds p → Others p) → ((p : ℕ) → Others p → Holds p) → IsLeastFound Others found
found_same Holds Others None none to from = λ p holds. none p (from p holds)
found_same Holds Others (Some q) (holds, least) to from = (to q holds, λ p before there. least p before (from p there))

-- OF SEVERAL THINGS

-- of two
pub found_either : (First Second : ℕ → Type 0) (found more : Option ℕ) → IsLeastFound First found → IsLeastFound (λ p. (found ≡ Some p) ⊎ Second p) more → IsLeastFound (λ p. First p ⊎ Second p) more
found_either First Second found more one two =
    let first : IsFoundBut (λ p. First p ⊎ Second p) Second found = record {
      sound = λ p is. inl (found_holds First found one p is);
      left = λ p there. inr there;
      full = λ p holds. elim holds [
        | inl here ↦ inr (found_by First found one p here)
        | inr there ↦ inl there
      ];
    } in
    found_last (λ p. First p ⊎ Second p) Second Second found more first (λ p there. there) (λ p there. there) two

-- of the first things with numbers
abbrev pub HoldsAmong : (ℕ → ℕ → Type 0) → ℕ → ℕ → Type 0
HoldsAmong Holds n p = (k : ℕ) × (k < n) × Holds k p

pub among_none : (Holds : ℕ → ℕ → Type 0) → IsLeastFound (HoldsAmong Holds 0) None
among_none Holds = λ p holds. let none : holds.0 < 0 = holds.1 in absurd (omega arith)

pub among_more : (Holds : ℕ → ℕ → Type 0) (i : ℕ) (found more : Option ℕ) → IsLeastFound (HoldsAmong Holds i) found → IsLeastFound (λ p. (found ≡ Some p) ⊎ Holds i p) more → IsLeastFound (HoldsAmong Holds (i + 1)) more
among_more Holds i found more before least =
    found_same (λ p. HoldsAmong Holds i p ⊎ Holds i p) (HoldsAmong Holds (i + 1)) more (found_either (HoldsAmong Holds i) (Holds i) found more before least)
    (λ p h. elim h [
      | inl there ↦ let inside : there.0 < i = there.1 in (there.0, omega arith, there.2)
      | inr here ↦ (i, omega arith, here)
    ])
    (λ p h.
    let inside : h.0 < i + 1 = h.1 in
    elim (cases_lt h.0 i) [
      | inl earlier ↦ inl (h.0, earlier, h.2)
      | inr later ↦ let same : h.0 ≡ i = omega arith in inr (subst (λ (k : ℕ). Holds k p) same h.2)
    ])

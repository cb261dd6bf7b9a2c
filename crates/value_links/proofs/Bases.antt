-- The first attribute of some that gives a base.
use Rattle.std.proofs.Common.{◌≡◌, ◌+◌, ◌∙◌, ◌++◌, ◌⊎◌, inl, inr, true≢false, Bool, true, false, ℕ, zero, suc, List, [], ◌∷◌, length, sym, ap, arith}
use Rattle.std.specs.List.{Contains}
use Rattle.std.proofs.lemmas.Bool.{cases_eq}
use Rattle.std.proofs.lemmas.List.{length-append}
use Rattle.form_codec.specs.Forms.{Meaning}
use Rattle.form_codec.specs.Forms.Meaning.{SectionPlace}
use Rattle.value_links.specs.Values.{IsFirstBase}

abbrev pub is_place : Meaning → Bool
is_place (SectionPlace n) = true
is_place meaning = false

abbrev pub IsBase : ℕ × Meaning → ℕ → Type 0
IsBase a wanted = (n : ℕ) × (a ≡ (wanted, SectionPlace n))

pub is_base : (a : ℕ × Meaning) (wanted : ℕ) → IsBase a wanted ⊎ (¬ IsBase a wanted)
is_base (name, SectionPlace n) wanted = elim (cases_eq name wanted) [
  | inl same ↦ inl (n, ap (λ (z : ℕ). (z, SectionPlace n)) same)
  | inr apart ↦ inr (λ (x : IsBase (name, SectionPlace n) wanted). apart (ap (λ (z : ℕ × Meaning). z.0) x.1))
]
is_base (name, meaning) wanted = inr (λ (x : IsBase (name, meaning) wanted). true≢false (sym (ap (λ (z : ℕ × Meaning). is_place z.1) x.1)))

-- a first one is the head, or the first of the rest
pub split_first : (a : ℕ × Meaning) (attributes : List (ℕ × Meaning)) (name n : ℕ) (before after : List (ℕ × Meaning)) → a ∷ attributes ≡ before ++ (name, SectionPlace n) ∷ after → ((m : ℕ) → ¬ Contains before (name, SectionPlace m)) → IsBase a name ⊎ IsFirstBase attributes name n
split_first a attributes name n [] after parts first = inl (n, cc)
split_first a attributes name n (b ∷ before) after parts first = inr (record { before = before; after = after; parts = cc; first = λ (m : ℕ) (x : Contains before (name, SectionPlace m)). first m (suc x.0, omega (arith, x.1), x.2) })

-- a first one behind what isn't one is the first of all
pub behind : (a : ℕ × Meaning) (attributes : List (ℕ × Meaning)) (name : ℕ) → (¬ IsBase a name) → (n : ℕ) → IsFirstBase attributes name n → IsFirstBase (a ∷ attributes) name n
behind a attributes name other n h = record { before = a ∷ h.before; after = h.after; parts = ap (λ z. a ∷ z) h.parts; first = no_earlier }
  where
    no_earlier : (m : ℕ) → ¬ Contains (a ∷ h.before) (name, SectionPlace m)
    no_earlier m (zero, inside, e) = other (m, e)
    no_earlier m (suc i, inside, e) = h.first m (i, omega arith, e)

pub none_first : (name n : ℕ) → ¬ IsFirstBase [] name n
none_first name n h =
    let size : length (h.before ++ (name, SectionPlace n) ∷ h.after) ≡ length h.before + length ((name, SectionPlace n) ∷ h.after) = length-append h.before ((name, SectionPlace n) ∷ h.after) in
    let none : 0 ≡ length (h.before ++ (name, SectionPlace n) ∷ h.after) = ap length h.parts in
    absurd (omega arith)

-- some attribute is a section offset of this name, and then there is a first one, or none is
pub first_or_none : (attributes : List (ℕ × Meaning)) (name : ℕ) → ((n : ℕ) × IsFirstBase attributes name n) ⊎ (¬ ((n : ℕ) × IsFirstBase attributes name n))
first_or_none [] name = inr (λ (x : (n : ℕ) × IsFirstBase [] name n). none_first name x.0 x.1)
first_or_none (a ∷ attributes) name = elim (is_base a name) [
  | inl here ↦ inl (here.0, record { before = []; after = attributes; parts = ap (λ z. z ∷ attributes) here.1; first = λ (m : ℕ) (x : Contains [] (name, SectionPlace m)). let inside = x.1 in absurd (omega arith) })
  | inr other ↦ elim (first_or_none attributes name) [
    | inl found ↦ inl (found.0, behind a attributes name other found.0 found.1)
    | inr none ↦ inr (λ (x : (n : ℕ) × IsFirstBase (a ∷ attributes) name n). elim (split_first a attributes name x.0 x.1.before x.1.after x.1.parts x.1.first) [ inl here ↦ other here | inr later ↦ none (x.0, later) ])
  ]
]

abbrev pub place_in : Meaning → ℕ
place_in (SectionPlace n) = n
place_in meaning = 0

-- the first base is the head where that is one
first_is : (a : ℕ × Meaning) (attributes : List (ℕ × Meaning)) (name n k : ℕ) (before after : List (ℕ × Meaning)) → a ≡ (name, SectionPlace k) → a ∷ attributes ≡ before ++ (name, SectionPlace n) ∷ after → ((m : ℕ) → ¬ Contains before (name, SectionPlace m)) → n ≡ k
first_is a attributes name n k [] after here parts first =
    let same : a ≡ (name, SectionPlace n) = cc in
    ap (λ (z : ℕ × Meaning). place_in z.1) (sym same ∙ here)
first_is a attributes name n k (b ∷ before) after here parts first =
    let same : b ≡ (name, SectionPlace k) = cc in
    absurd (first k (0, omega arith, same))

pub one_base : (attributes : List (ℕ × Meaning)) (name n m : ℕ) → IsFirstBase attributes name n → IsFirstBase attributes name m → n ≡ m
one_base [] name n m f g = absurd (none_first name n f)
one_base (a ∷ attributes) name n m f g = elim (is_base a name) [
  | inl here ↦ first_is a attributes name n here.0 f.before f.after here.1 f.parts f.first ∙ sym (first_is a attributes name m here.0 g.before g.after here.1 g.parts g.first)
  | inr other ↦ one_base attributes name n m (behind_it a attributes name n other f) (behind_it a attributes name m other g)
]
  where
    behind_it : (a : ℕ × Meaning) (attributes : List (ℕ × Meaning)) (name n : ℕ) → (¬ IsBase a name) → IsFirstBase (a ∷ attributes) name n → IsFirstBase attributes name n
    behind_it a attributes name n other f = elim (split_first a attributes name n f.before f.after f.parts f.first) [ inl here ↦ absurd (other here) | inr later ↦ later ]

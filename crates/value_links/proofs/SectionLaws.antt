-- The section of a name is found where one has it.
use Rattle.std.proofs.Common.{◌≡◌, ◌≢◌, ◌≤◌, ◌<◌, ◌+◌, ◌∙◌, inl, inr, ℕ, zero, suc, List, Bool, true, false, cond, sym, ap, subst, refl, true≢false, arith}
use Rattle.std.specs.Prelude.{Option, Some, None, bytes_eq}
use Rattle.std.specs.List.{position_from, range_with_len}
use Rattle.std.proofs.lemmas.Bool.{cases_lt}
use Rattle.std.proofs.lemmas.Iterator.Adapters.{position_from-zero}
use Rattle.std.proofs.lemmas.Slice.Eq.{bytes_eq-Decides}
use Rattle.elf_sections.specs.Elf.{section_count}
use Rattle.elf_sections.specs.Names.{name_of}
use Rattle.elf_sections.specs.Sections.{IsFirstNamed, HasNone}
use Rattle.value_links.specs.Sections.{section_named, FindsSections}

-- what is found among n numbers from a on: none passes the test, or the first that does
abbrev Finds : (ℕ → Bool) → ℕ → ℕ → Option ℕ → Type 0
Finds t a n None = (k : ℕ) → a ≤ k → k < a + n → t k ≡ false
Finds t a n (Some i) = (a ≤ i) × (i < a + n) × (t i ≡ true) × ((k : ℕ) → a ≤ k → k < i → t k ≡ false)

-- a test that fails at a and from a + 1 on fails from a on
fails_on : (t : ℕ → Bool) (a k : ℕ) → t a ≡ false → (a < k → t k ≡ false) → a ≤ k → t k ≡ false
fails_on t a k fails rest low = elim (cases_lt a k) [
  | inl more ↦ rest more
  | inr less ↦ let same : a ≡ k = omega arith in subst (λ (n : ℕ). t n ≡ false) same fails
]

finds_by : (t : ℕ → Bool) (a n : ℕ) (p : Option ℕ) (b : Bool) → t a ≡ b → Finds t (a + 1) n p → Finds t a (suc n) (cond b (Some a) p)
finds_by t a n p true passes found = (omega arith, omega arith, passes, λ k low high. absurd (omega arith))
finds_by t a n None false fails found = λ k low high. fails_on t a k fails (λ more. found k (omega arith) (omega arith)) low
finds_by t a n (Some i) false fails (low, high, passes, before) = (omega arith, omega arith, passes, λ k from below. fails_on t a k fails (λ more. before k (omega arith) below) from)

finds : (t : ℕ → Bool) (a n : ℕ) → Finds t a n (position_from t a (range_with_len a n))
finds t a zero = λ k low high. absurd (omega arith)
finds t a (suc n) = finds_by t a n (position_from t (a + 1) (range_with_len (a + 1) n)) (t a) refl (finds t (a + 1) n)

abbrev is_named : List ℕ → List ℕ → ℕ → Bool
is_named file wanted i = bytes_eq (name_of file i) wanted

found : (file wanted : List ℕ) → Finds (is_named file wanted) 0 (section_count file) (section_named file wanted)
found file wanted = subst (Finds (is_named file wanted) 0 (section_count file)) (sym (position_from-zero (is_named file wanted) (range_with_len 0 (section_count file)))) (finds (is_named file wanted) 0 (section_count file))

fails_named : (file wanted : List ℕ) (k : ℕ) → is_named file wanted k ≡ false → name_of file k ≢ wanted
fails_named file wanted k fails same = true≢false (sym ((bytes_eq-Decides (name_of file k) wanted).1 same) ∙ fails)

first_named : (file wanted : List ℕ) (i : ℕ) → Finds (is_named file wanted) 0 (section_count file) (Some i) → IsFirstNamed file wanted i
first_named file wanted i (low, high, passes, before) = record {
  inside = omega arith;
  named = (bytes_eq-Decides (name_of file i) wanted).0 passes;
  before = λ k below. fails_named file wanted k (before k (omega arith) below);
}

named_first : (file wanted : List ℕ) (i : ℕ) (p : Option ℕ) → Finds (is_named file wanted) 0 (section_count file) p → IsFirstNamed file wanted i → p ≡ Some i
named_first file wanted i None found first = absurd (fails_named file wanted i (found i (omega arith) (let inside = first.inside in omega arith)) first.named)
named_first file wanted i (Some j) (low, high, passes, before) first = elim (cases_lt j i) [
  | inl less ↦ absurd (first.before j less ((bytes_eq-Decides (name_of file j) wanted).0 passes))
  | inr more ↦ elim (cases_lt i j) [
    | inl below ↦ absurd (fails_named file wanted i (before i (omega arith) below) first.named)
    | inr less ↦ let same : j ≡ i = omega arith in ap Some same
  ]
]

none_named : (file wanted : List ℕ) (p : Option ℕ) → Finds (is_named file wanted) 0 (section_count file) p → HasNone file wanted → p ≡ None
none_named file wanted None found none = refl
none_named file wanted (Some j) (low, high, passes, before) none = absurd (none j (omega arith) ((bytes_eq-Decides (name_of file j) wanted).0 passes))

pub sections_are_found : FindsSections
sections_are_found = record {
  found = λ file wanted i. (λ e. first_named file wanted i (subst (Finds (is_named file wanted) 0 (section_count file)) e (found file wanted)), named_first file wanted i (section_named file wanted) (found file wanted));
  missing = λ file wanted. (λ e k inside. fails_named file wanted k (subst (Finds (is_named file wanted) 0 (section_count file)) e (found file wanted) k (omega arith) (omega arith)), none_named file wanted (section_named file wanted) (found file wanted));
}

-- The set of the debug names among the first sections, by which two sections of one name are found.
use Rattle.std.proofs.Common.{◌≡◌, ◌≢◌, ◌<◌, ◌↔◌, inl, inr, ℕ, List, Bool, true, false, cond, not, length, sym, ap, subst, refl, ◌∙◌, ◌+◌, true≢false, arith, Bor, Ordering, Less, Equal, Greater}
use Rattle.std.specs.Prelude.{IsTrue}
use Rattle.std.specs.Ordering.{nat_cmp, is_eq, ordering_then}
use Rattle.std.specs.Cmp.Lexicographic.{slice_cmp}
use Rattle.std.specs.BTreeSet.{BTreeSet, contains, Updates}
use Rattle.std.proofs.lemmas.Bool.{cases_lt, cases_Bool, cond-false, false≢true}
use Rattle.std.proofs.lemmas.Map.Text.{is_eq-slice_cmp}
use Rattle.std.proofs.lemmas.Slice.Eq.{bytes_eq-Decides}
use Rattle.elf_sections.specs.Names.{name_of, is_debug_name}
use Rattle.elf_sections.specs.inside.Sums.{sum_of}

-- a name in the set: its length, its number, and the name
abbrev pub Key : Type 0
Key = ℕ × ℕ × Bor (List ℕ)

abbrev pub compare_keys : Key → Key → Ordering
compare_keys a b = ordering_then (ordering_then (nat_cmp a.0 b.0) (nat_cmp a.1 b.1)) (slice_cmp nat_cmp a.2.now b.2.now)

-- a name as a key
abbrev pub key_with : List ℕ → ℕ → Key
key_with name sum = (length name, sum, record { ref_ptr = (0, 0); now = name })

abbrev pub key_of : ℕ → List ℕ → Key
key_of factor name = key_with name (sum_of factor name)

abbrev pub has_name : ℕ → BTreeSet Key → List ℕ → Bool
has_name factor names name = contains compare_keys names (key_of factor name)

-- a number of the name is its own
pub looked_up : (factor : ℕ) (names : BTreeSet Key) (name : List ℕ) (sum : ℕ) → sum ≡ sum_of factor name → contains compare_keys names (key_with name sum) ≡ has_name factor names name
looked_up factor names name sum is = ap (λ (z : ℕ). contains compare_keys names (key_with name z)) is

pub updated : (factor : ℕ) (old new : BTreeSet Key) (name : List ℕ) (sum : ℕ) → sum ≡ sum_of factor name → Updates compare_keys old new (key_with name sum) true → Updates compare_keys old new (key_of factor name) true
updated factor old new name sum is all = subst (λ (z : ℕ). Updates compare_keys old new (key_with name z) true) is all

-- the name is a debug name of one of the first n sections
abbrev pub IsAmongFirst : List ℕ → ℕ → List ℕ → Type 0
IsAmongFirst file n name = (k : ℕ) × (k < n) × (is_debug_name name ≡ true) × (name_of file k ≡ name)

-- the set has the debug names of the first n sections
abbrev pub HoldsNames : ℕ → List ℕ → ℕ → BTreeSet Key → Type 0
HoldsNames factor file n names = (name : List ℕ) → IsTrue (has_name factor names name) ↔ IsAmongFirst file n name

-- no two of the first n sections have the same debug name
abbrev pub AreDistinct : List ℕ → ℕ → Type 0
AreDistinct file n = (i j : ℕ) → i < j → j < n → is_debug_name (name_of file j) ≡ true → name_of file i ≢ name_of file j

second_equal : (x y : Ordering) → is_eq (ordering_then x y) ≡ true → is_eq y ≡ true
second_equal Less y e = absurd (false≢true e)
second_equal Equal y e = e
second_equal Greater y e = absurd (false≢true e)

same_names : (factor : ℕ) (a b : List ℕ) → is_eq (compare_keys (key_of factor a) (key_of factor b)) ≡ true → a ≡ b
same_names factor a b e =
    (bytes_eq-Decides a b).0 (sym (is_eq-slice_cmp a b) ∙ second_equal (ordering_then (nat_cmp (length a) (length b)) (nat_cmp (sum_of factor a) (sum_of factor b))) (slice_cmp nat_cmp a b) e)

stays_true : (b old : Bool) → old ≡ true → cond b true old ≡ true
stays_true true old e = refl
stays_true false old e = e

was_true : (b : Bool) → not b ≡ false → b ≡ true
was_true true e = refl
was_true false e = absurd (true≢false e)

was_false : (b : Bool) → not b ≡ true → b ≢ true
was_false true e = λ it. absurd (false≢true e)
was_false false e = λ it. false≢true it

module _ (factor : ℕ) (file : List ℕ) (i : ℕ) (name : List ℕ) (is : name ≡ name_of file i) (old : BTreeSet Key) (holds : HoldsNames factor file i old) where
  -- a section before has the name
  pub second_of_name : not (has_name factor old name) ≡ false → (k : ℕ) × (k < i) × (is_debug_name (name_of file i) ≡ true) × (name_of file k ≡ name_of file i)
  second_of_name again =
      let first = (holds name).0 (was_true (has_name factor old name) again) in
      (first.0, first.1, subst (λ (z : List ℕ). is_debug_name z ≡ true) is first.2, first.3 ∙ is)

  held_after : (new : BTreeSet Key) → is_debug_name name ≡ true → Updates compare_keys old new (key_of factor name) true → HoldsNames factor file (i + 1) new
  held_after new debug updates other = (among, has)
    where
      same : Bool
      same = is_eq (compare_keys (key_of factor name) (key_of factor other))

      step : has_name factor new other ≡ cond same true (has_name factor old other)
      step = updates.0 (key_of factor other)

      among : IsTrue (has_name factor new other) → IsAmongFirst file (i + 1) other
      among it = elim (cases_Bool same) [
        | inl equal ↦ let e = same_names factor name other equal in (i, omega arith, subst (λ (z : List ℕ). is_debug_name z ≡ true) e debug, sym is ∙ e)
        | inr apart ↦
            let before = (holds other).0 (sym (step ∙ cond-false same true (has_name factor old other) apart) ∙ it) in
            (before.0, omega (arith, before.1), before.2, before.3)
      ]

      has : IsAmongFirst file (i + 1) other → IsTrue (has_name factor new other)
      has (k, below, debug_too, named) = elim (cases_lt k i) [
        | inl before ↦ step ∙ stays_true same (has_name factor old other) ((holds other).1 (k, before, debug_too, named))
        | inr rest ↦
            let e : k ≡ i = omega arith in
            subst (λ (z : List ℕ). has_name factor new z ≡ true) (is ∙ sym (ap (name_of file) e) ∙ named) updates.1
      ]

  -- a set that got the name of the next section
  pub name_added : (new : BTreeSet Key) → AreDistinct file i → is_debug_name name ≡ true → not (has_name factor old name) ≡ true → Updates compare_keys old new (key_of factor name) true → HoldsNames factor file (i + 1) new × AreDistinct file (i + 1)
  name_added new distinct debug added updates = (held_after new debug updates, apart)
    where
      apart : AreDistinct file (i + 1)
      apart k j less within debug_too same = elim (cases_lt j i) [
        | inl before ↦ distinct k j less before debug_too same
        | inr rest ↦
            let e : j ≡ i = omega arith in
            was_false (has_name factor old name) added ((holds name).1 (k, omega arith, debug, same ∙ ap (name_of file) e ∙ sym is))
      ]

  -- the next section has no debug name
  pub name_passed : AreDistinct file i → is_debug_name name ≡ false → HoldsNames factor file (i + 1) old × AreDistinct file (i + 1)
  name_passed distinct plain = (held, apart)
    where
      no : (j : ℕ) → j ≡ i → is_debug_name (name_of file j) ≡ true → ⊥
      no j e debug = true≢false (sym debug ∙ ap (λ (k : ℕ). is_debug_name (name_of file k)) e ∙ ap is_debug_name (sym is) ∙ plain)

      held : HoldsNames factor file (i + 1) old
      held other = (
        λ it. let before = (holds other).0 it in (before.0, omega (arith, before.1), before.2, before.3),
        λ (k, below, debug, named). elim (cases_lt k i) [
          | inl before ↦ (holds other).1 (k, before, debug, named)
          | inr rest ↦ absurd (no k (omega arith) (subst (λ (z : List ℕ). is_debug_name z ≡ true) (sym named) debug))
        ],
      )

      apart : AreDistinct file (i + 1)
      apart k j less within debug same = elim (cases_lt j i) [
        | inl before ↦ distinct k j less before debug same
        | inr rest ↦ no j (omega arith) debug
      ]

-- Numbers are marked in order, and the first one that was marked before is that of two things.
use Rattle.std.proofs.Common.{◌≡◌, ◌≢◌, ◌<◌, ◌+◌, ◌⊎◌, inl, inr, ◌∙◌, ℕ, List, length, get_or, set, sym, ap, subst, arith, true≢false}
use Rattle.std.specs.Prelude.{Bool, true, false, slice_index}
use Rattle.std.proofs.lemmas.Bool.{cases_lt, cases_eq}
use Rattle.std.proofs.lemmas.List.{get_or-set_same, get_or-set_other}
use Rattle.tidy_tables.specs.inside.Namers.{AreWrittenAsOne}

-- Of the first so many numbers, each is marked, and only these are; no two of them are one.
pub record AreMarked (numbers : List ℕ) (count : ℕ) (marks : List Bool) : Type 0 where
  pub taken : (number : ℕ) → get_or marks number false ≡ true → (k : ℕ) × (k < count) × (slice_index numbers k ≡ number)
  pub takes : (k : ℕ) → k < count → get_or marks (slice_index numbers k) false ≡ true
  pub apart : (i j : ℕ) → i < j → j < count → slice_index numbers i ≢ slice_index numbers j

pub none_marked : (numbers : List ℕ) (marks : List Bool) → ((number : ℕ) → get_or marks number false ≡ false) → AreMarked numbers 0 marks
none_marked numbers marks unmarked = record {
  taken = λ number is. absurd (true≢false (sym is ∙ unmarked number));
  takes = λ k less. absurd (omega arith);
  apart = λ i j less below. absurd (omega arith);
}

marked_before : (marks : List Bool) (number other : ℕ) → get_or (set marks number true) other false ≡ true → (other ≡ number) ⊎ (get_or marks other false ≡ true)
marked_before marks number other is = elim (cases_eq other number) [
  | inl same ↦ inl same
  | inr apart ↦ inr (sym (get_or-set_other marks number other true false apart) ∙ is)
]

-- a number more that wasn't marked
pub marked_more : (numbers : List ℕ) (count number : ℕ) (marks : List Bool) → number ≡ slice_index numbers count → number < length marks → get_or marks number false ≡ false → AreMarked numbers count marks → AreMarked numbers (count + 1) (set marks number true)
marked_more numbers count number marks number_is inside unmarked are = record {
  taken = λ other marked. elim (marked_before marks number other marked) [
    | inl same ↦ (count, omega arith, sym number_is ∙ sym same)
    | inr before ↦ let (k, less, is) = are.taken other before in (k, omega arith, is)
  ];
  takes = λ k less. elim (cases_eq (slice_index numbers k) number) [
    | inl same ↦ subst (λ (z : ℕ). get_or (set marks number true) z false ≡ true) (sym same) (get_or-set_same marks number true false inside)
    | inr other ↦ get_or-set_other marks number (slice_index numbers k) true false other ∙ are.takes k (earlier k less other)
  ];
  apart = λ i j less below. elim (cases_eq j count) [
    | inl last ↦ λ same. true≢false (sym (are.takes i (omega arith)) ∙ ap (λ (z : ℕ). get_or marks z false) (same ∙ ap (λ (z : ℕ). slice_index numbers z) last ∙ sym number_is) ∙ unmarked)
    | inr before ↦ are.apart i j less (let o : j ≢ count = before in omega arith)
  ];
}
  where
    earlier : (k : ℕ) → k < count + 1 → slice_index numbers k ≢ number → k < count
    earlier k less other = elim (cases_lt k count) [
      | inl before ↦ before
      | inr behind ↦ (let last : k ≡ count = omega arith in absurd (other (ap (λ (z : ℕ). slice_index numbers z) last ∙ sym number_is)))
    ]

-- one that was marked is that of an earlier thing too
pub marked_twice : (numbers : List ℕ) (count number : ℕ) (marks : List Bool) → number ≡ slice_index numbers count → count < length numbers → get_or marks number false ≡ true → AreMarked numbers count marks → AreWrittenAsOne numbers
marked_twice numbers count number marks number_is inside marked are =
    let (k, less, is) = are.taken number marked in
    (k, count, less, inside, is ∙ number_is)

-- none is that of two things
pub never_twice : (numbers : List ℕ) (marks : List Bool) → AreMarked numbers (length numbers) marks → AreWrittenAsOne numbers → ⊥
never_twice numbers marks are (i, j, less, below, same) = are.apart i j less below same

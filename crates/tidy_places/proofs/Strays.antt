-- The first byte that is amiss between or behind parts that stand where they are due.
use Rattle.std.proofs.Common.{◌≤◌, ◌<◌, ◌⊎◌, inl, inr, ℕ, List, length, arith}
use Rattle.std.specs.Prelude.{Option, None, Some}
use Rattle.tidy_places.specs.declared.due.Due.{Due}
use Rattle.tidy_places.specs.Firsts.{IsLeastPlace, IsLeastFound}
use Rattle.tidy_places.specs.inside.Chains.{AreDue, IsFilledBetween, IsFilledAmong}
use Rattle.tidy_places.proofs.Gaps.{filled_to}

module _ (file : List ℕ) (start : ℕ) (sections : List Due) (end headers last : ℕ) (due : AreDue file start sections end) (order : end ≤ headers) (later : headers ≤ last) where
  abbrev pub Stray : ℕ → Type 0
  Stray p = IsFilledAmong file start sections p ⊎ (IsFilledBetween file end headers p ⊎ ((last ≤ p) × (p < length file)))

  pub stray_among : (p : ℕ) → IsLeastPlace (IsFilledAmong file start sections) p → IsLeastPlace Stray p
  stray_among p (here, first) =
      let low : p < end = filled_to file start sections end p due here in (
        inl here,
        λ q less stray. elim stray [
          | inl among ↦ first q less among
          | inr (inl (from, to, other)) ↦ omega (arith, low, less, from)
          | inr (inr (past, inside)) ↦ omega (arith, low, less, past, order, later)
        ],
      )

  pub stray_between : ((q : ℕ) → IsFilledAmong file start sections q → ⊥) → (p : ℕ) → IsLeastPlace (IsFilledBetween file end headers) p → IsLeastPlace Stray p
  stray_between none p ((from, to, other), first) = (
    inr (inl (from, to, other)),
    λ q less stray. elim stray [
      | inl among ↦ none q among
      | inr (inl between) ↦ first q less between
      | inr (inr (past, inside)) ↦ omega (arith, less, to, past, later)
    ],
  )

  pub stray_behind : ((q : ℕ) → IsFilledAmong file start sections q → ⊥) → ((q : ℕ) → IsFilledBetween file end headers q → ⊥) → (found : Option ℕ) → IsLeastFound (λ p. (last ≤ p) × (p < length file)) found → IsLeastFound Stray found
  stray_behind none clear None nothing = λ q stray. elim stray [
    | inl among ↦ none q among
    | inr (inl between) ↦ clear q between
    | inr (inr past) ↦ nothing q past
  ]
  stray_behind none clear (Some p) (past, first) = (
    inr (inr past),
    λ q less stray. elim stray [
      | inl among ↦ none q among
      | inr (inl between) ↦ clear q between
      | inr (inr more) ↦ first q less more
    ],
  )

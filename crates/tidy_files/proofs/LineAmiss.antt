-- What is amiss with the line number programs, by what the classes have.
use Rattle.std.proofs.Common.{◌≡◌, ◌∙◌, inl, inr, ℕ, List, sym}
use Rattle.std.specs.Prelude.{Option, true, false}
use Rattle.std.proofs.lemmas.Bool.{true≢false}
use Rattle.dw_base.specs.declared.classes.Classes.{Classes}
use Rattle.tidy_places.specs.Firsts.{IsLeastFound}
use Rattle.tidy_numbers.proofs.EarlierPlaces.{least_same}
use Rattle.tidy_files.specs.Tidy.{IsOtherProgram, IsOtherLineByte, IsLineAmiss}

module _ (classes : Classes) (file written : List ℕ) where
  -- where they are searched for the least
  pub searched_found : classes.lines ≡ true → (found : Option ℕ) → IsLeastFound (IsOtherProgram written) found → IsLeastFound (IsLineAmiss classes file written) found
  searched_found searched = least_same (IsOtherProgram written) (IsLineAmiss classes file written) (λ p other. inl (searched, other)) down
    where
      down : (p : ℕ) → IsLineAmiss classes file written p → IsOtherProgram written p
      down p (inl (also, other)) = other
      down p (inr (kept, other)) = absurd (true≢false (sym searched ∙ kept))

  -- and where they are kept
  pub kept_found : classes.lines ≡ false → (found : Option ℕ) → IsLeastFound (IsOtherLineByte file written) found → IsLeastFound (IsLineAmiss classes file written) found
  kept_found kept = least_same (IsOtherLineByte file written) (IsLineAmiss classes file written) (λ p other. inr (kept, other)) down
    where
      down : (p : ℕ) → IsLineAmiss classes file written p → IsOtherLineByte file written p
      down p (inl (searched, other)) = absurd (true≢false (sym searched ∙ kept))
      down p (inr (also, other)) = other

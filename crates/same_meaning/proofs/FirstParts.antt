-- The first contribution by which two files differ.
use Rattle.std.proofs.Common.{◌≡◌, ◌≢◌, ◌≤◌, ◌<◌, ◌+◌, ◌∙◌, inl, inr, ℕ, min, Bool, true, false, List, length, sym, ap, subst, arith}
use Rattle.std.specs.Prelude.{◌↔◌, IsTrue}
use Rattle.std.proofs.lemmas.Bool.{cases_lt}
use Rattle.list_model.specs.declared.contribution.Contribution.{Contribution}
use Rattle.list_model.specs.declared.entry.ListKind.{ListKind}
use Rattle.value_links.specs.World.{World, contributions_held}
use Rattle.value_links.specs.Debug.{Debug, parts_of, Means}
use Rattle.value_links.specs.Laws.{OneReading, OneDebug}
use Rattle.same_meaning.specs.Differences.{DifferAt}
use Rattle.same_meaning.specs.inside.Compared.{IsSomeWorld, OfBoth, OfMeanings, IsFirst}
use Rattle.same_meaning.proofs.PartMeanings.{SameParts, means_as, missing_first, missing_second, part_differs, part_agrees, past_agrees}

module _ (one : OneReading) (law : OneDebug) (a b : World) (some : IsSomeWorld a) (other : IsSomeWorld b) (kind : ListKind) where
  -- the contributions before one mean the same
  abbrev pub Earlier : ℕ → Type 0
  Earlier n = (k : ℕ) → k < n → OfBoth a b (λ r s. SameParts r s kind k)

  abbrev old_parts : ℕ
  old_parts = length (contributions_held a kind)

  abbrev new_parts : ℕ
  new_parts = length (contributions_held b kind)

  pub earlier_more : (n : ℕ) → Earlier n → (same : Bool) → same ≡ true → OfBoth a b (λ r s. IsTrue same ↔ SameParts r s kind n) → Earlier (n + 1)
  earlier_more n before same passes test = λ k inside. elim (cases_lt k n) [
    | inl less ↦ before k less
    | inr past ↦ (λ r s read holds again held. (let here : n ≡ k = omega (arith, inside, past) in subst (λ (z : ℕ). SameParts r s kind z) here ((test r s read holds again held).0 passes)))
  ]

  module _ (c d : Debug) (means : Means a.image c) (means_too : Means b.image d) where
    old_count : length (parts_of c kind) ≡ old_parts
    old_count =
        let (reach, is) = some in
        ((means_as one a reach is c means).lists kind).count ∙ sym (ap (λ (z : List Contribution). length z) (is.holds.contributions kind))

    new_count : length (parts_of d kind) ≡ new_parts
    new_count =
        let (reach, is) = other in
        ((means_as one b reach is d means_too).lists kind).count ∙ sym (ap (λ (z : List Contribution). length z) (is.holds.contributions kind))

    agree : (k : ℕ) → k < old_parts → k < new_parts → OfBoth a b (λ r s. SameParts r s kind k) → DifferAt (parts_of c kind) (parts_of d kind) k → ⊥
    agree k inside known same =
        let (reach, is) = some in
        let (range, was) = other in
        part_agrees law a.image b.image is.r was.r is.read was.read c d (means_as one a reach is c means) (means_as one b range was d means_too) kind k (omega (arith, inside, old_count)) (omega (arith, known, new_count))
        (same is.r was.r is.read is.holds was.read was.holds)

    differ : (k : ℕ) → k < old_parts → k < new_parts → (same : Bool) → same ≡ false → OfBoth a b (λ r s. IsTrue same ↔ SameParts r s kind k) → DifferAt (parts_of c kind) (parts_of d kind) k
    differ k inside known same fails test =
        let (reach, is) = some in
        let (range, was) = other in
        part_differs law a.image b.image is.r was.r is.read was.read c d (means_as one a reach is c means) (means_as one b range was d means_too) kind k (omega (arith, inside, old_count)) (omega (arith, known, new_count))
        (λ parts. (let passes : same ≡ true = (test is.r was.r is.read is.holds was.read was.holds).1 parts in cc))

    none_left : old_parts ≡ new_parts → (k : ℕ) → old_parts ≤ k → DifferAt (parts_of c kind) (parts_of d kind) k → ⊥
    none_left count k past =
        let (reach, is) = some in
        let (range, was) = other in
        past_agrees law a.image b.image is.r was.r is.read was.read c d (means_as one a reach is c means) (means_as one b range was d means_too) kind k (omega (arith, count, old_count, new_count)) (omega (arith, past, old_count))

    left_over : (n : ℕ) → n ≡ min old_parts new_parts → old_parts ≢ new_parts → DifferAt (parts_of c kind) (parts_of d kind) n
    left_over n is_least apart =
        let (reach, is) = some in
        let (range, was) = other in
        elim (cases_lt old_parts new_parts) [
          | inl less ↦ missing_first law a.image b.image is.r was.r is.read was.read c d (means_as one a reach is c means) (means_as one b range was d means_too) kind n (omega (arith, is_least, less, old_count)) (omega (arith, is_least, less, new_count))
          | inr more ↦ missing_second law a.image b.image is.r was.r is.read was.read c d (means_as one a reach is c means) (means_as one b range was d means_too) kind n (omega (arith, is_least, more, apart, new_count)) (omega (arith, is_least, more, apart, old_count))
        ]

  -- it is the first one that differs
  pub first_differs : (n : ℕ) → n < min old_parts new_parts → Earlier n → (same : Bool) → same ≡ false → OfBoth a b (λ r s. IsTrue same ↔ SameParts r s kind n) → OfMeanings a b (λ c d. IsFirst (DifferAt (parts_of c kind) (parts_of d kind)) n)
  first_differs n inside before same fails test = λ c d means too. (
    differ c d means too n (omega (arith, inside)) (omega (arith, inside)) same fails test,
    λ j less. agree c d means too j (omega (arith, inside, less)) (omega (arith, inside, less)) (before j less),
  )

  -- or none does
  pub none_differs : (n : ℕ) → min old_parts new_parts ≤ n → old_parts ≡ new_parts → Earlier n → OfMeanings a b (λ c d. (i : ℕ) → DifferAt (parts_of c kind) (parts_of d kind) i → ⊥)
  none_differs n past count before = λ c d means too i. elim (cases_lt i old_parts) [
    | inl less ↦ agree c d means too i less (omega (arith, less, count)) (before i (omega (arith, less, past, count)))
    | inr more ↦ none_left c d means too count i more
  ]

  -- or only one file has it
  pub left_differs : (n m : ℕ) → m ≡ min old_parts new_parts → m ≤ n → old_parts ≢ new_parts → Earlier n → OfMeanings a b (λ c d. IsFirst (DifferAt (parts_of c kind) (parts_of d kind)) m)
  left_differs n m is past apart before = λ c d means too. (
    left_over c d means too m is apart,
    λ j less. agree c d means too j (omega (arith, is, less)) (omega (arith, is, less)) (before j (omega (arith, less, past))),
  )

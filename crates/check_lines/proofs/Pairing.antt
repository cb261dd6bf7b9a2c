-- Pairs, and the places of line_base under each line_range.
use Rattle.std.proofs.Common.{◌≡◌, ◌≤◌, ◌<◌, ◌+◌, ◌-◌, ◌*◌, ◌/◌, ◌%◌, ◌∙◌, ℕ, List, take, drop, get_or, sym, ap, subst, arith, inl, inr}
use Rattle.std.specs.Prelude.{ℤ, pos, ◌-ℤ◌}
use Rattle.std.proofs.lemmas.Bool.{cases_lt}
use Rattle.std.proofs.lemmas.List.{get_or-take, get_or-drop}
use Rattle.line_sums.specs.declared.count.CountedStep.{CountedStep}
use Rattle.line_sums.specs.Accepted.{IsAccepted, pair_base, pair_range}
use Rattle.line_sums.specs.Sums.{base_at}
use Rattle.check_lines.specs.inside.Looking.{IsFirstNumber, IsFirstPlace, IsNumberAccepted, IsPlaceAccepted}

module _ (scale bytes : ℕ) (counted : List CountedStep) (numbers : List ℕ) (below : ℕ) where
  abbrev Own : List ℕ
  Own = take 256 (drop (256 * below) numbers)

  -- what is accepted under a line_range is accepted of the pair, and the other way round
  module _ (place : ℕ) (lt : place < 256) where
    same_base : pair_base (256 * below + place) ≡ base_at place
    same_base = ap (λ (z : ℕ). pos z -ℤ pos 128) (let e : (256 * below + place) % 256 ≡ place = omega arith in e)

    same_range : pair_range (256 * below + place) ≡ below + 1
    same_range = let e : (256 * below + place) / 256 + 1 ≡ below + 1 = omega arith in e

    same_number : get_or Own place 0 ≡ get_or numbers (256 * below + place) 0
    same_number = get_or-take 256 (drop (256 * below) numbers) place 0 lt ∙ get_or-drop (256 * below) numbers place 0

    to_pair : IsPlaceAccepted (below + 1) scale bytes counted Own place → IsNumberAccepted scale bytes counted numbers (256 * below + place)
    to_pair a =
        subst (λ (z : ℤ). IsAccepted z (pair_range (256 * below + place)) scale 0 bytes counted (get_or numbers (256 * below + place) 0)) (sym same_base) (
        subst (λ (z : ℕ). IsAccepted (base_at place) z scale 0 bytes counted (get_or numbers (256 * below + place) 0)) (sym same_range) (
        subst (λ (z : ℕ). IsAccepted (base_at place) (below + 1) scale 0 bytes counted z) same_number a))

    from_pair : IsNumberAccepted scale bytes counted numbers (256 * below + place) → IsPlaceAccepted (below + 1) scale bytes counted Own place
    from_pair a =
        subst (λ (z : ℕ). IsAccepted (base_at place) (below + 1) scale 0 bytes counted z) (sym same_number) (
        subst (λ (z : ℕ). IsAccepted (base_at place) z scale 0 bytes counted (get_or numbers (256 * below + place) 0)) same_range (
        subst (λ (z : ℤ). IsAccepted z (pair_range (256 * below + place)) scale 0 bytes counted (get_or numbers (256 * below + place) 0)) same_base a))

  -- the pairs up to the first place that is refused under the line_range
  pub before_place : (failed : ℕ) → ((pair : ℕ) → pair < 256 * below → IsNumberAccepted scale bytes counted numbers pair) → IsFirstPlace (below + 1) scale bytes counted Own failed → (pair : ℕ) → pair < 256 * below + failed → IsNumberAccepted scale bytes counted numbers pair
  before_place failed before f pair lt =
      let within : failed ≤ 256 = f.within in
      elim (cases_lt pair (256 * below)) [
        | inl less ↦ before pair less
        | inr more ↦
            let e : 256 * below + (pair - 256 * below) ≡ pair = omega arith in
            let small : pair - 256 * below < failed = omega arith in
            subst (λ (z : ℕ). IsNumberAccepted scale bytes counted numbers z) e (to_pair (pair - 256 * below) (omega arith) (f.good (pair - 256 * below) small))
      ]

  -- a place that is refused is the first pair that is
  pub first_number : (failed : ℕ) → below < 255 → ((pair : ℕ) → pair < 256 * below → IsNumberAccepted scale bytes counted numbers pair) → IsFirstPlace (below + 1) scale bytes counted Own failed → failed < 256 → IsFirstNumber scale bytes counted numbers (256 * below + failed)
  first_number failed b before f lt = record {
    there = omega arith;
    refused = λ a. elim f.stop [ inl all ↦ absurd (omega arith) | inr bad ↦ bad (from_pair failed lt a) ];
    before = before_place failed before f;
  }

-- The verdict on a record, from the parts of what a slot is accepted by.
use Rattle.std.proofs.Common.{◌≡◌, ◌≤◌, ◌<◌, inl, inr, ℕ, min, List, length, get_or, subst, arith}
use Rattle.std.proofs.lemmas.Bool.{cases_lt}
use Rattle.leb_codec.specs.Layout.{SlotRow, step_count, ranks_by_slot, HoldsNumber, AcceptsSlot}
use Rattle.check_units.specs.Refused.{IsFirstRefused}
use Rattle.check_units.specs.inside.Checks.{IsFirstWithout, HasItsRanks}
use Rattle.check_units.specs.inside.Dealing.{AreDealt}
use Rattle.check_units.specs.inside.Growing.{IsSlotNeeded}
use Rattle.check_units.proofs.DealLaws.{steps_all}

module _ (rows : List SlotRow) (sizes ranks : List ℕ) where
  abbrev Accepts : ℕ → Type 0
  Accepts = AcceptsSlot rows sizes ranks

  -- the first slot that isn't accepted is the first that lacks a part
  pub first_of_parts : (count misdealt unneeded unheld : ℕ) → IsFirstWithout (HasItsRanks rows sizes ranks) count misdealt → IsFirstWithout (IsSlotNeeded rows (ranks_by_slot rows sizes ranks)) count unneeded → IsFirstWithout (HoldsNumber rows sizes) count unheld → IsFirstWithout Accepts count (min (min misdealt unneeded) unheld)
  first_of_parts count misdealt unneeded unheld dealt needed held =
      let first : ℕ = min (min misdealt unneeded) unheld in
      record {
        within = omega (arith, dealt.within);
        before = λ i less.
            let own = dealt.before i (omega (arith, less)) in
            record {
              there = own.there;
              rising = own.rising;
              needed = needed.before i (omega (arith, less));
              holds = held.before i (omega (arith, less));
            };
        fails = λ less accepts. elim (cases_lt unheld (min misdealt unneeded)) [
          | inl low ↦
              let e : first ≡ unheld = omega (arith, low) in
              held.fails (omega (arith, less, e)) (subst (HoldsNumber rows sizes) e accepts.holds)
          | inr high ↦ elim (cases_lt unneeded misdealt) [
            | inl low ↦
                let e : first ≡ unneeded = omega (arith, low, high) in
                needed.fails (omega (arith, less, e)) (subst (IsSlotNeeded rows (ranks_by_slot rows sizes ranks)) e accepts.needed)
            | inr up ↦
                let e : first ≡ misdealt = omega (arith, up, high) in
                dealt.fails (omega (arith, less, e)) (subst (HasItsRanks rows sizes ranks) e (record { there = accepts.there; rising = accepts.rising }))
          ]
        ];
      }

  module _ (first : ℕ) (is : IsFirstWithout Accepts (length rows) first) where
    pub refused_there : first < length rows → IsFirstRefused rows sizes ranks first
    refused_there less = inl (record { there = less; refused = is.fails less; before = is.before })

    pub all_accepted : length rows ≤ first → (i : ℕ) → i < length rows → Accepts i
    all_accepted all i inside = is.before i (omega (arith, all, inside))

  module _ (starts : List ℕ) (long : length sizes ≡ length rows) (dealt : AreDealt rows sizes (length ranks) starts) where
    pub ranks_left : get_or starts (length rows) 0 < length ranks → step_count rows sizes < length ranks
    ranks_left less = omega (arith, less, dealt.each (length rows) (omega arith), steps_all rows sizes long)

    pub no_ranks_left : length ranks ≤ get_or starts (length rows) 0 → length ranks ≤ step_count rows sizes
    no_ranks_left more = omega (arith, more, dealt.each (length rows) (omega arith), steps_all rows sizes long)

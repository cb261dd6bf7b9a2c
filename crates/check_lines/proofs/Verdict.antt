-- A record has one verdict, and it is told.
use Rattle.std.proofs.Common.{◌≡◌, ◌<◌, ◌-◌, ℕ, List, get_or, sym, subst, arith, inl, inr, refl}
use Rattle.std.specs.Prelude.{◌↔◌, Option, Some, None, MatchOption, IsNone, IfSome}
use Rattle.std.proofs.lemmas.Bool.{cases_lt}
use Rattle.dw_base.specs.declared.record.Run.{Run}
use Rattle.leb_codec.specs.Records.{AreRuns}
use Rattle.line_machine.specs.declared.head.Head.{Head}
use Rattle.line_machine.specs.declared.registers.Row.{Row}
use Rattle.line_sums.specs.declared.count.CountedStep.{CountedStep}
use Rattle.line_sums.specs.Accepted.{AreAcceptedRuns, IsPairAccepted, numbers_of}
use Rattle.line_sums.specs.Ordered.{AreOrdered}
use Rattle.line_sums.specs.Steps.{fixed_bytes, steps_of}
use Rattle.line_sums.proofs.Ordering.{one_order}
use Rattle.check_lines.specs.Laws.{OneVerdict}
use Rattle.check_lines.specs.Refused.{IsFirstRefused}
use Rattle.check_lines.specs.inside.Looking.{IsFirstNumber, IsNumberAccepted}

-- ONE VERDICT

-- what is accepted by some order of the steps is accepted by each
accepted_by : (head : Head) (rows : List Row) (size : ℕ) (runs : List Run) (counted : List CountedStep) → AreOrdered (steps_of rows) counted → AreAcceptedRuns head rows size runs → (pair : ℕ) → pair < 65280 → IsPairAccepted head rows size counted pair (get_or (numbers_of runs) pair 0)
accepted_by head rows size runs counted ordered a pair lt =
    subst (λ (z : List CountedStep). IsPairAccepted head rows size z pair (get_or (numbers_of runs) pair 0)) (one_order (steps_of rows) a.counted counted a.ordered ordered) (a.accepted pair lt)

apart : (head : Head) (rows : List Row) (size : ℕ) (runs : List Run) (pair : ℕ) → AreAcceptedRuns head rows size runs → IsFirstRefused head rows size runs pair → ⊥
apart head rows size runs pair a r = r.refused (accepted_by head rows size runs r.counted r.ordered a pair r.there)

-- the first of two pairs isn't refused
not_less : (head : Head) (rows : List Row) (size : ℕ) (runs : List Run) (pair other : ℕ) → IsFirstRefused head rows size runs pair → IsFirstRefused head rows size runs other → pair < other → ⊥
not_less head rows size runs pair other r q less =
    r.refused (subst (λ (z : List CountedStep). IsPairAccepted head rows size z pair (get_or (numbers_of runs) pair 0)) (one_order (steps_of rows) q.counted r.counted q.ordered r.ordered) (q.before pair less))

one_pair : (head : Head) (rows : List Row) (size : ℕ) (runs : List Run) (pair other : ℕ) → IsFirstRefused head rows size runs pair → IsFirstRefused head rows size runs other → pair ≡ other
one_pair head rows size runs pair other r q =
    elim (cases_lt pair other) [
      | inl less ↦ absurd (not_less head rows size runs pair other r q less)
      | inr more ↦ elim (cases_lt other pair) [ inl less ↦ absurd (not_less head rows size runs other pair q r less) | inr most ↦ omega arith ]
    ]

pub one_verdict : OneVerdict
one_verdict = record { apart = apart; one = one_pair }

-- THE VERDICT THAT IS TOLD

-- the numbers are those of the runs, and the bytes are the size less the bytes that no pair changes
module _ (head : Head) (rows : List Row) (size fixed bytes : ℕ) (runs : List Run) (counted : List CountedStep) (numbers : List ℕ) (is : fixed ≡ fixed_bytes head.stmt rows) (by : bytes ≡ size - fixed) (spread : numbers ≡ numbers_of runs) where
  add_fixed : (pair : ℕ) → IsNumberAccepted head.min bytes counted numbers pair → IsPairAccepted head rows size counted pair (get_or (numbers_of runs) pair 0)
  add_fixed pair a =
      subst (λ (z : List ℕ). IsPairAccepted head rows size counted pair (get_or z pair 0)) spread (record { within = a.within; enough = λ k h. omega (arith, a.enough k h, by, is) })

  take_fixed : (pair : ℕ) → IsPairAccepted head rows size counted pair (get_or (numbers_of runs) pair 0) → IsNumberAccepted head.min bytes counted numbers pair
  take_fixed pair given =
      let a = subst (λ (z : List ℕ). IsPairAccepted head rows size counted pair (get_or z pair 0)) (sym spread) given in
      record { within = a.within; enough = λ k h. omega (arith, a.enough k h, by, is) }

  abbrev Told : Option ℕ → Type 0
  Told refused = MatchOption refused ((pair : ℕ) → pair < 65280 → IsNumberAccepted head.min bytes counted numbers pair) (IsFirstNumber head.min bytes counted numbers)

  pub told_first : (refused : Option ℕ) → AreOrdered (steps_of rows) counted → Told refused → IfSome refused (IsFirstRefused head rows size runs)
  told_first None ordered told = tt
  told_first (Some pair) ordered told = record {
    counted = counted;
    ordered = ordered;
    there = told.there;
    refused = λ a. told.refused (take_fixed pair a);
    before = λ earlier less. add_fixed earlier (told.before earlier less);
  }

  pub told_accepted : (refused : Option ℕ) → AreOrdered (steps_of rows) counted → AreRuns runs → Told refused → IsNone refused ↔ AreAcceptedRuns head rows size runs
  told_accepted None ordered whole told = (λ _. record { counted = counted; ordered = ordered; whole = whole; accepted = λ pair lt. add_fixed pair (told pair lt) }, λ _. refl)
  told_accepted (Some pair) ordered whole told = (λ none. absurd (cc), λ a. absurd (apart head rows size runs pair a (told_first (Some pair) ordered told)))

-- Each base is in a run.
use Rattle.std.proofs.Common.{◌≡◌, ◌≤◌, ◌<◌, ◌+◌, ◌^◌, ℕ, zero, suc, List, length, sym, subst, arith, inl, inr}
use Rattle.std.proofs.lemmas.Bool.{cases_lt}
use Rattle.list_least.specs.declared.runs.Run.{Run}
use Rattle.list_least.specs.Tails.{run_at, GoDown, StartAtTop, IsIn}

seek : (runs : List Run) (base fuel i : ℕ) → i + fuel ≡ length runs → i < length runs → base ≤ (run_at runs i).upto → (j : ℕ) × IsIn runs j base
seek runs base zero i e lt upto = absurd (omega (arith, e, lt))
seek runs base (suc fuel) i e lt upto =
    elim (cases_lt (i + 1) (length runs)) [
      | inl more ↦ elim (cases_lt (run_at runs (i + 1)).upto base) [
        | inl below ↦ (i, record { inside = lt; upto = upto; beyond = λ l. below })
        | inr ge ↦ seek runs base fuel (i + 1) (omega (arith, e)) more ge
      ]
      | inr end ↦ (i, record { inside = lt; upto = upto; beyond = λ l. absurd (omega (arith, l, end)) })
    ]

pub covered : (runs : List Run) (base : ℕ) → StartAtTop runs → base < 2 ^ 64 → (j : ℕ) × IsIn runs j base
covered runs base top fits = seek runs base (length runs) 0 (omega arith) top.some (omega (arith, top.first, fits))

pub run_small : (runs : List Run) → StartAtTop runs → GoDown runs → (i : ℕ) → i < length runs → (run_at runs i).upto < 2 ^ 64
run_small runs top down zero lt = omega (arith, top.first)
run_small runs top down (suc i) lt =
    let e : suc i ≡ i + 1 = omega arith in
    subst (λ (z : ℕ). (run_at runs z).upto < 2 ^ 64) (sym e) (omega (arith, down i (omega (arith, lt)), run_small runs top down i (omega (arith, lt))))

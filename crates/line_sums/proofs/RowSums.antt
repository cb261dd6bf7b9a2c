-- Laws of the sums of a row's step.
use Rattle.std.proofs.Common.{◌≡◌, ◌≤◌, ◌<◌, ◌+◌, ◌*◌, ℕ, List, get_or, refl, sym, subst, arith, inl, inr}
use Rattle.std.specs.Prelude.{ℤ, pos, ◌+ℤ◌, ◌-ℤ◌, ◌≤ℤ◌}
use Rattle.std.specs.Int.{int_max}
use Rattle.std.proofs.lemmas.Int.{ints, int_max_is}
use Rattle.std.proofs.lemmas.Bool.{cases_lt}
use Rattle.leb_codec.specs.LineCosts.{IsLeastCost, AdvanceWithin, RowWithin}
use Rattle.line_sums.specs.declared.count.CountedStep.{CountedStep}
use Rattle.line_sums.specs.declared.step.Step.{Step}
use Rattle.line_sums.specs.declared.step.Step.TheVariants.{Row as RowStep, End as EndStep}
use Rattle.line_sums.specs.declared.sums.StepRun.{StepRun}
use Rattle.line_sums.specs.declared.window.Windows.{Windows}
use Rattle.line_sums.specs.Steps.{StepCosts}
use Rattle.line_sums.specs.Sums.{AddsCost, base_at}
use Rattle.line_sums.specs.inside.Windows.{AreWindows, IsStepRun, AddsRun}
use Rattle.line_sums.proofs.Prices.{end_least}

pub max_below : (x y z : ℤ) → x ≤ℤ z → y ≤ℤ z → int_max x y ≤ℤ z
max_below x y z low low' = omega (arith, ints, int_max_is x y)

-- the places of a run have its bytes added, and those before it have had theirs
pub run_more : (line left top low : ℤ) (count copy from to amount : ℕ) (w : Windows) (run : StepRun) (old mid new : List ℕ) →
    left ≡ line +ℤ pos 128 -ℤ pos from → top ≡ line +ℤ pos 128 → low ≡ run.low →
    IsStepRun left copy w run → run.bytes ≤ copy → amount ≡ count * run.bytes →
    ((place : ℕ) → place < to → low ≤ℤ (top -ℤ pos place)) →
    ((place : ℕ) → from ≤ place → place < to → get_or new place 0 ≡ get_or mid place 0 + amount) →
    ((place : ℕ) → place < from → get_or new place 0 ≡ get_or mid place 0) →
    ((place : ℕ) → from ≤ place → place < to → get_or mid place 0 ≡ get_or old place 0) →
    ((place : ℕ) → place < from → AddsRun line copy w count place (get_or old place 0) (get_or mid place 0)) →
    (place : ℕ) → place < to → AddsRun line copy w count place (get_or old place 0) (get_or new place 0)
run_more line left top low count copy from to amount w run old mid new left_is top_is low_is is few amount_is inside added kept rest before place h =
    elim (cases_lt place from) [
      | inl earlier ↦ rw (kept place earlier) (before place earlier)
      | inr later ↦
          let bottom = inside place h in
          record {
            run = run;
            right = record { least = λ base range scale line' d windows by_copy low' high. is.least base range scale line' d windows by_copy low' (omega (arith, ints, high, left_is)) };
            reached = omega (arith, ints, bottom, low_is, top_is);
            few = few;
            added = omega (arith, added place later h, rest place later h, amount_is);
          }
    ]

-- what is added by the bytes before each special opcode is what the step costs
pub run_adds : (range scale : ℕ) (line : ℤ) (distance count copy place old new : ℕ) (w : Windows) → AreWindows range scale distance w → IsLeastCost (RowWithin range scale line distance) copy → copy ≤ 18 → AddsRun line copy w count place old new → AddsCost (base_at place) range scale (record { step = RowStep line distance; count = count }) old new
run_adds range scale line distance count copy place old new w windows by_copy few adds = record {
  bytes = adds.run.bytes;
  least = adds.right.least (base_at place) range scale line distance windows by_copy adds.reached (omega (arith, ints));
  few = omega (arith, adds.few, few);
  added = adds.added;
}

pub end_adds : (base : ℤ) (range scale distance count a old new amount : ℕ) → IsLeastCost (AdvanceWithin range scale distance) a → a ≤ 11 → amount ≡ count * (3 + a) → new ≡ old + amount → AddsCost base range scale (record { step = EndStep distance; count = count }) old new
end_adds base range scale distance count a old new amount least few is add = record { bytes = 3 + a; least = end_least base range scale distance a (3 + a) least refl; few = omega arith; added = omega (arith, is, add) }

-- a counted step, told by its step
pub adds_as : (base : ℤ) (range scale : ℕ) (counted : CountedStep) (step : Step) (old new : ℕ) → counted.step ≡ step → AddsCost base range scale (record { step = step; count = counted.count }) old new → AddsCost base range scale counted old new
adds_as base range scale counted step old new is adds = record {
  bytes = adds.bytes;
  least = subst (λ (x : Step). IsLeastCost (StepCosts base range scale x) adds.bytes) (sym is) adds.least;
  few = adds.few;
  added = adds.added;
}

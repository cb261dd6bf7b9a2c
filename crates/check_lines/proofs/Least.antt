-- What acceptance shows.
use Rattle.std.proofs.Common.{◌≡◌, ◌≤◌, ◌<◌, ◌+◌, ◌-◌, ◌*◌, ◌/◌, ◌%◌, ◌∙◌, ℕ, List, take, drop, get_or, ap, subst, arith, inl, inr}
use Rattle.std.specs.Prelude.{ℤ, pos, neg_ℤ, ◌+ℤ◌, ◌-ℤ◌, ◌≤ℤ◌, nat_abs}
use Rattle.std.proofs.lemmas.Int.{ints}
use Rattle.line_machine.specs.Class.{IsPair}
use Rattle.line_sums.specs.declared.count.CountedStep.{CountedStep}
use Rattle.line_sums.specs.declared.step.Step.{Step}
use Rattle.line_sums.specs.declared.step.Step.TheVariants.{Row as RowStep, End as EndStep}
use Rattle.line_sums.specs.Accepted.{IsAccepted, numbers_of, pair_base, pair_range}
use Rattle.line_sums.specs.Counting.{CountedWithin, counted_price, row_bytes}
use Rattle.line_sums.specs.Steps.{StepCosts, fixed_bytes, steps_of}
use Rattle.line_sums.proofs.Bound.{no_shorter}
use Rattle.line_sums.proofs.Ordering.{ordered_counts}
use Rattle.line_sums.proofs.Prices.{within_counted, counted_split, counted_falls}
use Rattle.check_lines.specs.Laws.{AcceptedAreLeast, AcceptedTakeFewest}

-- no step costs less than the opcode that appends its row
costs_least : (base : ℤ) (range scale : ℕ) (s : Step) (n : ℕ) → StepCosts base range scale s n → row_bytes s ≤ n
costs_least base range scale (RowStep line distance) n (inl (a, w, le)) = omega (arith, le)
costs_least base range scale (RowStep line distance) n (inr (s, few, w)) = omega (arith, w.2)
costs_least base range scale (EndStep distance) n (a, w, le) = omega (arith, le)

-- the size is no more than what all steps cost under a pair by which it is accepted
bounded : (base : ℤ) (range scale fixed size : ℕ) (counted : List CountedStep) (number k : ℕ) → IsAccepted base range scale fixed size counted number → CountedWithin base range scale counted k → size ≤ fixed + k
bounded base range scale fixed size counted number k a w =
    let m = counted_price w.paid (take number counted) in
    let part : CountedWithin base range scale (take number counted) m = record { paid = w.paid; enough = w.enough; cost = omega arith } in
    let low = a.enough m part in
    let rest = counted_falls w.paid row_bytes (drop number counted) (λ s. costs_least base range scale s (w.paid s) (w.enough.each s)) in
    let split = counted_split w.paid counted number in
    omega (arith, low, rest, split, w.cost)

-- the number of a pair
record HasNumber (base : ℤ) (range : ℕ) (pair : ℕ) : Type 0 where
  there : pair < 65280
  base_is : pair_base pair ≡ base
  range_is : pair_range pair ≡ range

place_of : (base : ℤ) → neg_ℤ (pos 128) ≤ℤ base → base ≤ℤ pos 127 → (place : ℕ) × (place < 256) × (pos place -ℤ pos 128 ≡ base)
place_of base low high = (nat_abs (base +ℤ pos 128), omega (arith, ints), omega (arith, ints))

pair_of : (base : ℤ) (range : ℕ) → IsPair base range → (pair : ℕ) × HasNumber base range pair
pair_of base range is =
    let p = place_of base is.base_from is.base_to in
    let place : ℕ = p.0 in
    let small : place < 256 = p.1 in
    let low : 1 ≤ range = is.range_from in
    let high : range ≤ 255 = is.range_to in
    let e : ((range - 1) * 256 + place) % 256 ≡ place = omega arith in
    let f : ((range - 1) * 256 + place) / 256 + 1 ≡ range = omega arith in
    ((range - 1) * 256 + place, record { there = omega arith; base_is = ap (λ (z : ℕ). pos z -ℤ pos 128) e ∙ p.2; range_is = f })

pub accepted_take_fewest : AcceptedTakeFewest
accepted_take_fewest head rows size runs all base range n is within =
    let same = ordered_counts (steps_of rows) all.counted all.ordered in
    let steps = within_counted base range head.min (steps_of rows) all.counted n same within in
    let p = pair_of base range is in
    let number = get_or (numbers_of runs) p.0 0 in
    let a : IsAccepted (pair_base p.0) (pair_range p.0) head.min (fixed_bytes head.stmt rows) size all.counted number = all.accepted p.0 p.1.there in
    let own = subst (λ (z : ℕ). IsAccepted base z head.min (fixed_bytes head.stmt rows) size all.counted number) p.1.range_is (subst (λ (z : ℤ). IsAccepted z (pair_range p.0) head.min (fixed_bytes head.stmt rows) size all.counted number) p.1.base_is a) in
    bounded base range head.min (fixed_bytes head.stmt rows) size all.counted number n own steps

pub accepted_are_least : AcceptedAreLeast
accepted_are_least head rows size runs e small all is =
    let bound = no_shorter head rows e small is in
    let fewest = accepted_take_fewest head rows size runs all e.base e.range bound.0 is.pair bound.1 in
    omega (arith, fewest, bound.2)

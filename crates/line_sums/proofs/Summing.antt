-- Sums of the first counted steps.
use Rattle.std.proofs.Common.{◌≡◌, ◌≤◌, ◌<◌, ◌+◌, ◌-◌, ◌*◌, ◌^◌, ℕ, List, [], ◌∷◌, take, drop, get_or, length, refl, sym, subst, arith}
use Rattle.leb_codec.specs.LineCosts.{IsLeastCost}
use Rattle.line_sums.specs.declared.count.CountedStep.{CountedStep}
use Rattle.line_sums.specs.declared.step.Step.{Step}
use Rattle.line_sums.specs.declared.step.Step.TheVariants.{Row as RowStep, End as EndStep}
use Rattle.line_sums.specs.Counting.{CountedWithin, counted_price, count_of, row_bytes}
use Rattle.line_sums.specs.Sums.{AddsCost, AreSummed, base_at}
use Rattle.line_sums.proofs.Prices.{none_least, more_least, counted_more, counted_split, counted_falls, count_cost, count_part}

pub summed_none : (range scale : ℕ) (floor : Step → ℕ) (counted : List CountedStep) (sums : List ℕ) (rest : ℕ) → ((place : ℕ) → place < 256 → get_or sums place 0 ≡ 0) → rest ≡ counted_price floor counted → AreSummed range scale floor counted 0 sums rest
summed_none range scale floor counted sums rest none is = record {
  least = λ place h. let zero : get_or sums place 0 ≡ 0 = none place h in subst (λ (x : ℕ). IsLeastCost (CountedWithin (base_at place) range scale (take 0 counted)) x) (sym zero) (none_least (base_at place) range scale);
  few = λ place h. let zero : get_or sums place 0 ≡ 0 = none place h in omega arith;
  rest_is = is;
}

pub rest_more : (floor : Step → ℕ) (counted : List CountedStep) (i : ℕ) (d : CountedStep) → i < length counted → counted_price floor (drop i counted) ≡ (get_or counted i d).count * floor (get_or counted i d).step + counted_price floor (drop (i + 1) counted)
rest_more floor counted i d h = omega (arith, counted_split floor counted i, counted_split floor counted (i + 1), counted_more floor counted i d h)

pub summed_more : (range scale : ℕ) (floor : Step → ℕ) (counted : List CountedStep) (i : ℕ) (d : CountedStep) (sums new : List ℕ) (rest low : ℕ) → i < length counted → AreSummed range scale floor counted i sums rest → ((place : ℕ) → place < 256 → AddsCost (base_at place) range scale (get_or counted i d) (get_or sums place 0) (get_or new place 0)) → low ≡ (get_or counted i d).count * floor (get_or counted i d).step → AreSummed range scale floor counted (i + 1) new (rest - low)
summed_more range scale floor counted i d sums new rest low h is adds fall = record {
  least = λ place within. let add = adds place within in more_least (base_at place) range scale counted i d (get_or sums place 0) add.bytes (get_or new place 0) h (is.least place within) add.least add.added;
  few = λ place within.
      let add = adds place within in
      let cost = count_cost counted i d (get_or sums place 0) (get_or counted i d).count add.bytes 18 h refl (is.few place within) add.few in
      omega (arith, cost, add.added);
  rest_is = omega (arith, rest_more floor counted i d h, is.rest_is, fall);
}

thrice : (cs : List CountedStep) → counted_price (λ _. 3) cs ≡ 3 * count_of cs
thrice [] = refl
thrice (c ∷ cs) = omega (arith, thrice cs)

row_few : (s : Step) → row_bytes s ≤ 3
row_few (RowStep l d) = omega arith
row_few (EndStep d) = omega arith

all_few : (cs : List CountedStep) → counted_price row_bytes cs ≤ 3 * count_of cs
all_few cs = omega (arith, counted_falls (λ _. 3) row_bytes cs row_few, thrice cs)

pub last_few : (cs : List CountedStep) (i : ℕ) → counted_price row_bytes (drop i cs) ≤ 3 * count_of cs
last_few cs i = omega (arith, all_few (drop i cs), counted_split (λ _. 1) cs i)

pub first_few : (cs : List CountedStep) (i : ℕ) → counted_price row_bytes (take i cs) ≤ 3 * count_of cs
first_few cs i = omega (arith, all_few (take i cs), counted_split (λ _. 1) cs i)

-- the sums stay small
pub summed_small : (range scale : ℕ) (counted : List CountedStep) (i : ℕ) (sums : List ℕ) (rest : ℕ) → count_of counted < 2 ^ 32 → AreSummed range scale row_bytes counted i sums rest → (place : ℕ) → place < 256 → get_or sums place 0 + rest < 2 ^ 40
summed_small range scale counted i sums rest few is place within =
    omega (arith, is.few place within, is.rest_is, count_part counted i, last_few counted i)

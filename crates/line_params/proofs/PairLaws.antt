-- Laws of the search over the pairs.
use Rattle.std.proofs.Common.{◌≡◌, ◌≤◌, ◌<◌, ◌+◌, ◌*◌, ◌⊎◌, ◌∙◌, ℕ, List, take, drop, get_or, length, ap, sym, subst, arith, inl, inr}
use Rattle.std.specs.Prelude.{ℤ, pos, neg_ℤ, ◌+ℤ◌, ◌≤ℤ◌, nat_abs, ◌↔◌, Bool, true, false, IsTrue}
use Rattle.std.specs.Int.{from_bool}
use Rattle.std.proofs.lemmas.Int.{ints}
use Rattle.std.proofs.lemmas.Bool.{cases_lt, cases_eq}
use Rattle.std.proofs.lemmas.List.{take_all, drop_all}
use Rattle.leb_codec.specs.LineCosts.{IsLeastCost}
use Rattle.line_machine.specs.declared.head.Head.{Head}
use Rattle.line_machine.specs.Class.{IsPair, IsPairOf, ComesFirst}
use Rattle.line_sums.specs.declared.count.CountedStep.{CountedStep}
use Rattle.line_sums.specs.declared.step.Step.{Step}
use Rattle.line_sums.specs.Counting.{IsCounted, CountedWithin, counted_price, count_of, row_bytes}
use Rattle.line_sums.specs.Steps.{StepsWithin}
use Rattle.line_sums.specs.Sums.{AreSummed, IsFirstLeast, base_at}
use Rattle.line_sums.proofs.Prices.{number_or_not, count_part, all_least, within_counted, counted_within}
use Rattle.line_params.specs.declared.choice.Choice.{Choice}
use Rattle.line_params.specs.Pairs.{IsLeastPair}
use Rattle.line_params.specs.inside.PairSearch.{AreSums, IsTried, IsBestTried, MayCome, TakesPlace}
use Rattle.line_params.proofs.Numbering.{sum_low}

-- the place of a line_base
record IsPlaceOf (base : ℤ) (place : ℕ) : Type 0 where
  within : place < 256
  is : base ≡ base_at place

place_of : (base : ℤ) → neg_ℤ (pos 128) ≤ℤ base → base ≤ℤ pos 127 → (place : ℕ) × IsPlaceOf base place
place_of base low high = (nat_abs (base +ℤ pos 128), record { within = omega (arith, ints); is = omega (arith, ints) })

own_or_not : (head : Head) (base : ℤ) (range : ℕ) → IsPairOf head base range ⊎ (IsPairOf head base range → ⊥)
own_or_not head base range =
    elim (number_or_not base head.base) [
      | inl same ↦ elim (cases_eq range head.range) [ inl same' ↦ inl (same, same') | inr other ↦ inr (λ own. other own.1) ]
      | inr other ↦ inr (λ own. other own.0)
    ]

-- tried before the next range: tried before, or with this range
narrower : (head : Head) (range : ℕ) (b : ℤ) (r : ℕ) → IsTried head (range + 1) b r → IsTried head range b r ⊎ (r ≡ range)
narrower head range b r (inl own) = inl (inl own)
narrower head range b r (inr less) = elim (cases_lt r range) [ inl before ↦ inl (inr before) | inr same ↦ inr (omega arith) ]

-- n bytes under a line_base of the range aren't better than the choice
abbrev pub IsNoBetter : Head → ℕ → Choice → ℕ → ℕ → Type 0
IsNoBetter head range best place n = (best.bytes < n) ⊎ ((best.bytes ≤ n) × (MayCome head range best.pair → (range ≡ best.pair.range) × (best.pair.base ≤ℤ base_at place)))

-- a choice comes before a pair of a range that isn't better
comes_first : (head : Head) (range place n : ℕ) (best : Choice) (b : ℤ) (r : ℕ) → r ≡ range → b ≡ base_at place → n ≤ best.bytes → (IsPairOf head b r → ⊥) → IsNoBetter head range best place n → ComesFirst head best.pair.base best.pair.range b r
comes_first head range place n best b r same at few other (inl more) = absurd (omega arith)
comes_first head range place n best b r same at few other (inr low) =
    elim (own_or_not head best.pair.base best.pair.range) [
      | inl own ↦ inl own
      | inr not_own ↦
          elim (cases_lt best.pair.range range) [
            | inl before ↦ inr (other, inl (omega arith))
            | inr from ↦ (let first = low.1 (from, not_own) in inr (other, inr (omega (arith, first.0), omega (arith, ints, first.1, at))))
          ]
    ]

-- no pair with the range is better
pub kept : (head : Head) (counted : List CountedStep) (range : ℕ) (best : Choice) → IsBestTried head counted range best → ((place n : ℕ) → place < 256 → CountedWithin (base_at place) range head.min counted n → IsNoBetter head range best place n) → IsBestTried head counted (range + 1) best
kept head counted range best is low =
    let here : (b : ℤ) (r n : ℕ) → IsPair b r → r ≡ range → CountedWithin b r head.min counted n → (place : ℕ) × IsPlaceOf b place × IsNoBetter head range best place n =
    λ b r n pair same within.
    let place = place_of b pair.base_from pair.base_to in
    (place.0, place.1, low place.0 n place.1.within (subst (λ (x : ℤ). CountedWithin x range head.min counted n) place.1.is (subst (λ (x : ℕ). CountedWithin b x head.min counted n) same within))) in
    record {
      pair = is.pair;
      enough = is.enough;
      few = is.few;
      least = λ b r n pair tried within.
          elim (narrower head range b r tried) [
            | inl before ↦ is.least b r n pair before within
            | inr same ↦ elim (here b r n pair same within).2 [ inl more ↦ omega arith | inr enough ↦ enough.0 ]
          ];
      first = λ b r n pair tried within few.
          elim (narrower head range b r tried) [
            | inl before ↦ is.first b r n pair before within few
            | inr same ↦
                elim (own_or_not head b r) [
                  | inl own ↦ is.first b r n pair (inl own) within few
                  | inr other ↦
                      let place = here b r n pair same within in
                      comes_first head range place.0 n best b r same place.1.is few other place.2
                ]
          ];
    }

-- where all sums with the rest are past the bytes, and past more than those where a pair of the range may come first
pub left_kept : (head : Head) (counted : List CountedStep) (range index rest limit : ℕ) (best : Choice) (sums : List ℕ) (may : Bool) → IsTrue may ↔ MayCome head range best.pair → limit ≡ best.bytes + from_bool may → index ≤ length counted → AreSummed range head.min row_bytes counted index sums rest → ((place : ℕ) → place < 256 → limit ≤ get_or sums place 0 + rest) → IsBestTried head counted range best → IsBestTried head counted (range + 1) best
left_kept head counted range index rest limit best sums may is limit_is inside s past tried =
    kept head counted range best tried (λ place n lt within.
    let all : CountedWithin (base_at place) range head.min (take (length counted) counted) n = subst (λ (z : List CountedStep). CountedWithin (base_at place) range head.min z n) (sym (take_all (length counted) counted (omega arith))) within in
    let low = sum_low (base_at place) range head.min counted index (length counted) (get_or sums place 0) n inside (s.least place lt) all in
    let none : counted_price row_bytes (drop (length counted) counted) ≡ 0 = ap (counted_price row_bytes) (drop_all (length counted) counted (omega arith)) in
    let reached : limit ≤ n = omega (arith, low, none, s.rest_is, past place lt) in
    by_limit head range limit place n best may is limit_is reached)
  where
    by_limit : (head : Head) (range limit place n : ℕ) (best : Choice) (may : Bool) → IsTrue may ↔ MayCome head range best.pair → limit ≡ best.bytes + from_bool may → limit ≤ n → IsNoBetter head range best place n
    by_limit head range limit place n best true is limit_is reached = inl (omega arith)
    by_limit head range limit place n best false is limit_is reached = inr (omega arith, λ comes. let told = is.1 comes in absurd (cc))

-- the first of the least sums isn't better than the choice, and so no other is
pub none_better : (head : Head) (counted : List CountedStep) (range : ℕ) (best : Choice) (sums : List ℕ) (place bytes : ℕ) → AreSums range head.min counted sums → IsFirstLeast sums place → bytes ≡ get_or sums place 0 → ((best.bytes < bytes) ⊎ ((best.bytes ≡ bytes) × (MayCome head range best.pair → (range ≡ best.pair.range) × (best.pair.base ≤ℤ base_at place)))) → (other n : ℕ) → other < 256 → CountedWithin (base_at other) range head.min counted n → IsNoBetter head range best other n
none_better head counted range best sums place bytes are first is none other n h within =
    let sum = (are.each other h).least n within in
    let least = first.least other h in
    elim none [
      | inl more ↦ inl (omega arith)
      | inr same ↦
          elim (cases_lt best.bytes n) [
            | inl more ↦ inl more
            | inr few ↦ inr (
              omega (arith, same.0),
              λ comes. (
                  let at = same.1 comes in (
                    at.0,
                    elim (cases_lt other place) [
                      | inl lower ↦ let low = first.first other lower in absurd (omega (arith, same.0))
                      | inr high ↦ omega (arith, ints, at.1)
                    ],
                  )
                  ),
            )
          ]
    ]

-- then as few bytes as the choice's are needed under each line_base
pub none_fewer : (head : Head) (counted : List CountedStep) (range place : ℕ) (best : Choice) → ((other n : ℕ) → other < 256 → CountedWithin (base_at other) range head.min counted n → IsNoBetter head range best other n) → place < 256 → (n : ℕ) → CountedWithin (base_at place) range head.min counted n → best.bytes ≤ n
none_fewer head counted range place best none h n within = elim (none place n h within) [ inl more ↦ omega arith | inr enough ↦ enough.0 ]

-- a pair with the range takes the place of the choice
pub taken : (head : Head) (counted : List CountedStep) (range before : ℕ) (best next : Choice) (sums : List ℕ) (place : ℕ) → 1 ≤ range → range ≤ 255 → IsBestTried head counted before best → AreSums range head.min counted sums → place < 256 → TakesPlace head best next → next.pair.base ≡ base_at place → next.pair.range ≡ range → next.bytes ≡ get_or sums place 0 → IsBestTried head counted 1 next
taken head counted range before best next sums place some most is are inside better base_is range_is bytes_is =
    let enough = (are.each place inside).enough in
    record {
      pair = record { base_from = omega (arith, ints, base_is); base_to = omega (arith, ints, base_is); range_from = omega (arith, range_is); range_to = omega (arith, range_is) };
      enough = subst (λ (x : ℕ). CountedWithin next.pair.base next.pair.range head.min counted x) (sym bytes_is) (subst (λ (x : ℕ). CountedWithin next.pair.base x head.min counted (get_or sums place 0)) (sym range_is) (subst (λ (x : ℤ). CountedWithin x range head.min counted (get_or sums place 0)) (sym base_is) enough));
      few = omega (arith, bytes_is, are.few place inside);
      least = λ b r n pair tried within.
          let own = own_tried head b r pair tried in
          let low = is.least b r n pair (inl own) within in
          elim better [ inl less ↦ omega arith | inr same ↦ omega (arith, same.0) ];
      first = λ b r n pair tried within few.
          let own = own_tried head b r pair tried in
          let low = is.least b r n pair (inl own) within in
          elim better [
            | inl less ↦ absurd (omega arith)
            | inr same ↦ elim (is.first b r n pair (inl own) within (omega (arith, same.0))) [ inl chosen ↦ absurd (same.1 chosen) | inr later ↦ absurd (later.0 own) ]
          ];
    }
  where
    own_tried : (head : Head) (b : ℤ) (r : ℕ) → IsPair b r → IsTried head 1 b r → IsPairOf head b r
    own_tried head b r pair (inl own) = own
    own_tried head b r pair (inr less) = absurd (omega (arith, pair.range_from))

own_best : (head : Head) (counted : List CountedStep) (best : Choice) → IsPair head.base head.range → best.pair.base ≡ head.base → best.pair.range ≡ head.range → IsLeastCost (CountedWithin head.base head.range head.min counted) best.bytes → best.bytes ≤ 18 * count_of counted → IsBestTried head counted 1 best
own_best head counted best pair base_is range_is is few_is =
    let own : IsPairOf head best.pair.base best.pair.range = (base_is, range_is) in
    record {
      pair = rw (base_is, range_is) pair;
      enough = rw (base_is, range_is) is.enough;
      few = few_is;
      least = λ b r n pair tried within. elim tried [
        | inl same ↦ is.least n (subst (λ (x : ℕ). CountedWithin head.base x head.min counted n) same.1 (subst (λ (x : ℤ). CountedWithin x r head.min counted n) same.0 within))
        | inr less ↦ absurd (omega (arith, pair.range_from))
      ];
      first = λ b r n pair tried within few. inl own;
    }

-- the choice of the head's pair, whose bytes stand among the sums
pub own_sum : (head : Head) (counted : List CountedStep) (best : Choice) (sums totals : List ℕ) → IsPair head.base head.range → best.pair.base ≡ head.base → best.pair.range ≡ head.range → AreSums head.range head.min counted sums → ((place : ℕ) → place < 256 → get_or totals place 0 ≡ get_or sums place 0) → best.bytes ≡ get_or totals (nat_abs (head.base +ℤ pos 128)) 0 → IsBestTried head counted 1 best
own_sum head counted best sums totals pair base_is range_is are same bytes_is =
    let low = pair.base_from in
    let high = pair.base_to in
    let place = nat_abs (head.base +ℤ pos 128) in
    let within : place < 256 = omega (arith, ints) in
    let base : head.base ≡ base_at place = omega (arith, ints) in
    let at : best.bytes ≡ get_or sums place 0 = bytes_is ∙ same place within in
    own_best head counted best pair base_is range_is (subst (λ (x : ℕ). IsLeastCost (CountedWithin head.base head.range head.min counted) x) (sym at) (subst (λ (x : ℤ). IsLeastCost (CountedWithin x head.range head.min counted) (get_or sums place 0)) (sym base) (are.each place within))) (omega (arith, at, are.few place within))

pub all_tried : (head : Head) (steps : List Step) (counted : List CountedStep) (best : Choice) → IsCounted steps counted → IsBestTried head counted 256 best → IsLeastPair head steps best.pair
all_tried head steps counted best same is = record {
  pair = is.pair;
  bytes = best.bytes;
  enough = counted_within best.pair.base best.pair.range head.min steps counted best.bytes same is.enough;
  least = λ b r n pair within. is.least b r n pair (inr (omega (arith, pair.range_to))) (within_counted b r head.min steps counted n same within);
  first = λ b r pair within. is.first b r best.bytes pair (inr (omega (arith, pair.range_to))) (within_counted b r head.min steps counted best.bytes same within) (omega arith);
}

-- and its bytes are what the steps cost under its pair
pub least_bytes : (head : Head) (steps : List Step) (counted : List CountedStep) (best : Choice) → IsCounted steps counted → IsBestTried head counted 256 best → IsLeastCost (StepsWithin best.pair.base best.pair.range head.min steps) best.bytes
least_bytes head steps counted best same is = record {
  enough = counted_within best.pair.base best.pair.range head.min steps counted best.bytes same is.enough;
  least = λ n within. is.least best.pair.base best.pair.range n is.pair (inr (omega (arith, is.pair.range_to))) (within_counted best.pair.base best.pair.range head.min steps counted n same within);
}

pub filled_all : (range scale : ℕ) (floor : Step → ℕ) (counted : List CountedStep) (i : ℕ) (sums : List ℕ) (rest : ℕ) → length counted ≤ i → AreSummed range scale floor counted i sums rest → AreSums range scale counted sums
filled_all range scale floor counted i sums rest h is = record {
  each = λ place within. all_least (base_at place) range scale counted i (get_or sums place 0) h (is.least place within);
  few = λ place within. omega (arith, is.few place within, count_part counted i);
}

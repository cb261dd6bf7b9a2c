-- Laws of the least numbers that are accepted under one line_range.
use Rattle.std.proofs.Common.{◌≡◌, ◌≤◌, ◌<◌, ◌+◌, ◌/◌, ◌∙◌, ℕ, List, take, drop, get_or, length, max, min, refl, sym, ap, subst, arith, inl, inr}
use Rattle.std.specs.Prelude.{ℤ}
use Rattle.std.specs.Int.{IsPowerOfTwo}
use Rattle.std.proofs.lemmas.Bool.{cases_lt, eq-eqb, eqb-true}
use Rattle.std.proofs.lemmas.List.{take-take, take_all}
use Rattle.leb_codec.specs.LineCosts.{IsLeastCost}
use Rattle.line_sums.specs.declared.count.CountedStep.{CountedStep}
use Rattle.line_sums.specs.declared.step.Step.{Step}
use Rattle.line_sums.specs.declared.step.Step.TheVariants.{Row as RowStep, End as EndStep}
use Rattle.line_sums.specs.Steps.{StepCosts}
use Rattle.line_sums.specs.Counting.{CountedWithin, counted_price, row_bytes}
use Rattle.line_sums.specs.Sums.{AreSummed, base_at}
use Rattle.line_sums.specs.Accepted.{IsAccepted, IsCandidate, IsLeastNumber}
use Rattle.line_sums.proofs.Prices.{counted_falls, counted_split}
use Rattle.line_params.specs.inside.Numbers.{IsGiven, IsNumbered, IsRound, GivesOnce}
use Rattle.line_params.proofs.Powers.{power_from, power_to, next_least}

-- no step costs less than the opcode that appends its row
row_least : (base : ℤ) (range scale : ℕ) (s : Step) (n : ℕ) → StepCosts base range scale s n → row_bytes s ≤ n
row_least base range scale (RowStep line distance) n (inl (a, w, le)) = omega (arith, le)
row_least base range scale (RowStep line distance) n (inr (s, few, w)) = omega (arith, w.2)
row_least base range scale (EndStep distance) n (a, w, le) = omega (arith, le)

-- more steps that are summed up lower no sum of them and the rows of the others
pub sum_low : (base : ℤ) (range scale : ℕ) (counted : List CountedStep) (index number sum n : ℕ) → index ≤ number → IsLeastCost (CountedWithin base range scale (take index counted)) sum → CountedWithin base range scale (take number counted) n → sum + counted_price row_bytes (drop index counted) ≤ n + counted_price row_bytes (drop number counted)
sum_low base range scale counted index number sum n order least w =
    let some = take number counted in
    let paid = counted_split w.paid some index in
    let front : take index some ≡ take index counted = take-take index number counted order in
    let low : sum ≤ counted_price w.paid (take index counted) = least.least (counted_price w.paid (take index counted)) (record { paid = w.paid; enough = w.enough; cost = omega arith }) in
    let rest = counted_falls w.paid row_bytes (drop index some) (λ s. row_least base range scale s (w.paid s) (w.enough.each s)) in
    omega (arith, paid, ap (counted_price w.paid) front, ap (counted_price row_bytes) front, low, rest, w.cost, counted_split row_bytes some index, counted_split row_bytes counted index, counted_split row_bytes counted number)

-- NUMBERS THAT MAY BE GIVEN

round_candidate : (all index : ℕ) → index < all → IsRound index → IsCandidate all index
round_candidate all index lt (inl zero) = inl zero
round_candidate all index lt (inr power) = inr (inl (power, lt))

candidate_within : (all n : ℕ) → IsCandidate all n → n ≤ all
candidate_within all n (inl none) = omega arith
candidate_within all n (inr (inl (power, less))) = omega arith
candidate_within all n (inr (inr same)) = omega arith

-- the next power of two, or all
pub next_candidate : (index all power : ℕ) → 0 < index → IsPowerOfTwo power → IsCandidate all (min power all)
next_candidate index all power some is =
    elim (cases_lt power all) [
      | inl less ↦ (let e : min power all ≡ power = omega arith in inr (inl (eq-eqb _ 1 (power_to (min power all) (subst IsPowerOfTwo (sym e) is)), omega arith)))
      | inr high ↦ inr (inr (omega arith))
    ]

pub next_first : (index all power n : ℕ) → 0 < index → index < all → IsPowerOfTwo power → power / 2 < max 1 index → index ≤ n → IsCandidate all n → min power all ≤ n
next_first index all power n some less is near from (inl none) = absurd (omega arith)
next_first index all power n some less is near from (inr (inl (round, below))) = omega (arith, next_least index power n some is near from (power_from n (eqb-true _ 1 round)))
next_first index all power n some less is near from (inr (inr same)) = omega arith

-- THE NUMBERS OF A LINE_RANGE

module _ (range scale bytes : ℕ) (counted : List CountedStep) where
  abbrev Accepts : ℕ → ℕ → Type 0
  Accepts place number = IsAccepted (base_at place) range scale 0 bytes counted number

  -- where the sum and the rest are enough, more steps are too
  sum_accepts : (sums : List ℕ) (index rest place number : ℕ) → AreSummed range scale row_bytes counted index sums rest → index ≤ number → number ≤ length counted → place < 256 → bytes ≤ get_or sums place 0 + rest → Accepts place number
  sum_accepts sums index rest place number s order inside lt enough = record {
    within = inside;
    enough = λ n h. omega (arith, s.rest_is, sum_low (base_at place) range scale counted index number (get_or sums place 0) n order (s.least place lt) h);
  }

  sum_refuses : (sums : List ℕ) (index rest place : ℕ) → AreSummed range scale row_bytes counted index sums rest → place < 256 → get_or sums place 0 + rest < bytes → Accepts place index → ⊥
  sum_refuses sums index rest place s lt short a =
      let high = a.enough (get_or sums place 0) (s.least place lt).enough in
      omega (arith, high, s.rest_is)

  pub numbered_none : (place n : ℕ) → n ≡ length counted → IsNumbered range scale bytes counted 0 place n
  numbered_none place n e = inl (record { all = e; refused = λ m less. absurd (omega arith) })

  -- nothing below the next index is accepted, where nothing below this one is, and this one isn't if a record may have it
  next_refused : (index place : ℕ) → ((m : ℕ) → m < index → IsCandidate (length counted) m → Accepts place m → ⊥) → (IsCandidate (length counted) index → Accepts place index → ⊥) → (m : ℕ) → m < index + 1 → IsCandidate (length counted) m → Accepts place m → ⊥
  next_refused index place before this m less may a =
      elim (cases_lt m index) [
        | inl low ↦ before m low may a
        | inr high ↦
            let same : m ≡ index = omega arith in
            this (subst (λ (x : ℕ). IsCandidate (length counted) x) same may) (subst (λ (x : ℕ). Accepts place x) same a)
      ]

  -- a round index is given, where the total is large enough
  pub numbered_round : (sums : List ℕ) (index rest place total old new : ℕ) → AreSummed range scale row_bytes counted index sums rest → index < length counted → place < 256 → IsRound index → total ≡ get_or sums place 0 + rest → IsNumbered range scale bytes counted index place old → GivesOnce (length counted) index bytes total old new → IsNumbered range scale bytes counted (index + 1) place new
  numbered_round sums index rest place total old new s inside lt round is (inr g) (inl m) = absurd (omega (arith, g.less, m.0))
  numbered_round sums index rest place total old new s inside lt round is (inr g) (inr m) = inr (subst (λ (x : ℕ). IsGiven range scale bytes counted place x) (sym m.0) g)
  numbered_round sums index rest place total old new s inside lt round is (inl p) (inl m) =
      inr (subst (λ (x : ℕ). IsGiven range scale bytes counted place x) (sym m.2) (record {
        less = inside;
        least = record {
          candidate = round_candidate (length counted) index inside round;
          accepted = sum_accepts sums index rest place index s (omega arith) (omega arith) lt (omega (arith, m.1));
          least = λ k candidate a. elim (cases_lt k index) [ inl low ↦ absurd (p.refused k low candidate a) | inr high ↦ high ];
        };
      }))
  numbered_round sums index rest place total old new s inside lt round is (inl p) (inr m) =
      inl (record {
        all = m.0 ∙ p.all;
        refused = next_refused index place p.refused (λ _ a. elim m.1 [ inl other ↦ other p.all | inr short ↦ sum_refuses sums index rest place s lt (omega (arith, short)) a ]);
      })

  -- an index that isn't given
  pub numbered_skip : (index place n : ℕ) → index < length counted → (IsRound index → ⊥) → IsNumbered range scale bytes counted index place n → IsNumbered range scale bytes counted (index + 1) place n
  numbered_skip index place n inside other (inr g) = inr g
  numbered_skip index place n inside other (inl p) =
      inl (record {
        all = p.all;
        refused = next_refused index place p.refused (λ may a. elim may [
          | inl zero ↦ other (inl zero)
          | inr rest ↦ elim rest [ inl power ↦ other (inr power.0) | inr all ↦ omega arith ]
        ]);
      })

  -- what is known with one step more is known
  pub numbered_back : (index place n : ℕ) → IsNumbered range scale bytes counted (index + 1) place n → IsNumbered range scale bytes counted index place n
  numbered_back index place n (inr g) = inr g
  numbered_back index place n (inl p) = inl (record { all = p.all; refused = λ m less. p.refused m (omega arith) })

  -- the number from the index on that a record has is given, where the total is large enough
  pub numbered_left : (sums : List ℕ) (index rest place next total old new : ℕ) → AreSummed range scale row_bytes counted index sums rest → place < 256 → IsCandidate (length counted) next → index ≤ next → ((n : ℕ) → index ≤ n → IsCandidate (length counted) n → next ≤ n) → total ≡ get_or sums place 0 + rest → bytes ≤ total → IsNumbered range scale bytes counted index place old → GivesOnce (length counted) next bytes total old new → IsLeastNumber (base_at place) range scale 0 bytes counted new
  numbered_left sums index rest place next total old new s lt candidate from first is enough (inr g) (inl m) = absurd (omega (arith, g.less, m.0))
  numbered_left sums index rest place next total old new s lt candidate from first is enough (inr g) (inr m) = subst (λ (x : ℕ). IsLeastNumber (base_at place) range scale 0 bytes counted x) (sym m.0) g.least
  numbered_left sums index rest place next total old new s lt candidate from first is enough (inl p) (inl m) =
      subst (λ (x : ℕ). IsLeastNumber (base_at place) range scale 0 bytes counted x) (sym m.2) (record {
        candidate = candidate;
        accepted = sum_accepts sums index rest place next s from (candidate_within (length counted) next candidate) lt (omega arith);
        least = λ k may a. elim (cases_lt k index) [ inl low ↦ absurd (p.refused k low may a) | inr high ↦ first k high may ];
      })
  numbered_left sums index rest place next total old new s lt candidate from first is enough (inl p) (inr m) =
      absurd (elim m.1 [ inl other ↦ other p.all | inr short ↦ omega arith ])

  -- with all steps each is accepted under which they cost as much
  pub all_accepted : (place : ℕ) → ((n : ℕ) → CountedWithin (base_at place) range scale counted n → bytes ≤ n) → Accepts place (length counted)
  all_accepted place low = record {
    within = omega arith;
    enough = λ n h.
        let all : CountedWithin (base_at place) range scale counted n = subst (λ (z : List CountedStep). CountedWithin (base_at place) range scale z n) (take_all (length counted) counted (omega arith)) h in
        omega (arith, low n all);
  }

  -- and then it is the least number, where none below is
  pub numbered_all : (index place n : ℕ) → length counted ≤ index → Accepts place (length counted) → IsNumbered range scale bytes counted index place n → IsLeastNumber (base_at place) range scale 0 bytes counted n
  numbered_all index place n end full (inr g) = g.least
  numbered_all index place n end full (inl p) = subst (λ (x : ℕ). IsLeastNumber (base_at place) range scale 0 bytes counted x) (sym p.all) (record {
    candidate = inr (inr refl);
    accepted = full;
    least = λ k candidate a. elim (cases_lt k (length counted)) [ inl low ↦ absurd (p.refused k (omega arith) candidate a) | inr high ↦ high ];
  })

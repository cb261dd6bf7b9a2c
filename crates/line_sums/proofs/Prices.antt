-- Prices of steps: what is enough for steps one by one is enough for them counted, and the other way round.
use Rattle.std.proofs.Common.{◌≡◌, ◌≤◌, ◌<◌, ◌+◌, ◌*◌, ◌++◌, ◌⊎◌, ◌∙◌, ℕ, List, [], ◌∷◌, take, drop, get_or, length, refl, sym, ap, subst, arith, inl, inr, zero, suc}
use Rattle.std.specs.Prelude.{ℤ, pos, negsuc}
use Rattle.std.proofs.Math.Nat.{mul-le-mul}
use Rattle.std.proofs.lemmas.Bool.{cases_lt, cases_eq}
use Rattle.std.proofs.lemmas.List.{take_more, take_all}
use Rattle.leb_codec.specs.LineCosts.{IsLeastCost, AdvanceWithin, advance_line_bytes}
use Rattle.line_sums.specs.declared.count.CountedStep.{CountedStep}
use Rattle.line_sums.specs.declared.step.Step.{Step}
use Rattle.line_sums.specs.declared.step.Step.TheVariants.{Row as RowStep, End as EndStep}
use Rattle.line_sums.specs.Steps.{StepCosts, StepsWithin}
use Rattle.line_sums.specs.Counting.{price_of, counted_price, IsCounted, ArePrices, CountedWithin, count_of}

abbrev IsOrNot : Step → Step → Type 0
IsOrNot t s = (t ≡ s) ⊎ (t ≡ s → ⊥)

pub number_or_not : (y z : ℤ) → (y ≡ z) ⊎ (y ≡ z → ⊥)
number_or_not (pos m) (pos n) = elim (cases_eq m n) [ inl e ↦ inl (ap pos e) | inr other ↦ inr (λ e. other (cc)) ]
number_or_not (pos m) (negsuc n) = inr (λ e. cc)
number_or_not (negsuc m) (pos n) = inr (λ e. cc)
number_or_not (negsuc m) (negsuc n) = elim (cases_eq m n) [ inl e ↦ inl (ap negsuc e) | inr other ↦ inr (λ e. other (cc)) ]

step_or_not : (t s : Step) → IsOrNot t s
step_or_not (RowStep l d) (RowStep m e) =
    elim (number_or_not l m) [
      | inl same ↦ elim (cases_eq d e) [ inl same' ↦ inl (cc) | inr other ↦ inr (λ h. other (cc)) ]
      | inr other ↦ inr (λ h. other (cc))
    ]
step_or_not (RowStep l d) (EndStep e) = inr (λ h. cc)
step_or_not (EndStep d) (RowStep m e) = inr (λ h. cc)
step_or_not (EndStep d) (EndStep e) = elim (cases_eq d e) [ inl same ↦ inl (cc) | inr other ↦ inr (λ h. other (cc)) ]

-- the lower of a price and of an offer that may be for another step
abbrev pick : {t s : Step} → (offer price : ℕ) → IsOrNot t s → (price < offer) ⊎ (offer ≤ price) → ℕ
pick offer price (inr other) _ = price
pick offer price (inl same) (inl low) = price
pick offer price (inl same) (inr high) = offer

-- prices where one step has an offer
abbrev cheaper : ℕ → Step → (Step → ℕ) → Step → ℕ
cheaper offer s price t = pick offer (price t) (step_or_not t s) (cases_lt (price t) offer)

pick_le : {t s : Step} (offer price : ℕ) (is : IsOrNot t s) (low : (price < offer) ⊎ (offer ≤ price)) → pick offer price is low ≤ price
pick_le offer price (inr other) low = omega arith
pick_le offer price (inl same) (inl low) = omega arith
pick_le offer price (inl same) (inr high) = high

pick_self : {s : Step} (offer price : ℕ) (is : IsOrNot s s) (low : (price < offer) ⊎ (offer ≤ price)) → pick offer price is low ≤ offer
pick_self offer price (inr other) low = absurd (other refl)
pick_self offer price (inl same) (inl low) = omega arith
pick_self offer price (inl same) (inr high) = omega arith

pick_enough : (base : ℤ) (range scale : ℕ) (t s : Step) (offer price : ℕ) (is : IsOrNot t s) (low : (price < offer) ⊎ (offer ≤ price)) → StepCosts base range scale t price → StepCosts base range scale s offer → StepCosts base range scale t (pick offer price is low)
pick_enough base range scale t s offer price (inr other) low paid offered = paid
pick_enough base range scale t s offer price (inl same) (inl low) paid offered = paid
pick_enough base range scale t s offer price (inl same) (inr high) paid offered = subst (λ (x : Step). StepCosts base range scale x offer) (sym same) offered

cheaper_le : (offer : ℕ) (s : Step) (price : Step → ℕ) (t : Step) → cheaper offer s price t ≤ price t
cheaper_le offer s price t = pick_le offer (price t) (step_or_not t s) (cases_lt (price t) offer)

cheaper_self : (offer : ℕ) (s : Step) (price : Step → ℕ) → cheaper offer s price s ≤ offer
cheaper_self offer s price = pick_self offer (price s) (step_or_not s s) (cases_lt (price s) offer)

cheaper_enough : (base : ℤ) (range scale offer : ℕ) (s : Step) (price : Step → ℕ) → ArePrices base range scale price → StepCosts base range scale s offer → ArePrices base range scale (cheaper offer s price)
cheaper_enough base range scale offer s price paid offered = record { each = λ t. pick_enough base range scale t s offer (price t) (step_or_not t s) (cases_lt (price t) offer) (paid.each t) offered }

price_falls : (price lower : Step → ℕ) (steps : List Step) → ((s : Step) → lower s ≤ price s) → price_of lower steps ≤ price_of price steps
price_falls price lower [] low = omega arith
price_falls price lower (s ∷ ss) low = let rest = price_falls price lower ss low in let one = low s in omega arith

pub counted_falls : (price lower : Step → ℕ) (counted : List CountedStep) → ((s : Step) → lower s ≤ price s) → counted_price lower counted ≤ counted_price price counted
counted_falls price lower [] low = omega arith
counted_falls price lower (c ∷ cs) low =
    let rest = counted_falls price lower cs low in
    let one = mul-le-mul {n₁ = c.count} {m₁ = lower c.step} {n₂ = c.count} {m₂ = price c.step} (omega arith) (low c.step) in
    omega arith

-- a price that is enough for each step
abbrev most : Step → ℕ
most (RowStep line distance) = 1 + advance_line_bytes line + 11
most (EndStep distance) = 3 + 11

most_enough : (base : ℤ) (range scale : ℕ) (s : Step) → StepCosts base range scale s (most s)
most_enough base range scale (RowStep line distance) = inl (11, inl (omega arith), omega arith)
most_enough base range scale (EndStep distance) = (11, inl (omega arith), omega arith)

-- prices that are enough and with which steps cost at most n
record Paid (base : ℤ) (range scale : ℕ) (steps : List Step) (n : ℕ) : Type 0 where
  price : Step → ℕ
  enough : ArePrices base range scale price
  cost : price_of price steps ≤ n

within_paid : (base : ℤ) (range scale : ℕ) (steps : List Step) (n : ℕ) → StepsWithin base range scale steps n → Paid base range scale steps n
within_paid base range scale [] n _ = record { price = most; enough = record { each = most_enough base range scale }; cost = omega arith }
within_paid base range scale (s ∷ ss) n (a, b, one, more, sum) =
    let rest = within_paid base range scale ss b more in
    let self = cheaper_self a s rest.price in
    let falls = price_falls rest.price (cheaper a s rest.price) ss (cheaper_le a s rest.price) in
    record {
      price = cheaper a s rest.price;
      enough = cheaper_enough base range scale a s rest.price rest.enough one;
      cost = omega (arith, self, falls, rest.cost);
    }

paid_within : (base : ℤ) (range scale : ℕ) (steps : List Step) (price : Step → ℕ) (n : ℕ) → ArePrices base range scale price → price_of price steps ≤ n → StepsWithin base range scale steps n
paid_within base range scale [] price n paid cost = tt
paid_within base range scale (s ∷ ss) price n paid cost = (price s, price_of price ss, paid.each s, paid_within base range scale ss price (price_of price ss) paid (omega arith), cost)

pub within_counted : (base : ℤ) (range scale : ℕ) (steps : List Step) (counted : List CountedStep) (n : ℕ) → IsCounted steps counted → StepsWithin base range scale steps n → CountedWithin base range scale counted n
within_counted base range scale steps counted n same within =
    let paid = within_paid base range scale steps n within in
    record { paid = paid.price; enough = paid.enough; cost = omega (arith, same.same paid.price, paid.cost) }

pub counted_within : (base : ℤ) (range scale : ℕ) (steps : List Step) (counted : List CountedStep) (n : ℕ) → IsCounted steps counted → CountedWithin base range scale counted n → StepsWithin base range scale steps n
counted_within base range scale steps counted n same within =
    paid_within base range scale steps within.paid n within.enough (omega (arith, same.same within.paid, within.cost))

-- no counted steps cost nothing
pub none_least : (base : ℤ) (range scale : ℕ) → IsLeastCost (CountedWithin base range scale []) 0
none_least base range scale = record {
  enough = record { paid = most; enough = record { each = most_enough base range scale }; cost = omega arith };
  least = λ n within. omega arith;
}

pub counted_push : (price : Step → ℕ) (cs : List CountedStep) (c : CountedStep) → counted_price price (cs ++ c ∷ []) ≡ counted_price price cs + c.count * price c.step
counted_push price [] c = omega arith
counted_push price (d ∷ cs) c = let rest = counted_push price cs c in omega (arith, rest)

-- one counted step more
push_least : (base : ℤ) (range scale : ℕ) (cs : List CountedStep) (c : CountedStep) (sum bytes new : ℕ) → IsLeastCost (CountedWithin base range scale cs) sum → IsLeastCost (StepCosts base range scale c.step) bytes → new ≡ sum + c.count * bytes → IsLeastCost (CountedWithin base range scale (cs ++ c ∷ [])) new
push_least base range scale cs c sum bytes new before one is = record {
  enough =
      let paid = before.enough in
      let price = cheaper bytes c.step paid.paid in
      let falls = counted_falls paid.paid price cs (cheaper_le bytes c.step paid.paid) in
      let self = mul-le-mul {n₁ = c.count} {m₁ = price c.step} {n₂ = c.count} {m₂ = bytes} (omega arith) (cheaper_self bytes c.step paid.paid) in
      let push = counted_push price cs c in
      record {
        paid = price;
        enough = cheaper_enough base range scale bytes c.step paid.paid paid.enough one.enough;
        cost = omega (arith, falls, self, push, paid.cost, is);
      };
  least = λ n within.
      let price = within.paid in
      let push = counted_push price cs c in
      let low = before.least (counted_price price cs) (record { paid = price; enough = within.enough; cost = omega arith }) in
      let here = mul-le-mul {n₁ = c.count} {m₁ = bytes} {n₂ = c.count} {m₂ = price c.step} (omega arith) (one.least (price c.step) (within.enough.each c.step)) in
      omega (arith, push, low, here, within.cost, is);
}

pub more_least : (base : ℤ) (range scale : ℕ) (cs : List CountedStep) (i : ℕ) (d : CountedStep) (sum bytes new : ℕ) → i < length cs → IsLeastCost (CountedWithin base range scale (take i cs)) sum → IsLeastCost (StepCosts base range scale (get_or cs i d).step) bytes → new ≡ sum + (get_or cs i d).count * bytes → IsLeastCost (CountedWithin base range scale (take (i + 1) cs)) new
more_least base range scale cs i d sum bytes new h before one add =
    rw (take_more cs i d h) (push_least base range scale (take i cs) (get_or cs i d) sum bytes new before one add)

pub counted_split : (price : Step → ℕ) (cs : List CountedStep) (i : ℕ) → counted_price price (take i cs) + counted_price price (drop i cs) ≡ counted_price price cs
counted_split price [] zero = omega arith
counted_split price [] (suc i) = omega arith
counted_split price (c ∷ cs) zero = omega arith
counted_split price (c ∷ cs) (suc i) = let rest = counted_split price cs i in omega (arith, rest)

pub counted_more : (price : Step → ℕ) (cs : List CountedStep) (i : ℕ) (d : CountedStep) → i < length cs → counted_price price (take (i + 1) cs) ≡ counted_price price (take i cs) + (get_or cs i d).count * price (get_or cs i d).step
counted_more price cs i d h =
    rw (take_more cs i d h) (counted_push price (take i cs) (get_or cs i d))

-- the counts of some are no more than those of all
pub count_more : (cs : List CountedStep) (i : ℕ) (d : CountedStep) → i < length cs → count_of (take i cs) + (get_or cs i d).count ≤ count_of cs
count_more cs i d h = omega (arith, counted_more (λ _. 1) cs i d h, counted_split (λ _. 1) cs (i + 1))

pub end_least : (base : ℤ) (range scale distance a bytes : ℕ) → IsLeastCost (AdvanceWithin range scale distance) a → bytes ≡ 3 + a → IsLeastCost (StepCosts base range scale (EndStep distance)) bytes
end_least base range scale distance a bytes least is = record {
  enough = (a, least.enough, omega (arith, is));
  least = λ n within. omega (arith, is, least.least within.0 within.1, within.2);
}

pub count_cost : (cs : List CountedStep) (i : ℕ) (d : CountedStep) (sum count bytes most : ℕ) → i < length cs → count ≡ (get_or cs i d).count → sum ≤ most * count_of (take i cs) → bytes ≤ most → sum + count * bytes ≤ most * count_of (take (i + 1) cs)
count_cost cs i d sum count bytes most h is few low =
    let more = counted_more (λ _. 1) cs i d h in
    let here : count * bytes ≤ count * most = mul-le-mul {n₁ = count} {m₁ = bytes} {n₂ = count} {m₂ = most} (omega arith) low in
    let split : most * count_of (take (i + 1) cs) ≡ most * count_of (take i cs) + most * count = ap (λ x. most * x) more ∙ grind (arith, is) in
    omega (arith, here, split, few)

pub count_part : (cs : List CountedStep) (i : ℕ) → count_of (take i cs) ≤ count_of cs
count_part cs i = omega (arith, counted_split (λ _. 1) cs i)

pub all_least : (base : ℤ) (range scale : ℕ) (cs : List CountedStep) (i sum : ℕ) → length cs ≤ i → IsLeastCost (CountedWithin base range scale (take i cs)) sum → IsLeastCost (CountedWithin base range scale cs) sum
all_least base range scale cs i sum h least = rw (take_all i cs h) at least

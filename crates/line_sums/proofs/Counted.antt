-- Laws of counting steps.
use Rattle.std.proofs.Common.{◌≡◌, ◌≤◌, ◌<◌, ◌+◌, ◌-◌, ◌*◌, ◌∙◌, ℕ, zero, suc, List, [], ◌∷◌, drop, get_or, set, length, map, refl, sym, ap, subst, arith, add-one, true}
use Rattle.std.specs.Prelude.{ℤ, pos, IsPermutation, nat_eq}
use Rattle.std.specs.Ordering.{int_eq}
use Rattle.std.proofs.lemmas.Bool.{and_parts}
use Rattle.std.proofs.lemmas.Bool.Decides.{Decides-eqb, Decides-int_eq}
use Rattle.std.proofs.lemmas.List.{length-drop, drop_all}
use Rattle.std.proofs.lemmas.List.Recursion.{is_sum_by}
use Rattle.std.proofs.lemmas.List.Sorted.{sum_by-IsPermutation}
use Rattle.line_machine.specs.declared.registers.Row.{Row}
use Rattle.line_sums.specs.declared.count.CountedStep.{CountedStep}
use Rattle.line_sums.specs.declared.step.Step.{Step}
use Rattle.line_sums.specs.declared.step.Step.TheVariants.{Row as RowStep, End as EndStep}
use Rattle.line_sums.specs.contracts.step.StepPartialEq.TheImpl.{eq-value}
use Rattle.line_sums.specs.Steps.{steps_from, steps_of, step_to, line_left_by, address_left_by}
use Rattle.line_sums.specs.Counting.{price_of, counted_price, count_of, IsCounted, step_in}

-- the test that a set of steps asks
pub same_true : (s t : Step) → eq-value.it s t ≡ true → s ≡ t
same_true (RowStep l d) (RowStep m e) is =
    let parts = and_parts (int_eq l m) (nat_eq d e) is in
    let line = (Decides-int_eq l m).0 parts.0 in
    let distance = (Decides-eqb d e).0 parts.1 in
    cc
same_true (RowStep l d) (EndStep e) is = cc
same_true (EndStep d) (RowStep m e) is = cc
same_true (EndStep d) (EndStep e) is = let distance = (Decides-eqb d e).0 is in cc

pub counted_set : (price : Step → ℕ) (cs : List CountedStep) (i : ℕ) (d c : CountedStep) → i < length cs → counted_price price (set cs i c) + (get_or cs i d).count * price (get_or cs i d).step ≡ counted_price price cs + c.count * price c.step
counted_set price [] i d c h = absurd (omega arith)
counted_set price (x ∷ cs) zero d c h = omega arith
counted_set price (x ∷ cs) (suc i) d c h = let rest = counted_set price cs i d c (omega arith) in omega (arith, rest)

-- one more of a step that is counted
pub counted_again : (price : Step → ℕ) (cs : List CountedStep) (i : ℕ) (x : CountedStep) (step : Step) → i < length cs → x ≡ get_or cs i x → x.step ≡ step → counted_price price (set cs i (record { step = x.step; count = x.count + 1 })) ≡ counted_price price cs + price step
counted_again price cs i x step h at is =
    let new : CountedStep = record { step = x.step; count = x.count + 1 } in
    let sum = subst (λ (y : CountedStep). counted_price price (set cs i new) + y.count * price y.step ≡ counted_price price cs + (x.count + 1) * price x.step) (sym at) (counted_set price cs i x new h) in
    let split : (x.count + 1) * price x.step ≡ x.count * price x.step + price x.step = grind arith in
    omega (arith, sum, split, ap price is)

pub steps_set : (cs : List CountedStep) (i : ℕ) (x : CountedStep) (count : ℕ) → x ≡ get_or cs i x → map step_in (set cs i (record { step = x.step; count = count })) ≡ map step_in cs
steps_set [] i x count at = refl
steps_set (y ∷ cs) zero x count at = ap (λ (z : CountedStep). z.step ∷ map step_in cs) at
steps_set (y ∷ cs) (suc i) x count at = ap (λ ks. y.step ∷ ks) (steps_set cs i x count at)

pub permuted : (price : Step → ℕ) (cs ds : List CountedStep) → IsPermutation cs ds → counted_price price ds ≡ counted_price price cs
permuted price cs ds same =
    let f = λ (c : CountedStep). c.count * price c.step in
    let sum = λ (xs : List CountedStep). is_sum_by (counted_price price) f refl (λ _ _. refl) xs in
    sum ds ∙ sum_by-IsPermutation f cs ds same ∙ sym (sum cs)

steps_suc : (line : ℤ) (address : ℕ) (rows : List Row) (i : ℕ) (d : Row) → i < length rows → steps_from line address (drop i rows) ≡ step_to line address (get_or rows i d) ∷ steps_from (line_left_by (get_or rows i d)) (address_left_by (get_or rows i d)) (drop (suc i) rows)
steps_suc line address [] i d h = absurd (omega arith)
steps_suc line address (row ∷ rows) zero d h = refl
steps_suc line address (row ∷ rows) (suc i) d h = steps_suc line address rows i d (omega arith)

-- the steps of the rows from one on
pub steps_more : (line : ℤ) (address : ℕ) (rows : List Row) (i : ℕ) (d : Row) → i < length rows → steps_from line address (drop i rows) ≡ step_to line address (get_or rows i d) ∷ steps_from (line_left_by (get_or rows i d)) (address_left_by (get_or rows i d)) (drop (i + 1) rows)
steps_more line address rows i d h = rw add-one (steps_suc line address rows i d h)

-- how many steps rows have
pub steps_len : (line : ℤ) (address : ℕ) (rows : List Row) → price_of (λ _. 1) (steps_from line address rows) ≡ length rows
steps_len line address [] = refl
steps_len line address (row ∷ rows) = let rest = steps_len (line_left_by row) (address_left_by row) rows in omega (arith, rest)

-- the counted steps and those of the rows that are left
pub count_left : (line : ℤ) (address : ℕ) (rows : List Row) (counted : List CountedStep) (i : ℕ) → counted_price (λ _. 1) counted + price_of (λ _. 1) (steps_from line address (drop i rows)) ≡ price_of (λ _. 1) (steps_of rows) → count_of counted + (length rows - i) ≡ length rows
count_left line address rows counted i same =
    omega (arith, same, steps_len line address (drop i rows), steps_len (pos 1) 0 rows, length-drop i rows)

-- one row more is counted
pub row_more : (price : Step → ℕ) (line next_line : ℤ) (address next_address : ℕ) (rows : List Row) (i : ℕ) (d : Row) (before after all : ℕ) (step : Step) → i < length rows → before + price_of price (steps_from line address (drop i rows)) ≡ all → step ≡ step_to line address (get_or rows i d) → after ≡ before + price step → next_line ≡ line_left_by (get_or rows i d) → next_address ≡ address_left_by (get_or rows i d) → after + price_of price (steps_from next_line next_address (drop (i + 1) rows)) ≡ all
row_more price line next_line address next_address rows i d before after all step h same is more line_is address_is =
    rw (line_is, address_is) (omega (arith, same, more, ap price is, ap (price_of price) (steps_more line address rows i d h)))

-- all rows are counted
pub rows_counted : (line : ℤ) (address : ℕ) (rows : List Row) (counted : List CountedStep) (i : ℕ) → length rows ≤ i → ((price : Step → ℕ) → counted_price price counted + price_of price (steps_from line address (drop i rows)) ≡ price_of price (steps_of rows)) → IsCounted (steps_of rows) counted
rows_counted line address rows counted i h same = record {
  same = λ price.
      let none : price_of price (steps_from line address (drop i rows)) ≡ 0 = ap (λ (rest : List Row). price_of price (steps_from line address rest)) (drop_all i rows h) in
      omega (arith, same price, none);
}

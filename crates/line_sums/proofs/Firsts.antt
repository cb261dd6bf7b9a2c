-- Different steps in the order in which they first appear.
use Rattle.std.proofs.Common.{◌≡◌, ◌≤◌, ◌<◌, ◌+◌, ◌++◌, ◌∙◌, ℕ, suc, List, [], ◌∷◌, drop, get_or, set, length, map, refl, sym, ap, subst, arith, Bool, true, false, inl, inr}
use Rattle.std.specs.Prelude.{◌||◌, ℤ}
use Rattle.std.specs.List.{list_any, position_or_len}
use Rattle.std.proofs.lemmas.Bool.{cases_Bool}
use Rattle.std.proofs.lemmas.List.{drop_all}
use Rattle.line_machine.specs.declared.registers.Row.{Row}
use Rattle.line_sums.specs.declared.count.CountedStep.{CountedStep}
use Rattle.line_sums.specs.declared.step.Step.{Step}
use Rattle.line_sums.specs.contracts.step.StepPartialEq.TheImpl.{eq-value}
use Rattle.line_sums.specs.Steps.{steps_from, step_to, line_left_by, address_left_by}
use Rattle.line_sums.specs.Counting.{step_in}
use Rattle.line_sums.specs.Ordered.{counted_once, counted_from}
use Rattle.line_sums.proofs.Counted.{steps_more}

-- a test of a head that fails for all fails for the head and the rest
pub or_parts : (a b : Bool) → (a || b) ≡ false → (a ≡ false) × (b ≡ false)
or_parts true b e = absurd (cc)
or_parts false b e = (refl, e)

pub once_new : (cs : List CountedStep) (s : Step) → list_any (eq-value.it s) (map step_in cs) ≡ false → counted_once cs s ≡ cs ++ record { step = s; count = 1 } ∷ []
once_new [] s e = refl
once_new (c ∷ cs) s e =
    let parts = or_parts (eq-value.it s c.step) (list_any (eq-value.it s) (map step_in cs)) e in
    rw parts.0 (ap (λ z. c ∷ z) (once_new cs s parts.1))

once_head : (c : CountedStep) (cs : List CountedStep) (s : Step) (p : ℕ) (x : CountedStep) → eq-value.it s c.step ≡ true → p ≡ position_or_len (eq-value.it s) (map step_in (c ∷ cs)) → x ≡ get_or (c ∷ cs) p x → counted_once (c ∷ cs) s ≡ set (c ∷ cs) p (record { step = x.step; count = x.count + 1 })
once_head c cs s p x same e at =
    let first : p ≡ 0 = rw same at e in
    let is : x ≡ c = subst (λ (n : ℕ). x ≡ get_or (c ∷ cs) n x) first at in
    rw (same, first, is) refl

pub once_old : (cs : List CountedStep) (s : Step) (p : ℕ) (x : CountedStep) → p ≡ position_or_len (eq-value.it s) (map step_in cs) → p < length cs → x ≡ get_or cs p x → counted_once cs s ≡ set cs p (record { step = x.step; count = x.count + 1 })
once_old [] s p x e lt at = absurd (omega arith)
once_old (c ∷ cs) s p x e lt at =
    elim (cases_Bool (eq-value.it s c.step)) [
      | inl same ↦ once_head c cs s p x same e at
      | inr other ↦
          let rest : ℕ = position_or_len (eq-value.it s) (map step_in cs) in
          let next : p ≡ suc rest = rw other at e ∙ omega arith in
          let here : x ≡ get_or cs rest x = subst (λ (n : ℕ). x ≡ get_or (c ∷ cs) n x) next at in
          rw (other, next) (ap (λ z. c ∷ z) (once_old cs s rest x refl (omega arith) here))
    ]

-- one row more is counted
pub firsts_more : (line next_line : ℤ) (address next_address : ℕ) (rows : List Row) (i : ℕ) (d : Row) (cs new all : List CountedStep) (step : Step) → i < length rows → counted_from cs (steps_from line address (drop i rows)) ≡ all → step ≡ step_to line address (get_or rows i d) → new ≡ counted_once cs step → next_line ≡ line_left_by (get_or rows i d) → next_address ≡ address_left_by (get_or rows i d) → counted_from new (steps_from next_line next_address (drop (i + 1) rows)) ≡ all
firsts_more line next_line address next_address rows i d cs new all step h same is more line_is address_is =
    rw (line_is, address_is, more, is) (ap (λ (z : List Step). counted_from cs z) (sym (steps_more line address rows i d h)) ∙ same)

-- all rows are counted
pub firsts_all : (line : ℤ) (address : ℕ) (rows : List Row) (i : ℕ) (cs all : List CountedStep) → length rows ≤ i → counted_from cs (steps_from line address (drop i rows)) ≡ all → cs ≡ all
firsts_all line address rows i cs all h same =
    sym (ap (λ (z : List Row). counted_from cs (steps_from line address z)) (drop_all i rows h)) ∙ same

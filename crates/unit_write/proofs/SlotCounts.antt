-- The slots of a unit counted, one entry after the other.
use Rattle.std.proofs.Common.{◌≡◌, ◌≤◌, ◌<◌, ◌+◌, ℕ, suc, List, [], ◌∷◌, ◌++◌, length, get_or, take, drop, sum, ◌∙◌, sym, ap, refl, arith, inl, inr, add-one}
use Rattle.std.proofs.lemmas.Bool.{cases_lt}
use Rattle.std.proofs.lemmas.List.{length_push, get_or_push, get_or_append_left}
use Rattle.std.proofs.lemmas.List.Sums.{sum_by-take-le}
use Rattle.expr_ops.specs.Expressions.{Operation}
use Rattle.entry_arena.specs.Arena.{Arena, entry_at}
use Rattle.entry_arena.specs.Order.{HaveValues}
use Rattle.unit_write.specs.inside.Marks.{values_before, AreSlotNumbers, AreSlotsCounted}
use Rattle.unit_write.proofs.SlotLists.{sum_part}
use Rattle.unit_write.proofs.SlotAims.{slots_summed}
use Rattle.unit_write.proofs.SlotSizes.{first_is, before_inside}

-- the slots of the values before the first entries are summed up
pub record AreSummed (f : Arena) (slots counts : List ℕ) (id count : ℕ) : Type 0 where
  pub many : length counts ≡ id
  pub each : (k : ℕ) → k < id → get_or counts k 0 ≡ sum (take (values_before f k) slots)
  pub last : count ≡ sum (take (values_before f id) slots)

pub none_summed : (f : Arena) (slots counts : List ℕ) → counts ≡ [] → AreSummed f slots counts 0 0
none_summed f slots counts none = record { many = ap length none; each = λ k lt. absurd (omega arith); last = refl }

module _ (f : Arena) (slots counts : List ℕ) (id count : ℕ) (h : AreSummed f slots counts id count) where
  -- one more count
  counts_push : (more : List ℕ) → more ≡ counts ++ count ∷ [] → (length more ≡ id + 1) × ((k : ℕ) → k ≤ id → get_or more k 0 ≡ sum (take (values_before f k) slots))
  counts_push more is = (
    ap length is ∙ length_push counts count ∙ ap (λ (z : ℕ). z + 1) h.many,
    λ k lt.
        let many : length counts ≡ id = h.many in
        elim (cases_lt k id) [
          | inl less ↦ ap (λ (z : List ℕ). get_or z k 0) is ∙ get_or_append_left counts (count ∷ []) 0 k (omega arith) ∙ h.each k less
          | inr most ↦
              let same : id ≡ k = omega arith in
              ap (λ (z : List ℕ). get_or z k 0) is ∙ get_or_push counts count 0 k (omega arith) ∙ h.last ∙ ap (λ (z : ℕ). sum (take (values_before f z) slots)) same
        ],
  )

  module _ (valued : HaveValues f.entries (length f.values)) (inside : id < length f.entries) (own : ℕ) (is : own ≡ sum (take (entry_at f.entries id).count (drop (entry_at f.entries id).first slots))) where
    -- those of the next entry
    next_is : count + own ≡ sum (take (values_before f (suc id)) slots)
    next_is =
        let first : (entry_at f.entries id).first ≡ values_before f id = first_is f valued id inside in
        let part : sum (take (values_before f (suc id)) slots) ≡ sum (take (values_before f id) slots) + sum (take (entry_at f.entries id).count (drop (values_before f id) slots)) = sum_part slots (values_before f id) (entry_at f.entries id).count (values_before f (suc id)) refl in
        let here : own ≡ sum (take (entry_at f.entries id).count (drop (values_before f id) slots)) = is ∙ ap (λ (z : ℕ). sum (take (entry_at f.entries id).count (drop z slots))) first in
        let before : count ≡ sum (take (values_before f id) slots) = h.last in
        omega arith

    pub next_few : count + own ≤ sum slots
    next_few =
        let few : sum (take (values_before f (suc id)) slots) ≤ sum slots = sum_by-take-le (λ (s : ℕ). s) slots (values_before f (suc id)) in
        omega (arith, few, next_is)

    pub next_summed : (sum_now : ℕ) (more : List ℕ) → more ≡ counts ++ count ∷ [] → sum_now ≡ count + own → AreSummed f slots more (id + 1) sum_now
    next_summed sum_now more pushed total =
        let p = counts_push more pushed in
        record {
          many = p.0;
          each = λ k lt. p.1 k (omega arith);
          last = total ∙ next_is ∙ ap (λ (z : ℕ). sum (take (values_before f z) slots)) (sym (add-one id));
        }

  -- the last count is that of all
  pub all_summed : HaveValues f.entries (length f.values) → id ≡ length f.entries → (more : List ℕ) → more ≡ counts ++ count ∷ [] → (ops : ℕ → List Operation) → AreSlotNumbers f ops slots → AreSlotsCounted f ops more
  all_summed valued all more pushed ops numbered =
      let p = counts_push more pushed in
      record {
        count = p.0 ∙ add-one id ∙ ap suc all;
        each = λ k lt. p.1 k (omega arith) ∙ slots_summed f ops slots numbered (values_before f k) (before_inside f valued k lt);
      }

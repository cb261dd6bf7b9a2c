-- What the values of a unit take beside their slots.
use Rattle.std.proofs.Common.{◌≡◌, ◌≤◌, ◌<◌, ◌+◌, ◌*◌, ◌^◌, ℕ, suc, List, [], ◌∷◌, ◌++◌, length, get_or, drop, false, ◌∙◌, sym, ap, refl, arith, inl, inr}
use Prim.Native.Nat.{min}
use Rattle.std.proofs.lemmas.Bool.{cases_lt, both_ways}
use Rattle.std.proofs.lemmas.List.{length_push, get_or_push, get_or_append_left, get_or_default, length-take}
use Rattle.dw_base.specs.declared.fault.Reach.{Reach}
use Rattle.dw_base.specs.declared.fault.Span.{Span}
use Rattle.expr_ops.specs.Expressions.{Operation}
use Rattle.expr_ops.specs.Ops.{all_meant}
use Rattle.expr_ops.specs.Shortest.{fixed_length}
use Rattle.expr_ops.specs.Slots.{slots_among, SlotsHaveOpcodes}
use Rattle.expr_ops.proofs.PlainLaws.{expression_sized}
use Rattle.form_codec.specs.declared.value.Value.{Value}
use Rattle.form_codec.specs.declared.value.Value.TheVariants as value
use Rattle.form_codec.specs.Values.{bytes_in, meant_in}
use Rattle.entry_arena.specs.Arena.{Arena, value_at}
use Rattle.entry_arena.specs.Operations.{HeldOps, ops_of}
use Rattle.entry_read.specs.Expressions.{IsExprAt, HasOperations}
use Rattle.entry_read.specs.Slots.{is_local, value_aims, expression_bytes, meaning_at, operations_in}
use Rattle.unit_write.specs.declared.measure.Measured.{Measured}
use Rattle.unit_write.specs.Lens.{IsLocalAt, AreLensFor}
use Rattle.unit_write.specs.inside.Marks.{IsMeasured, AreMeasured, AreShort}
use Rattle.unit_write.proofs.FewLaws.{expr_or_other}
use Rattle.unit_write.proofs.SlotAims.{expression_length}

-- the value that is read is the one with its number
pub value_same : (f lender : Arena) (k : ℕ) (v : Value) → lender ≡ f → v ≡ value_at lender.values k → v ≡ value_at f.values k
value_same f lender k v same read = read ∙ ap (λ (z : Arena). value_at z.values k) same

pub value_read : (f lender : Arena) (k : ℕ) (v w : Value) → lender ≡ f → v ≡ value_at lender.values k → v ≡ w → value_at f.values k ≡ w
value_read f lender k v w same read is = sym (value_same f lender k v same read) ∙ is

-- neither an expression nor a reference within the unit
pub other_aims : (section : List ℕ) (v : Value) (os : List Operation) → ((span : Span) → v ≡ value.Expr span → ⊥) → ((n : ℕ) → v ≡ value.LocalRef n → ⊥) → value_aims (meant_in section v) os ≡ []
other_aims section (value.Expr span) os no_expr no_local = absurd (no_expr span refl)
other_aims section (value.LocalRef n) os no_expr no_local = absurd (no_local n refl)
other_aims section v os no_expr no_local = refl

-- one more value is measured
measured_next : (f : Arena) (ops : ℕ → List Operation) (old new : Measured) (number fixed slots : ℕ) → IsMeasured f ops old number → new.fixed.items ≡ old.fixed.items ++ fixed ∷ [] → new.slots.items ≡ old.slots.items ++ slots ∷ [] → fixed ≡ fixed_length (ops number) → slots ≡ length (value_aims (meaning_at f number) (ops number)) → IsMeasured f ops new (number + 1)
measured_next f ops old new number fixed slots h first second fixed_is slots_is = record {
  fixed_count = ap length first ∙ length_push old.fixed.items fixed ∙ ap (λ (z : ℕ). z + 1) h.fixed_count;
  slots_count = ap length second ∙ length_push old.slots.items slots ∙ ap (λ (z : ℕ). z + 1) h.slots_count;
  fixed = λ k lt.
      let many : length old.fixed.items ≡ number = h.fixed_count in
      elim (cases_lt k number) [
        | inl less ↦ ap (λ (z : List ℕ). get_or z k 0) first ∙ get_or_append_left old.fixed.items (fixed ∷ []) 0 k (omega arith) ∙ h.fixed k less
        | inr most ↦
            let same : number ≡ k = omega arith in
            ap (λ (z : List ℕ). get_or z k 0) first ∙ get_or_push old.fixed.items fixed 0 k (omega arith) ∙ fixed_is ∙ ap (λ (z : ℕ). fixed_length (ops z)) same
      ];
  slots = λ k lt.
      let many : length old.slots.items ≡ number = h.slots_count in
      elim (cases_lt k number) [
        | inl less ↦ ap (λ (z : List ℕ). get_or z k 0) second ∙ get_or_append_left old.slots.items (slots ∷ []) 0 k (omega arith) ∙ h.slots k less
        | inr most ↦
            let same : number ≡ k = omega arith in
            ap (λ (z : List ℕ). get_or z k 0) second ∙ get_or_push old.slots.items slots 0 k (omega arith) ∙ slots_is ∙ ap (λ (z : ℕ). length (value_aims (meaning_at f z) (ops z))) same
      ];
}

module _ (f : Arena) (held : HeldOps) (operations : (reach : Reach) × HasOperations reach f held) where
  -- the operations of an expression
  pub expr_ops_are : (k : ℕ) (span : Span) → IsExprAt f k span → operations_in f held k ≡ all_meant (bytes_in f.section span) (ops_of held k)
  expr_ops_are k span is = ap (λ (v : Value). all_meant (expression_bytes (meant_in f.section v)) (ops_of held k)) is.is

  -- another value has none
  pub other_ops : (k : ℕ) → ((span : Span) → IsExprAt f k span → ⊥) → operations_in f held k ≡ []
  other_ops k none = ap (all_meant (expression_bytes (meaning_at f k))) (operations.1.only k none)

  module _ (opcodes : SlotsHaveOpcodes) where
    pub expr_fixed : (k : ℕ) (span : Span) → IsExprAt f k span → fixed_length (all_meant (bytes_in f.section span) (ops_of held k)) ≤ 3 * span.len
    expr_fixed k span is =
        let os : List Operation = all_meant (bytes_in f.section span) (ops_of held k) in
        let less : fixed_length os + 5 * slots_among os ≤ 3 * length (bytes_in f.section span) = (expression_sized operations.0 os (bytes_in f.section span) (operations.1.spelled k span is)).fives in
        let part : length (bytes_in f.section span) ≤ span.len = (let part : length (bytes_in f.section span) ≡ min span.len (length (drop span.at f.section)) = length-take span.len (drop span.at f.section) in omega arith) in
        omega (arith, less, part)

    pub expr_slots : (k : ℕ) (span : Span) → IsExprAt f k span → slots_among (all_meant (bytes_in f.section span) (ops_of held k)) ≤ 3 * span.len
    expr_slots k span is =
        let fixed = expr_fixed k span is in
        let less = opcodes (all_meant (bytes_in f.section span) (ops_of held k)) in
        omega (arith, fixed, less)

    pub fixed_small : AreShort f → (k : ℕ) → k < length f.values → fixed_length (operations_in f held k) < 2 ^ 31
    fixed_small short k lt = elim (expr_or_other f k lt) [
      | inl e ↦
          let most = expr_fixed k e.0 e.1 in
          let room = short k e.0 e.1 in
          let same : fixed_length (operations_in f held k) ≡ fixed_length (all_meant (bytes_in f.section e.0) (ops_of held k)) = ap fixed_length (expr_ops_are k e.0 e.1) in
          omega (arith, most, room, same)
      | inr none ↦
          let nothing : fixed_length (operations_in f held k) ≡ 0 = ap fixed_length (other_ops k none) in
          omega arith
    ]

    -- a unit can be placed with them
    pub fixed_lens : (measured : Measured) → AreMeasured f (operations_in f held) measured → AreLensFor f measured.fixed.items
    fixed_lens measured h = record {
      each = h.fixed_count;
      few = λ k span is.
          let same : get_or measured.fixed.items k 0 ≡ fixed_length (all_meant (bytes_in f.section span) (ops_of held k)) = h.fixed k is.inside ∙ ap fixed_length (expr_ops_are k span is) in
          let most = expr_fixed k span is in
          omega (arith, same, most);
      narrow = λ k lt local.
          let nothing : get_or measured.fixed.items k 0 ≡ 0 = h.fixed k lt ∙ ap fixed_length (other_ops k (λ span is. absurd (local_no_expr k span local is.is))) in
          omega arith;
    }
      where
        local_no_expr : (k : ℕ) (span : Span) → IsLocalAt f k → value_at f.values k ≡ value.Expr span → ⊥
        local_no_expr k span local is = let other : is_local (meant_in f.section (value_at f.values k)) ≡ false = ap (λ (v : Value). is_local (meant_in f.section v)) is in both_ways (is_local (meant_in f.section (value_at f.values k))) other local

-- whatever value it is
pub record MeasuresNext (f : Arena) (held : HeldOps) (k : ℕ) (new : Measured) (pair : ℕ × ℕ) : Type 0 where
  pub local : (n : ℕ) → value_at f.values k ≡ value.LocalRef n → pair ≡ (0, 1) → IsMeasured f (operations_in f held) new (k + 1)
  pub expr : (span : Span) → value_at f.values k ≡ value.Expr span → (fixed slots : ℕ) → fixed ≡ fixed_length (all_meant (bytes_in f.section span) (ops_of held k)) → slots ≡ slots_among (all_meant (bytes_in f.section span) (ops_of held k)) → pair ≡ (fixed, 1 + slots) → IsMeasured f (operations_in f held) new (k + 1)
  pub other : ((span : Span) → value_at f.values k ≡ value.Expr span → ⊥) → ((n : ℕ) → value_at f.values k ≡ value.LocalRef n → ⊥) → pair ≡ (0, 0) → IsMeasured f (operations_in f held) new (k + 1)

pub value_measured : (f : Arena) (held : HeldOps) → (reach : Reach) × HasOperations reach f held → (k : ℕ) → k < length f.values → (old new : Measured) → IsMeasured f (operations_in f held) old k → (pair : ℕ × ℕ) → new.fixed.items ≡ old.fixed.items ++ pair.0 ∷ [] → new.slots.items ≡ old.slots.items ++ pair.1 ∷ [] → MeasuresNext f held k new pair
value_measured f held operations k lt old new h pair first second = record {
  local = λ n is e.
      let none : (span : Span) → IsExprAt f k span → ⊥ = λ span here. other_value n span (sym is ∙ here.is) in
      next (ap (λ (z : ℕ × ℕ). z.0) e ∙ sym (ap fixed_length (other_ops f held operations k none))) (ap (λ (z : ℕ × ℕ). z.1) e ∙ sym (ap (λ (v : Value). length (value_aims (meant_in f.section v) (operations_in f held k))) is));
  expr = λ span is fixed slots fixed_is slots_is e.
      let same = expr_ops_are f held operations k span (record { inside = lt; is = is }) in
      let count : length (value_aims (meaning_at f k) (operations_in f held k)) ≡ suc (slots_among (all_meant (bytes_in f.section span) (ops_of held k))) = ap (λ (v : Value). length (value_aims (meant_in f.section v) (operations_in f held k))) is ∙ expression_length (operations_in f held k) ∙ ap (λ (z : List Operation). suc (slots_among z)) same in
      let second_is : pair.1 ≡ 1 + slots = ap (λ (z : ℕ × ℕ). z.1) e in
      next (ap (λ (z : ℕ × ℕ). z.0) e ∙ fixed_is ∙ sym (ap fixed_length same)) (omega (arith, count, second_is, slots_is));
  other = λ no_expr no_local e.
      let none : (span : Span) → IsExprAt f k span → ⊥ = λ span here. no_expr span here.is in
      next (ap (λ (z : ℕ × ℕ). z.0) e ∙ sym (ap fixed_length (other_ops f held operations k none))) (ap (λ (z : ℕ × ℕ). z.1) e ∙ sym (ap length (other_aims f.section (value_at f.values k) (operations_in f held k) no_expr no_local)));
}
  where
    other_value : (n : ℕ) (span : Span) → value.LocalRef n ≡ value.Expr span → ⊥
    other_value n span e = absurd (cc (e))

    next : pair.0 ≡ fixed_length (operations_in f held k) → pair.1 ≡ length (value_aims (meaning_at f k) (operations_in f held k)) → IsMeasured f (operations_in f held) new (k + 1)
    next fixed_is slots_is = measured_next f (operations_in f held) old new k pair.0 pair.1 h first second fixed_is slots_is

-- How many slots a unit has.
use Rattle.std.proofs.Common.{◌≡◌, ◌≤◌, ◌+◌, ◌*◌, ℕ, zero, suc, List, length, sym, ap, refl, subst, arith, inl, inr}
use Rattle.std.proofs.lemmas.List.{length-append}
use Rattle.spelled.proofs.Parts.{length_part}
use Rattle.dw_base.specs.declared.fault.Reach.TheVariants.{Narrow}
use Rattle.dw_base.specs.declared.fault.Span.{Span}
use Rattle.expr_ops.specs.Expressions.{Operation}
use Rattle.expr_ops.specs.Ops.{all_meant}
use Rattle.expr_ops.specs.Slots.{SlotsHaveOpcodes, SlotsAreFew}
use Rattle.form_codec.specs.declared.value.Value.{Value}
use Rattle.form_codec.specs.declared.value.Value.TheVariants as value
use Rattle.form_codec.specs.Forms.{Meaning}
use Rattle.form_codec.specs.Forms.Meaning.{Expression}
use Rattle.form_codec.specs.Values.{bytes_in, meant_in}
use Rattle.entry_arena.specs.Arena.{Arena, value_at}
use Rattle.entry_arena.specs.Operations.{HeldOps, ops_of}
use Rattle.entry_arena.specs.Order.{IsInOrder}
use Rattle.entry_read.specs.Expressions.{IsExprAt, HasOperations}
use Rattle.entry_read.specs.Slots.{value_aims, aims_before, meaning_at, expression_bytes, operations_in}
use Rattle.unit_write.specs.Slots.{SlotsFit}
use Rattle.unit_write.proofs.FewLaws.{expr_or_other}
use Rattle.unit_write.proofs.ExprLaws.{span_before, span_inside}
use Rattle.unit_write.proofs.SlotAims.{op_aims_length}

-- the slots of the first n values are few for the bytes before a place, behind which the other values stand
record AreFewBefore (f : Arena) (held : HeldOps) (n : ℕ) : Type 0 where
  place : ℕ
  inside : place ≤ length f.section
  few : 2 * length (aims_before (meaning_at f) (operations_in f held) n) ≤ 2 * n + place
  behind : (k : ℕ) (span : Span) → n ≤ k → IsExprAt f k span → place ≤ span.at

-- a value that is no expression has one slot at most
other_few : (section : List ℕ) (v : Value) (os : List Operation) → ((span : Span) → v ≡ value.Expr span → ⊥) → length (value_aims (meant_in section v) os) ≤ 1
other_few section (value.Expr span) os none = absurd (none span refl)
other_few section (value.LocalRef n) os none = omega arith
other_few section v os none = omega arith

module _ (opcodes : SlotsHaveOpcodes) (many : SlotsAreFew) (f : Arena) (held : HeldOps) (order : IsInOrder f) (has : HasOperations Narrow f held) where
  -- an expression has one for two bytes, and its length
  expression_few : (k : ℕ) (span : Span) → IsExprAt f k span → 2 * length (value_aims (meaning_at f k) (operations_in f held k)) ≤ 2 + span.len
  expression_few k span is =
      let bytes : List ℕ = bytes_in f.section span in
      let os : List Operation = all_meant bytes (ops_of held k) in
      let size : length bytes ≡ span.len = length_part span.at span.len f.section (span_inside f k span order is) in
      let low = opcodes os in
      let high = many os bytes (has.spelled k span is) in
      let count = op_aims_length os in
      let own : 2 * length (value_aims (Expression bytes) os) ≤ 2 + span.len = omega (arith, size, low, high, count) in
      let same : Expression bytes ≡ meaning_at f k = ap (meant_in f.section) (sym is.is) in
      subst (λ (m : Meaning). 2 * length (value_aims m (all_meant (expression_bytes m) (ops_of held k))) ≤ 2 + span.len) same own

  few_before : (n : ℕ) → n ≤ length f.values → AreFewBefore f held n
  few_before zero le = record { place = 0; inside = omega arith; few = omega arith; behind = λ k span later is. omega arith }
  few_before (suc n) le =
      let h = few_before n (omega arith) in
      let few = h.few in
      let ops = operations_in f held in
      let both : length (aims_before (meaning_at f) ops (suc n)) ≡ length (aims_before (meaning_at f) ops n) + length (value_aims (meaning_at f n) (ops n)) = length-append (aims_before (meaning_at f) ops n) (value_aims (meaning_at f n) (ops n)) in
      elim (expr_or_other f n (omega arith)) [
        | inl e ↦
            let s : Span = e.0 in
            let before : h.place ≤ s.at = h.behind n s (omega arith) e.1 in
            let own = expression_few n s e.1 in
            record {
              place = s.at + s.len;
              inside = span_inside f n s order e.1;
              few = omega (arith, both, few, own, before);
              behind = λ k span later is. span_before f n k s span order (omega arith) e.1 is;
            }
        | inr none ↦
            let own = other_few f.section (value_at f.values n) (ops n) (λ span is. none span (record { inside = omega arith; is = is })) in
            record { place = h.place; inside = h.inside; few = omega (arith, both, few, own); behind = λ k span later is. h.behind k span (omega arith) is }
      ]

pub slots_fit : SlotsHaveOpcodes → SlotsAreFew → SlotsFit
slots_fit opcodes many f held order has =
    let h = few_before opcodes many f held order has (length f.values) (omega arith) in
    let few = h.few in
    let inside = h.inside in
    omega (arith, few, inside)

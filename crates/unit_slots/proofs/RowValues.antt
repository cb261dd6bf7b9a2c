-- The rows of the slots of values.
use Rattle.std.proofs.Common.{◌≡◌, ◌≤◌, ◌<◌, ◌+◌, ◌^◌, ℕ, suc, List, [], ◌∷◌, ◌++◌, length, get_or, ◌∙◌, sym, ap, subst, arith}
use Rattle.std.specs.List.{All}
use Rattle.std.proofs.lemmas.List.{get_or_append_left, get_or-append-add}
use Rattle.dw_base.specs.declared.fault.Span.{Span}
use Rattle.leb_codec.specs.Layout.{uleb}
use Rattle.slot_layout.specs.declared.slots.Slot.{Slot}
use Rattle.slot_layout.specs.Rows.{row_of}
use Rattle.expr_ops.specs.Expressions.{Operation}
use Rattle.expr_ops.specs.Ops.{all_meant}
use Rattle.expr_ops.specs.Slots.{Aim, expression_aims}
use Rattle.expr_ops.specs.Slots.Aim.{Place}
use Rattle.form_codec.specs.declared.value.Value.{Value}
use Rattle.form_codec.specs.declared.value.Value.TheVariants as value
use Rattle.form_codec.specs.Values.{bytes_in, meant_in, LiesIn}
use Rattle.entry_arena.specs.Arena.{Arena, value_at}
use Rattle.entry_arena.specs.Operations.{HeldOps, ops_of}
use Rattle.entry_arena.specs.Order.{IsInOrder}
use Rattle.entry_read.specs.Slots.{value_aims, aims_of, aims_before, meaning_at, slots_before, expression_bytes, operations_in, IsPlaceRow}
use Rattle.entry_read.specs.Units.{HeadAndForest}
use Rattle.unit_slots.specs.declared.spots.Spots.{Spots}
use Rattle.unit_slots.specs.inside.Rows.{HasSpots, AreRows, entry_places}
use Rattle.unit_slots.proofs.RowAims.{slots_next, slots_up, aims_of_value}
use Rattle.unit_slots.proofs.RowLaws.{rows_on, from_push, from_none}

-- the value that is read is the one with its number
pub value_read : (f lender : Arena) (k : ℕ) (read v : Value) → lender ≡ f → read ≡ value_at lender.values k → read ≡ v → value_at f.values k ≡ v
value_read f lender k read v same is one = ap (λ (z : Arena). value_at z.values k) (sym same) ∙ sym is ∙ one

-- the bytes of an expression lie in the section
pub span_inside : (f lender : Arena) (k : ℕ) (span : Span) → lender ≡ f → IsInOrder lender → k < length f.values → value_at f.values k ≡ value.Expr span → span.at + span.len ≤ length lender.section
span_inside f lender k span same order lt is =
    let in_order : IsInOrder f = subst IsInOrder same order in
    let inside : span.at + span.len ≤ length f.section = subst (LiesIn (length f.section)) is (in_order.spans.inside k lt) in
    let sections : length lender.section ≡ length f.section = ap (λ (z : Arena). length z.section) same in
    omega arith

-- the operations of an expression
pub expr_ops_are : (f : Arena) (held : HeldOps) (k : ℕ) (span : Span) → value_at f.values k ≡ value.Expr span → operations_in f held k ≡ all_meant (bytes_in f.section span) (ops_of held k)
expr_ops_are f held k span is = ap (λ (v : Value). all_meant (expression_bytes (meant_in f.section v)) (ops_of held k)) is

-- what its slots tell
pub expr_aims_are : (f : Arena) (ops : ℕ → List Operation) (k : ℕ) (span : Span) → value_at f.values k ≡ value.Expr span → value_aims (meaning_at f k) (ops k) ≡ expression_aims (ops k)
expr_aims_are f ops k span is = ap (λ (v : Value). value_aims (meant_in f.section v) (ops k)) is

pub local_aims_are : (f : Arena) (ops : ℕ → List Operation) (k n : ℕ) → value_at f.values k ≡ value.LocalRef n → value_aims (meaning_at f k) (ops k) ≡ Place uleb n ∷ []
local_aims_are f ops k n is = ap (λ (v : Value). value_aims (meant_in f.section v) (ops k)) is

-- the row of a reference within the unit
pub local_row : (unit : HeadAndForest) (held : ℕ → List Operation) (own : List ℕ) (spots : Spots) → HasSpots unit held own spots → (aims more : List Aim) (n : ℕ) (old new : List Slot) (slot : Slot) → more ≡ Place uleb n ∷ [] → new ≡ old ++ slot ∷ [] → ((listed : List ℕ) → IsPlaceRow unit.forest held (entry_places unit.forest) (own ++ listed) unit.head.at (unit.head.at + n) uleb (row_of slot)) → slot.fixed < 2 ^ 32 → AreRows unit held own aims old → AreRows unit held own (aims ++ more) new
local_row unit held own spots have aims more n old new slot is pushed row small rows =
    let one = from_push unit held own (length old) [] (Place uleb n) [] slot (from_none unit held own (length old)) (record { row = row; small = omega arith }) in
    subst (λ (z : List Aim). AreRows unit held own (aims ++ z) new) (sym is) (subst (AreRows unit held own (aims ++ Place uleb n ∷ [])) (sym pushed) (rows_on unit held own spots have aims (Place uleb n ∷ []) old (slot ∷ []) rows (tt, tt) one))

-- ALL VALUES

module _ (f : Arena) (ops : ℕ → List Operation) (k : ℕ) (lt : k < length f.values) where
  -- the slots of a value are some of the unit's
  pub value_few : (most count : ℕ) → slots_before f ops (length f.values) ≤ most → count ≡ slots_before f ops k → count + length (value_aims (meaning_at f k) (ops k)) ≤ most
  value_few most count few is =
      let next : slots_before f ops (suc k) ≡ slots_before f ops k + length (value_aims (meaning_at f k) (ops k)) = slots_next f ops k in
      let up : slots_before f ops (suc k) ≤ slots_before f ops (length f.values) = slots_up f ops (suc k) (length f.values) lt in
      omega arith

  pub value_named : (P : Aim → Type 0) → All P (aims_of f ops) → All P (value_aims (meaning_at f k) (ops k))
  value_named P all = λ i d less.
      let r = aims_of_value f ops k (length f.values) lt in
      let at : get_or (aims_of f ops) (slots_before f ops k + i) d ≡ get_or (value_aims (meaning_at f k) (ops k)) i d =
      ap (λ (z : List Aim). get_or z (slots_before f ops k + i) d) r.1
      ∙ get_or-append-add (aims_before (meaning_at f) ops k) (value_aims (meaning_at f k) (ops k) ++ r.0) i d
      ∙ get_or_append_left (value_aims (meaning_at f k) (ops k)) r.0 d i less in
      let next : slots_before f ops (suc k) ≡ slots_before f ops k + length (value_aims (meaning_at f k) (ops k)) = slots_next f ops k in
      let up : slots_before f ops (suc k) ≤ slots_before f ops (length f.values) = slots_up f ops (suc k) (length f.values) lt in
      subst P at (all (slots_before f ops k + i) d (omega arith))

-- An expression whose slots have just the sizes that they need has its fewest bytes.
use Rattle.std.proofs.Common.{◌≡◌, ◌≤◌, ◌<◌, ◌+◌, ℕ, suc, List, [], ◌∷◌, ◌++◌, length, get_or, take, drop, take-take, sum, Bool, true, false, cond, ◌∙◌, sym, ap, refl, subst, arith, inl, inr, true≢false}
use Rattle.std.specs.Prelude.{if◌then◌else◌, nat_eq, nat_lt}
use Rattle.std.proofs.lemmas.Bool.{cases_Bool}
use Rattle.std.proofs.lemmas.List.Sums.{sum_by-cons}
use Rattle.leb_codec.specs.Leb.{least_unsigned_len}
use Rattle.leb_codec.specs.Layout.{uleb, call, need}
use Rattle.expr_ops.specs.Expressions.{Operation}
use Rattle.expr_ops.specs.Drafts.{is_typed, is_generic, is_slot, has_reference, first_or, rest_of, with_a, with_ref, with_refs, total}
use Rattle.expr_ops.specs.Shortest.{needed_size, fixed_length, shortest_length, shortest_sizes, LengthsSplit}
use Rattle.expr_ops.specs.Slots.{Aim, slots_among, length_aim, slot_form, op_aim, op_aims, AreNeeded, NeededAreShortest}
use Rattle.expr_ops.specs.Slots.Aim.{Place, Length}
use Rattle.entry_read.specs.Slots.{aim_at}
use Rattle.unit_write.proofs.SlotAims.{slots_take, aims_yes, aims_no}

-- A slot has the size that it needs, by what it tells and what it tells with new numbers: a place by the new number, and a length by the
-- sizes behind it.
abbrev pub IsMet : Aim → Aim → ℕ → List ℕ → Type 0
IsMet (Place form n) (Place other new) size sizes = size ≡ need form new
IsMet (Place form n) (Length fixed count) size sizes = Unit {0}
IsMet (Length fixed count) new size sizes = size ≡ least_unsigned_len (fixed + sum (take count sizes))

-- each of some slots has, which have the first of these sizes
abbrev pub AreMet : List Aim → List Aim → List ℕ → Type 0
AreMet [] [] sizes = Unit {0}
AreMet (aim ∷ aims) (new ∷ news) (size ∷ sizes) = IsMet aim new size sizes × AreMet aims news sizes
AreMet _ _ _ = ⊥

pub met_each : (aims news : List Aim) (sizes : List ℕ) → length news ≡ length aims → length aims ≤ length sizes → ((i : ℕ) → i < length aims → IsMet (aim_at aims i) (aim_at news i) (get_or sizes i 0) (drop (suc i) sizes)) → AreMet aims news sizes
met_each [] [] sizes a b each = tt
met_each [] (new ∷ news) sizes a b each = absurd (omega arith)
met_each (aim ∷ aims) [] sizes a b each = absurd (omega arith)
met_each (aim ∷ aims) (new ∷ news) [] a b each = absurd (omega arith)
met_each (aim ∷ aims) (new ∷ news) (size ∷ sizes) a b each = (each 0 (omega arith), met_each aims news sizes (omega arith) (omega arith) (λ i lt. each (suc i) (omega arith)))

-- the same of the first ones, and of those behind them
pub met_front : (aims news behind others : List Aim) (sizes : List ℕ) → length news ≡ length aims → AreMet (aims ++ behind) (news ++ others) sizes → AreMet aims news sizes
met_front [] [] behind others sizes e m = tt
met_front [] (new ∷ news) behind others sizes e m = absurd (omega arith)
met_front (aim ∷ aims) [] behind others sizes e m = absurd (omega arith)
met_front (aim ∷ aims) (new ∷ news) behind others [] e m = absurd m
met_front (aim ∷ aims) (new ∷ news) behind others (size ∷ sizes) e m = (m.0, met_front aims news behind others sizes (omega arith) m.1)

pub met_behind : (aims news behind others : List Aim) (sizes : List ℕ) → length news ≡ length aims → AreMet (aims ++ behind) (news ++ others) sizes → AreMet behind others (drop (length aims) sizes)
met_behind [] [] behind others sizes e m = m
met_behind [] (new ∷ news) behind others sizes e m = absurd (omega arith)
met_behind (aim ∷ aims) [] behind others sizes e m = absurd (omega arith)
met_behind (aim ∷ aims) (new ∷ news) behind others [] e m = absurd m
met_behind (aim ∷ aims) (new ∷ news) behind others (size ∷ sizes) e m = met_behind aims news behind others sizes (omega arith) m.1

-- HOW MANY SLOTS

abbrev slot_bit : Bool → ℕ
slot_bit b = cond b 1 0

pub slots_with : (o : Operation) (os : List Operation) → is_slot o.code o.a ≡ true → slots_among (o ∷ os) ≡ suc (slots_among os)
slots_with o os is =
    let one : slot_bit (is_slot o.code o.a) ≡ 1 = ap slot_bit is in
    let both = sum_by-cons (λ (y : Operation). slot_bit (is_slot y.code y.a)) o os in
    omega (arith, one, both)

pub slots_without : (o : Operation) (os : List Operation) → is_slot o.code o.a ≡ false → slots_among (o ∷ os) ≡ slots_among os
slots_without o os is =
    let none : slot_bit (is_slot o.code o.a) ≡ 0 = ap slot_bit is in
    let both = sum_by-cons (λ (y : Operation). slot_bit (is_slot y.code y.a)) o os in
    omega (arith, none, both)

-- OPERATIONS WITH NEW REFERENCES

-- the same operations but for their references; none has a slot that had none
abbrev pub AreRenewed : List Operation → List Operation → Type 0
AreRenewed [] [] = Unit {0}
AreRenewed (o ∷ os) (new ∷ news) = (new.code ≡ o.code) × (is_slot o.code o.a ≡ false → is_slot new.code new.a ≡ false) × AreRenewed os news
AreRenewed _ _ = ⊥

-- a new number makes no slot of one that is none
slot_by : (a b c : Bool) (g : Bool) → (if a then true else (if b then true else (if c then (if false then false else true) else false))) ≡ false → (if a then true else (if b then true else (if c then (if g then false else true) else false))) ≡ false
slot_by true b c g e = e
slot_by false true c g e = e
slot_by false false true g e = let never : true ≡ false = e in absurd (true≢false never)
slot_by false false false g e = refl

module _ (n : ℕ) (o : Operation) where
  code_kept : (g : Bool) → (if g then o else with_a n o).code ≡ o.code
  code_kept true = refl
  code_kept false = refl

  slot_kept : (g : Bool) → is_generic o.code o.a ≡ g → is_slot o.code o.a ≡ false → is_slot (if g then o else with_a n o).code (if g then o else with_a n o).a ≡ false
  slot_kept true is e = e
  slot_kept false is e = slot_by (nat_eq o.code 163) (nat_eq o.code 153) (is_typed o.code) (is_generic o.code n) (subst (λ (g : Bool). (if nat_eq o.code 163 then true else (if nat_eq o.code 153 then true else (if is_typed o.code then (if g then false else true) else false))) ≡ false) is e)

pub with_renewed : (refs : List ℕ) (os : List Operation) → AreRenewed os (with_refs refs os)
with_renewed refs [] = tt
with_renewed refs (o ∷ os) = one (has_reference o.code) refs o os (with_renewed (rest_of refs) os) (with_renewed refs os)
  where
    one : (b : Bool) (refs : List ℕ) (o : Operation) (os : List Operation) → AreRenewed os (with_refs (rest_of refs) os) → AreRenewed os (with_refs refs os) → AreRenewed (o ∷ os) (if b then with_ref (first_or 0 refs) o ∷ with_refs (rest_of refs) os else (o ∷ with_refs refs os))
    one true refs o os next same = (code_kept (first_or 0 refs) o (is_generic o.code o.a), slot_kept (first_or 0 refs) o (is_generic o.code o.a) refl, next)
    one false refs o os next same = (refl, λ e. e, same)

-- so there are no more
pub renewed_fewer : (os news : List Operation) → AreRenewed os news → slots_among news ≤ slots_among os
renewed_fewer [] [] r = omega arith
renewed_fewer [] (new ∷ news) r = absurd r
renewed_fewer (o ∷ os) [] r = absurd r
renewed_fewer (o ∷ os) (new ∷ news) (same, none, r) =
    let rest = renewed_fewer os news r in
    elim (cases_Bool (is_slot new.code new.a)) [
      | inl has ↦ elim (cases_Bool (is_slot o.code o.a)) [
        | inl was ↦ let a = slots_with o os was in let b = slots_with new news has in omega (arith, a, b, rest)
        | inr was_none ↦ absurd (true≢false (sym has ∙ none was_none))
      ]
      | inr lacks ↦
          let b = slots_without new news lacks in
          elim (cases_Bool (is_slot o.code o.a)) [
            | inl was ↦ let a = slots_with o os was in omega (arith, a, b, rest)
            | inr was_none ↦ let a = slots_without o os was_none in omega (arith, a, b, rest)
          ]
    ]

-- THEIR SIZES

total_sum : (ns : List ℕ) → total ns ≡ sum ns
total_sum [] = refl
total_sum (n ∷ ns) = let rest = total_sum ns in let both = sum_by-cons (λ (x : ℕ). x) n ns in omega (arith, rest, both)

module _ (o new : Operation) (os news : List Operation) (size : ℕ) (sizes : List ℕ) where
  met_by : (b c : Bool) → IsMet (if b then length_aim (take o.inner os) else Place (if c then call else uleb) o.a) (if b then length_aim (take new.inner news) else Place (if c then call else uleb) new.a) size sizes → size ≡ (if b then least_unsigned_len (fixed_length (take o.inner os) + sum (take (slots_among (take o.inner os)) sizes)) else (if c then (if nat_lt new.a 65536 then 2 else 4) else least_unsigned_len new.a))
  met_by true c m = m
  met_by false true m = m
  met_by false false m = m

  -- what a slot needs by what it tells is what its operation needs
  met_needed : new.code ≡ o.code → IsMet (op_aim o os) (op_aim new news) size sizes → size ≡ needed_size new (fixed_length (take o.inner os) + sum (take (slots_among (take o.inner os)) sizes))
  met_needed same m =
      met_by (nat_eq new.code 163) (nat_eq new.code 153) (subst (λ (code : ℕ). IsMet (if nat_eq code 163 then length_aim (take o.inner os) else Place (slot_form code) o.a) (op_aim new news) size sizes) (sym same) m)

met_first : (aim new : Aim) (aims news : List Aim) (sizes : List ℕ) → AreMet (aim ∷ aims) (new ∷ news) sizes → (size : ℕ) × (rest : List ℕ) × (sizes ≡ size ∷ rest) × IsMet aim new size rest × AreMet aims news rest
met_first aim new aims news [] m = absurd m
met_first aim new aims news (size ∷ sizes) m = (size, sizes, refl, m.0, m.1)

-- the sizes of one more operation, where those behind it have theirs
module _ (o new : Operation) (os news : List Operation) (r : AreRenewed (o ∷ os) (new ∷ news)) (behind : (sizes : List ℕ) → slots_among news ≡ slots_among os → AreMet (op_aims os) (op_aims news) sizes → AreNeeded os news (take (slots_among os) sizes)) (sizes : List ℕ) (e : slots_among (new ∷ news) ≡ slots_among (o ∷ os)) (m : AreMet (op_aims (o ∷ os)) (op_aims (new ∷ news)) sizes) where
  sizes_without : is_slot o.code o.a ≡ false → AreNeeded os news (take (slots_among (o ∷ os)) sizes)
  sizes_without lacks =
      let a = slots_without o os lacks in
      let b = slots_without new news (r.1 lacks) in
      let first = subst (λ (z : List Aim). AreMet z (op_aims (new ∷ news)) sizes) (aims_no o os lacks) m in
      let both = subst (λ (z : List Aim). AreMet (op_aims os) z sizes) (aims_no new news (r.1 lacks)) first in
      subst (λ (n : ℕ). AreNeeded os news (take n sizes)) (sym a) (behind sizes (omega (arith, a, b, e)) both)

  -- there would be too few of them
  still_slot : is_slot o.code o.a ≡ true → is_slot new.code new.a ≡ true
  still_slot has =
      elim (cases_Bool (is_slot new.code new.a)) [
        | inl is ↦ is
        | inr lacks ↦
            let a = slots_with o os has in
            let b = slots_without new news lacks in
            let fewer = renewed_fewer os news r.2 in
            absurd (omega (arith, a, b, e, fewer))
      ]

  sizes_with : is_slot o.code o.a ≡ true → (size : ℕ) × (rest : List ℕ) × (take (slots_among (o ∷ os)) sizes ≡ size ∷ rest) × (size ≡ needed_size new (fixed_length (take o.inner os) + total (take (slots_among (take o.inner os)) rest))) × AreNeeded os news rest
  sizes_with has =
      let still = still_slot has in
      let a = slots_with o os has in
      let b = slots_with new news still in
      let first = subst (λ (z : List Aim). AreMet z (op_aims (new ∷ news)) sizes) (aims_yes o os has) m in
      let both = subst (λ (z : List Aim). AreMet (op_aim o os ∷ op_aims os) z sizes) (aims_yes new news still) first in
      let (size, rest, is, own, others) = met_first (op_aim o os) (op_aim new news) (op_aims os) (op_aims news) sizes both in
      let held : ℕ = slots_among (take o.inner os) in
      let left : List ℕ = take (slots_among os) rest in
      let same : sum (take held rest) ≡ total (take held left) = sym (total_sum (take held left) ∙ ap sum (take-take held (slots_among os) rest (slots_take o.inner os))) in
      let taken : take (slots_among (o ∷ os)) sizes ≡ size ∷ left = ap (λ (n : ℕ). take n sizes) a ∙ ap (take (suc (slots_among os))) is in
      (size, left, taken, met_needed o new os news size rest r.0 own ∙ ap (λ (n : ℕ). needed_size new (fixed_length (take o.inner os) + n)) same, behind rest (omega (arith, a, b, e)) others)

-- so the first sizes are those that the operations need
pub met_sizes : (os news : List Operation) (sizes : List ℕ) → AreRenewed os news → slots_among news ≡ slots_among os → AreMet (op_aims os) (op_aims news) sizes → AreNeeded os news (take (slots_among os) sizes)
met_sizes [] [] sizes r e m = refl
met_sizes [] (new ∷ news) sizes r e m = absurd r
met_sizes (o ∷ os) [] sizes r e m = absurd r
met_sizes (o ∷ os) (new ∷ news) sizes r e m =
    let behind : (rest : List ℕ) → slots_among news ≡ slots_among os → AreMet (op_aims os) (op_aims news) rest → AreNeeded os news (take (slots_among os) rest) = λ rest same more. met_sizes os news rest r.2 same more in
    (sizes_without o new os news r behind sizes e m, sizes_with o new os news r behind sizes e m)

-- and an expression with them has its fewest bytes
pub met_length : NeededAreShortest → LengthsSplit → (refs : List ℕ) (os : List Operation) (sizes : List ℕ) → slots_among (with_refs refs os) ≡ slots_among os → AreMet (op_aims os) (op_aims (with_refs refs os)) sizes → shortest_length refs os ≡ fixed_length os + sum (take (slots_among os) sizes)
met_length shortest split refs os sizes e m =
    let own : List ℕ = take (slots_among os) sizes in
    let same : own ≡ shortest_sizes refs os = shortest refs os own (met_sizes os (with_refs refs os) sizes (with_renewed refs os) e m) in
    split refs os ∙ ap (λ (z : List ℕ). fixed_length os + total z) (sym same) ∙ ap (λ (n : ℕ). fixed_length os + n) (total_sum own)

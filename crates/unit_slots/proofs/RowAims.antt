-- What the slots of operations and of values tell: how many there are, and which is which.
use Rattle.std.proofs.Common.{◌≡◌, ◌≢◌, ◌≤◌, ◌<◌, ◌+◌, ◌-◌, ℕ, zero, suc, List, [], ◌∷◌, ◌++◌, length, take, drop, Bool, true, false, ◌∙◌, sym, ap, refl, arith, inl, inr, add-zero}
use Prim.Native.Nat.{min}
use Rattle.std.specs.Prelude.{if◌then◌else◌, cond, nat_eq}
use Rattle.std.proofs.lemmas.Bool.{cases_lt, eqb-true, false_from_ne_true}
use Rattle.std.proofs.lemmas.List.{take-map, take_all, length-append, append_assoc, append-nil, length-drop}
use Rattle.std.proofs.lemmas.List.Sums.{sum_by-cons, sum_by-take-le}
use Rattle.leb_codec.specs.Layout.{uleb, call}
use Rattle.expr_ops.specs.declared.op.Op.{Op}
use Rattle.expr_ops.specs.Expressions.{Operation}
use Rattle.expr_ops.specs.Drafts.{is_slot}
use Rattle.expr_ops.specs.Ops.{meant, all_meant}
use Rattle.expr_ops.specs.Shortest.{fixed_length}
use Rattle.expr_ops.specs.Slots.{Aim, slots_among, slot_form, length_aim, op_aim, op_aims, expression_aims}
use Rattle.expr_ops.specs.Slots.Aim.{Place}
use Rattle.entry_arena.specs.Arena.{Arena}
use Rattle.entry_read.specs.Slots.{value_aims, aims_before, meaning_at, slots_before}

-- OPERATIONS

pub fixed_take : (n : ℕ) (os : List Operation) → fixed_length (take n os) ≤ fixed_length os
fixed_take zero os = omega arith
fixed_take (suc n) [] = omega arith
fixed_take (suc n) (o ∷ os) = let less : fixed_length (take n os) ≤ fixed_length os = fixed_take n os in omega arith

pub fixed_drop : (n : ℕ) (os : List Operation) → fixed_length (drop n os) ≤ fixed_length os
fixed_drop zero os = omega arith
fixed_drop (suc n) [] = omega arith
fixed_drop (suc n) (o ∷ os) = let less : fixed_length (drop n os) ≤ fixed_length os = fixed_drop n os in omega arith

pub slots_take : (n : ℕ) (os : List Operation) → slots_among (take n os) ≤ slots_among os
slots_take n os = sum_by-take-le (λ (o : Operation). cond (is_slot o.code o.a) 1 0) os n

-- one more aim, if there is a slot
abbrev aims_by : Bool → Aim → List Aim → List Aim
aims_by b aim aims = if b then aim ∷ aims else aims

by_length : (b : Bool) (aim : Aim) (aims : List Aim) → length (aims_by b aim aims) ≡ cond b 1 0 + length aims
by_length true aim aims = omega arith
by_length false aim aims = omega arith

pub op_aims_length : (os : List Operation) → length (op_aims os) ≡ slots_among os
op_aims_length [] = refl
op_aims_length (o ∷ os) =
    let more : length (op_aims os) ≡ slots_among os = op_aims_length os in
    let here : length (op_aims (o ∷ os)) ≡ cond (is_slot o.code o.a) 1 0 + length (op_aims os) = by_length (is_slot o.code o.a) (op_aim o os) (op_aims os) in
    let count : slots_among (o ∷ os) ≡ cond (is_slot o.code o.a) 1 0 + slots_among os = sum_by-cons (λ (p : Operation). cond (is_slot p.code p.a) 1 0) o os in
    omega arith

pub aims_yes : (o : Operation) (os : List Operation) → is_slot o.code o.a ≡ true → op_aims (o ∷ os) ≡ op_aim o os ∷ op_aims os
aims_yes o os has = ap (λ (b : Bool). aims_by b (op_aim o os) (op_aims os)) has

pub aims_no : (o : Operation) (os : List Operation) → is_slot o.code o.a ≡ false → op_aims (o ∷ os) ≡ op_aims os
aims_no o os none = ap (λ (b : Bool). aims_by b (op_aim o os) (op_aims os)) none

pub expression_length : (os : List Operation) → length (expression_aims os) ≡ suc (slots_among os)
expression_length os = ap suc (op_aims_length os)

-- what an operation's slot tells, by its opcode
pub aim_length : (o : Operation) (os : List Operation) → o.code ≡ 163 → op_aim o os ≡ length_aim (take o.inner os)
aim_length o os is = ap (λ (n : ℕ). if nat_eq n 163 then length_aim (take o.inner os) else Place (slot_form n) o.a) is

pub aim_call : (o : Operation) (os : List Operation) → o.code ≡ 153 → op_aim o os ≡ Place call o.a
aim_call o os is = ap (λ (n : ℕ). if nat_eq n 163 then length_aim (take o.inner os) else Place (slot_form n) o.a) is

other_code : (code other : ℕ) → code ≢ other → nat_eq code other ≡ false
other_code code other differs = false_from_ne_true (nat_eq code other) (λ same. differs (eqb-true code other same))

pub aim_uleb : (o : Operation) (os : List Operation) → o.code ≢ 163 → o.code ≢ 153 → op_aim o os ≡ Place uleb o.a
aim_uleb o os no_length no_call =
    let first : nat_eq o.code 163 ≡ false = other_code o.code 163 no_length in
    let second : nat_eq o.code 153 ≡ false = other_code o.code 153 no_call in
    ap (λ (b : Bool). if b then length_aim (take o.inner os) else Place (slot_form o.code) o.a) first ∙ ap (λ (b : Bool). Place (if b then call else uleb) o.a) second

-- PARTS OF LISTS

pub meant_take : (bytes : List ℕ) (ops : List Op) (n : ℕ) → all_meant bytes (take n ops) ≡ take n (all_meant bytes ops)
meant_take bytes ops n = sym (take-map (meant bytes) n ops)

-- so many of a list, as far as there are
pub take_least : {A : Type 0} (xs : List A) (n count : ℕ) → count ≡ min (length xs) n → take count xs ≡ take n xs
take_least xs n count is = elim (cases_lt (length xs) n) [
  | inl less ↦ take_all count xs (omega (arith, is)) ∙ sym (take_all n xs (omega arith))
  | inr most ↦ let same : count ≡ n = omega (arith, is) in ap (λ (z : ℕ). take z xs) same
]

-- what stands behind a place
pub rest_is : {A : Type 0} (xs : List A) (n : ℕ) → take (length xs - n) (drop n xs) ≡ drop n xs
rest_is xs n = let long : length (drop n xs) ≡ length xs - n = length-drop n xs in take_all (length xs - n) (drop n xs) (omega arith)

-- VALUES

module _ (f : Arena) (ops : ℕ → List Operation) where
  pub slots_next : (k : ℕ) → slots_before f ops (suc k) ≡ slots_before f ops k + length (value_aims (meaning_at f k) (ops k))
  slots_next k = length-append (aims_before (meaning_at f) ops k) (value_aims (meaning_at f k) (ops k))

  -- the aims of so many more values stand behind
  aims_on : (k more : ℕ) → (rest : List Aim) × (aims_before (meaning_at f) ops (k + more) ≡ aims_before (meaning_at f) ops k ++ rest)
  aims_on k zero = ([], ap (aims_before (meaning_at f) ops) (add-zero k) ∙ sym (append-nil (aims_before (meaning_at f) ops k)))
  aims_on k (suc more) =
      let own : List Aim = value_aims (meaning_at f (k + more)) (ops (k + more)) in
      let r = aims_on k more in
      let e : k + suc more ≡ suc (k + more) = omega arith in
      (r.0 ++ own, ap (aims_before (meaning_at f) ops) e ∙ ap (λ (z : List Aim). z ++ own) r.1 ∙ append_assoc (aims_before (meaning_at f) ops k) r.0 own)

  -- those of a value stand behind those of the values before it
  pub aims_of_value : (k n : ℕ) → k < n → (rest : List Aim) × (aims_before (meaning_at f) ops n ≡ aims_before (meaning_at f) ops k ++ (value_aims (meaning_at f k) (ops k) ++ rest))
  aims_of_value k n lt =
      let e : n ≡ suc k + (n - suc k) = omega arith in
      let r = aims_on (suc k) (n - suc k) in
      (r.0, ap (aims_before (meaning_at f) ops) e ∙ r.1 ∙ append_assoc (aims_before (meaning_at f) ops k) (value_aims (meaning_at f k) (ops k)) r.0)

  pub slots_up : (k n : ℕ) → k ≤ n → slots_before f ops k ≤ slots_before f ops n
  slots_up k n le =
      let r = aims_on k (n - k) in
      let e : k + (n - k) ≡ n = omega arith in
      let long : length (aims_before (meaning_at f) ops (k + (n - k))) ≡ slots_before f ops k + length r.0 = ap length r.1 ∙ length-append (aims_before (meaning_at f) ops k) r.0 in
      let same : length (aims_before (meaning_at f) ops (k + (n - k))) ≡ slots_before f ops n = ap (slots_before f ops) e in
      omega (arith, long, same)

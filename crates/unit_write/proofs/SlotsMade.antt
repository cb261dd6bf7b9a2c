-- The slots of expressions and values, made one after the other.
use Rattle.std.proofs.Common.{◌≡◌, ◌≢◌, ◌≤◌, ◌<◌, ◌+◌, ◌-◌, ◌^◌, ℕ, suc, List, [], ◌∷◌, ◌++◌, length, get_or, take, drop, Bool, true, false, ◌∙◌, sym, ap, refl, subst, arith, inl, inr, add-zero}
use Prim.Native.Nat.{min}
use Rattle.std.specs.Prelude.{if◌then◌else◌, nat_eq}
use Rattle.std.proofs.lemmas.Bool.{cases_lt, eqb-true, false_from_ne_true}
use Rattle.std.proofs.lemmas.List.{take-map, take_all, length-append, length_push, append_assoc, append-nil, get_or_push, get_or_append_left, get_or-append-add, drop_more, drop_all, drop-map, length-drop}
use Rattle.expr_ops.specs.declared.op.Op.{Op}
use Rattle.expr_ops.specs.Expressions.{Operation}
use Rattle.expr_ops.specs.Drafts.{is_slot}
use Rattle.expr_ops.specs.Ops.{meant, all_meant}
use Rattle.expr_ops.specs.Shortest.{fixed_length}
use Rattle.expr_ops.specs.Slots.{Aim, slots_among, slot_form, length_aim, op_aim, op_aims, expression_aims}
use Rattle.expr_ops.specs.Slots.Aim.{Place, Length}
use Rattle.leb_codec.specs.Layout.{uleb, call}
use Rattle.slot_layout.specs.declared.slots.Slot.{Slot}
use Rattle.dw_base.specs.declared.fault.Span.{Span}
use Rattle.form_codec.specs.declared.value.Value.{Value}
use Rattle.form_codec.specs.declared.value.Value.TheVariants as value
use Rattle.form_codec.specs.Values.{meant_in}
use Rattle.entry_arena.specs.Arena.{Arena, value_at}
use Rattle.entry_read.specs.Slots.{value_aims, aims_of, aims_before, meaning_at, slots_before, aim_at}
use Rattle.unit_write.specs.declared.marks.Marks.{Marks}
use Rattle.unit_write.specs.declared.slots.Spot.{Spot}
use Rattle.unit_write.specs.Slots.{spot_at}
use Rattle.unit_write.specs.inside.Marks.{slot_for, HasSpot, HasSpotFor, HaveSpots, AreSlotsMade}
use Rattle.unit_write.proofs.SlotMeasures.{other_aims}
use Rattle.unit_write.proofs.SlotAims.{fixed_drop, op_aims_length, expression_length, aims_yes, aims_no, slots_next, slots_up, aim_of_value}

pub meant_take : (bytes : List ℕ) (ops : List Op) (n : ℕ) → all_meant bytes (take n ops) ≡ take n (all_meant bytes ops)
meant_take bytes ops n = sym (take-map (meant bytes) n ops)

-- so many of a list, as far as there are
pub take_least : {A : Type 0} (xs : List A) (n count : ℕ) → count ≡ min (length xs) n → take count xs ≡ take n xs
take_least xs n count is = elim (cases_lt (length xs) n) [
  | inl less ↦ take_all count xs (omega (arith, is)) ∙ sym (take_all n xs (omega arith))
  | inr most ↦ let same : count ≡ n = omega (arith, is) in ap (λ (z : ℕ). take z xs) same
]

-- what stands behind a place
pub rest_is : {A : Type 0} (xs : List A) (n : ℕ) → take (length xs - n) (drop n xs) ≡ drop n xs
rest_is xs n = let long : length (drop n xs) ≡ length xs - n = length-drop n xs in take_all (length xs - n) (drop n xs) (omega arith)

-- what an operation's slot tells, by its opcode
pub aim_length : (o : Operation) (os : List Operation) → o.code ≡ 163 → op_aim o os ≡ length_aim (take o.inner os)
aim_length o os is = ap (λ (n : ℕ). if nat_eq n 163 then length_aim (take o.inner os) else Place (slot_form n) o.a) is

pub aim_call : (o : Operation) (os : List Operation) → o.code ≡ 153 → op_aim o os ≡ Place call o.a
aim_call o os is = ap (λ (n : ℕ). if nat_eq n 163 then length_aim (take o.inner os) else Place (slot_form n) o.a) is

other_code : (code other : ℕ) → code ≢ other → nat_eq code other ≡ false
other_code code other differs = false_from_ne_true (nat_eq code other) (λ same. differs (eqb-true code other same))

pub aim_uleb : (o : Operation) (os : List Operation) → o.code ≢ 163 → o.code ≢ 153 → op_aim o os ≡ Place uleb o.a
aim_uleb o os no_length no_call =
    let first : nat_eq o.code 163 ≡ false = other_code o.code 163 no_length in
    let second : nat_eq o.code 153 ≡ false = other_code o.code 153 no_call in
    ap (λ (b : Bool). if b then length_aim (take o.inner os) else Place (slot_form o.code) o.a) first ∙ ap (λ (b : Bool). Place (if b then call else uleb) o.a) second

-- one more slot
pub made_push : (marks : Marks) (spots : List Spot) (aims : List Aim) (aim : Aim) (old new : List Slot) (slot : Slot) → AreSlotsMade marks spots aims old → new ≡ old ++ slot ∷ [] → slot ≡ slot_for marks (spot_at spots (length old)) (length old) aim → AreSlotsMade marks spots (aims ++ aim ∷ []) new
made_push marks spots aims aim old new slot h pushed is =
    let count : length old ≡ length aims = h.count in
    let long : length (aims ++ aim ∷ []) ≡ length aims + 1 = length_push aims aim in
    record {
      count = ap length pushed ∙ length_push old slot ∙ ap (λ (z : ℕ). z + 1) count ∙ sym long;
      each = λ i d lt. elim (cases_lt i (length aims)) [
        | inl less ↦ ap (λ (z : List Slot). get_or z i d) pushed ∙ get_or_append_left old (slot ∷ []) d i (omega arith) ∙ h.each i d less ∙ ap (slot_for marks (spot_at spots i) i) (sym (get_or_append_left aims (aim ∷ []) (Length 0 0) i less))
        | inr most ↦
            let here : length old ≡ i = omega arith in
            ap (λ (z : List Slot). get_or z i d) pushed ∙ get_or_push old slot d i here ∙ is ∙ ap (λ (z : ℕ). slot_for marks (spot_at spots z) z aim) here ∙ ap (slot_for marks (spot_at spots i) i) (sym (get_or_push aims aim (Length 0 0) i (omega arith)))
      ];
    }

-- the slots of an expression so far: those of its length and of the first operations
pub record AreBegun (marks : Marks) (spots : List Spot) (bytes : List ℕ) (ops : List Op) (k : ℕ) (old now : List Slot) : Type 0 where
  pub done : List Aim
  pub all : done ++ op_aims (all_meant bytes (drop k ops)) ≡ expression_aims (all_meant bytes ops)
  pub count : length now ≡ length old + length done
  pub made : (aims : List Aim) → AreSlotsMade marks spots aims old → AreSlotsMade marks spots (aims ++ done) now

-- there is room for the slots of an expression
pub length_few : (marks : Marks) (from : ℕ) (os : List Operation) (spots : List Spot) → HaveSpots marks from (expression_aims os) spots → length spots < 2 ^ 32 → suc from + slots_among os < 2 ^ 32
length_few marks from os spots have few =
    let inside : from + length (expression_aims os) ≤ length spots = have.inside in
    let long : length (expression_aims os) ≡ suc (slots_among os) = expression_length os in
    omega arith

pub begun : (marks : Marks) (spots : List Spot) (bytes : List ℕ) (ops : List Op) (old now : List Slot) (slot : Slot) → now ≡ old ++ slot ∷ [] → slot ≡ slot_for marks (spot_at spots (length old)) (length old) (length_aim (all_meant bytes ops)) → AreBegun marks spots bytes ops 0 old now
begun marks spots bytes ops old now slot pushed is = record {
  done = length_aim (all_meant bytes ops) ∷ [];
  all = refl;
  count = ap length pushed ∙ length_push old slot;
  made = λ aims h. made_push marks spots aims (length_aim (all_meant bytes ops)) old now slot h pushed is;
}

module _ (marks : Marks) (spots : List Spot) (bytes : List ℕ) (ops : List Op) (k : ℕ) (old now : List Slot) (h : AreBegun marks spots bytes ops k old now) (op : Op) (d : Op) (lt : k < length ops) (is_op : op ≡ get_or ops k d) where
  o : Operation
  o = meant bytes op

  behind : List Operation
  behind = all_meant bytes (drop (k + 1) ops)

  left : h.done ++ op_aims (o ∷ behind) ≡ expression_aims (all_meant bytes ops)
  unfolding o behind
  left = ap (λ (z : Op). h.done ++ op_aims (meant bytes z ∷ all_meant bytes (drop (k + 1) ops))) is_op ∙ ap (λ (z : List Op). h.done ++ op_aims (all_meant bytes z)) (sym (drop_more ops k d lt)) ∙ h.all

  -- an operation without a slot
  pub begun_none : is_slot op.code op.a ≡ false → AreBegun marks spots bytes ops (k + 1) old now
  unfolding o behind
  begun_none none = record { done = h.done; all = ap (λ (z : List Aim). h.done ++ z) (sym (aims_no o behind none)) ∙ left; count = h.count; made = h.made }

  module _ (has : is_slot op.code op.a ≡ true) where
    listed : h.done ++ op_aim o behind ∷ op_aims behind ≡ expression_aims (all_meant bytes ops)
    unfolding o behind
    listed = ap (λ (z : List Aim). h.done ++ z) (sym (aims_yes o behind has)) ∙ left

    long : length (expression_aims (all_meant bytes ops)) ≡ length h.done + suc (slots_among behind)
    long = ap length (sym listed) ∙ length-append h.done (op_aim o behind ∷ op_aims behind) ∙ ap (λ (z : ℕ). length h.done + suc z) (op_aims_length behind)

    -- one with a slot
    pub begun_one : (new : List Slot) (slot : Slot) → new ≡ now ++ slot ∷ [] → slot ≡ slot_for marks (spot_at spots (length now)) (length now) (op_aim (meant bytes op) (all_meant bytes (drop (k + 1) ops))) → AreBegun marks spots bytes ops (k + 1) old new
    unfolding o behind
    begun_one new slot pushed is =
        let count : length now ≡ length old + length h.done = h.count in
        let more : length (h.done ++ op_aim o behind ∷ []) ≡ length h.done + 1 = length_push h.done (op_aim o behind) in
        let one : length new ≡ length now + 1 = ap length pushed ∙ length_push now slot in
        record {
          done = h.done ++ op_aim o behind ∷ [];
          all = append_assoc h.done (op_aim o behind ∷ []) (op_aims behind) ∙ listed;
          count = omega arith;
          made = λ aims made. subst (λ (z : List Aim). AreSlotsMade marks spots z new) (append_assoc aims h.done (op_aim o behind ∷ [])) (made_push marks spots (aims ++ h.done) (op_aim o behind) now new slot (h.made aims made) pushed is);
        }

    module _ (have : HaveSpots marks (length old) (expression_aims (all_meant bytes ops)) spots) where
      pub number_inside : length now < length spots
      number_inside =
          let inside : length old + length (expression_aims (all_meant bytes ops)) ≤ length spots = have.inside in
          let count : length now ≡ length old + length h.done = h.count in
          let all = long in
          omega (arith, inside, count, all)

      pub number_few : length spots < 2 ^ 32 → suc (length now) + slots_among (all_meant bytes (drop (k + 1) ops)) < 2 ^ 32
      unfolding behind
      number_few few =
          let inside : length old + length (expression_aims (all_meant bytes ops)) ≤ length spots = have.inside in
          let count : length now ≡ length old + length h.done = h.count in
          let all : length (expression_aims (all_meant bytes ops)) ≡ length h.done + suc (slots_among behind) = long in
          omega (arith, inside, count, all, few)

      pub has_spot_for : HasSpotFor marks (op_aim (meant bytes op) (all_meant bytes (drop (k + 1) ops))) (spot_at spots (length now))
      unfolding o behind
      has_spot_for =
          let all : length (expression_aims (all_meant bytes ops)) ≡ length h.done + suc (slots_among behind) = long in
          let at : aim_at (expression_aims (all_meant bytes ops)) (length h.done) ≡ op_aim o behind = ap (λ (z : List Aim). aim_at z (length h.done)) (sym listed) ∙ ap (aim_at (h.done ++ op_aim o behind ∷ op_aims behind)) (sym (add-zero (length h.done))) ∙ get_or-append-add h.done (op_aim o behind ∷ op_aims behind) 0 (Length 0 0) in
          subst (λ (z : ℕ). HasSpotFor marks (op_aim o behind) (spot_at spots z)) (sym h.count) (subst (λ (z : Aim). HasSpotFor marks z (spot_at spots (length old + length h.done))) at (have.each (length h.done) (omega (arith, all))))

  -- what follows has no more bytes than all
  pub behind_fits : fixed_length (all_meant bytes ops) < 2 ^ 31 → fixed_length (all_meant bytes (drop (k + 1) ops)) < 2 ^ 31
  behind_fits fits =
      let part : fixed_length (all_meant bytes (drop (k + 1) ops)) ≡ fixed_length (drop (k + 1) (all_meant bytes ops)) = ap fixed_length (sym (drop-map (meant bytes) (k + 1) ops)) in
      let less : fixed_length (drop (k + 1) (all_meant bytes ops)) ≤ fixed_length (all_meant bytes ops) = fixed_drop (k + 1) (all_meant bytes ops) in
      omega arith

-- all operations are done
pub all_begun : (marks : Marks) (spots : List Spot) (bytes : List ℕ) (ops : List Op) (k : ℕ) (old now : List Slot) → AreBegun marks spots bytes ops k old now → length ops ≤ k → (aims : List Aim) → AreSlotsMade marks spots aims old → AreSlotsMade marks spots (aims ++ expression_aims (all_meant bytes ops)) now
all_begun marks spots bytes ops k old now h all aims made =
    let none : drop k ops ≡ [] = drop_all k ops all in
    let done : h.done ≡ expression_aims (all_meant bytes ops) = sym (append-nil h.done) ∙ ap (λ (z : List Op). h.done ++ op_aims (all_meant bytes z)) (sym none) ∙ h.all in
    subst (λ (z : List Aim). AreSlotsMade marks spots (aims ++ z) now) done (h.made aims made)

-- VALUES

-- those of a unit are those of each value
pub spots_of_value : (marks : Marks) (f : Arena) (ops : ℕ → List Operation) (spots : List Spot) (k : ℕ) → k < length f.values → HaveSpots marks 0 (aims_of f ops) spots → HaveSpots marks (slots_before f ops k) (value_aims (meaning_at f k) (ops k)) spots
spots_of_value marks f ops spots k lt have =
    let next : slots_before f ops (suc k) ≡ slots_before f ops k + length (value_aims (meaning_at f k) (ops k)) = slots_next f ops k in
    let up : slots_before f ops (suc k) ≤ length (aims_of f ops) = slots_up f ops (suc k) (length f.values) lt in
    let inside : 0 + length (aims_of f ops) ≤ length spots = have.inside in
    record {
      inside = omega arith;
      each = λ i less. subst (λ (z : Aim). HasSpotFor marks z (spot_at spots (slots_before f ops k + i))) (aim_of_value f ops k (length f.values) i lt less) (subst (λ (z : ℕ). HasSpotFor marks (aim_at (aims_of f ops) (slots_before f ops k + i)) (spot_at spots z)) (let e : 0 + (slots_before f ops k + i) ≡ slots_before f ops k + i = omega arith in e) (have.each (slots_before f ops k + i) (omega arith)));
    }

module _ (marks : Marks) (f : Arena) (ops : ℕ → List Operation) (spots : List Spot) (k : ℕ) (lt : k < length f.values) where
  -- those of a reference within the unit
  pub local_spots : (n : ℕ) → value_at f.values k ≡ value.LocalRef n → HaveSpots marks 0 (aims_of f ops) spots → HaveSpots marks (slots_before f ops k) (Place uleb n ∷ []) spots
  local_spots n is have = subst (λ (z : List Aim). HaveSpots marks (slots_before f ops k) z spots) (ap (λ (v : Value). value_aims (meant_in f.section v) (ops k)) is) (spots_of_value marks f ops spots k lt have)

  pub local_spot : (n : ℕ) → value_at f.values k ≡ value.LocalRef n → HaveSpots marks 0 (aims_of f ops) spots → (slots_before f ops k < length spots) × HasSpot marks (spot_at spots (slots_before f ops k))
  local_spot n is have =
      let own = local_spots n is have in
      let inside : slots_before f ops k + 1 ≤ length spots = own.inside in
      (omega (arith, inside), subst (λ (z : ℕ). HasSpot marks (spot_at spots z)) (add-zero (slots_before f ops k)) (own.each 0 (omega arith)))

  pub local_made : (n : ℕ) → value_at f.values k ≡ value.LocalRef n → (old new : List Slot) (slot : Slot) → AreSlotsMade marks spots (aims_before (meaning_at f) ops k) old → new ≡ old ++ slot ∷ [] → slot ≡ slot_for marks (spot_at spots (length old)) (length old) (Place uleb n) → AreSlotsMade marks spots (aims_before (meaning_at f) ops (suc k)) new
  local_made n is old new slot made pushed slot_is =
      subst (λ (z : List Aim). AreSlotsMade marks spots (aims_before (meaning_at f) ops k ++ z) new) (sym (ap (λ (v : Value). value_aims (meant_in f.section v) (ops k)) is)) (made_push marks spots (aims_before (meaning_at f) ops k) (Place uleb n) old new slot made pushed slot_is)

  -- those of an expression
  pub expr_spots : (span : Span) → value_at f.values k ≡ value.Expr span → HaveSpots marks 0 (aims_of f ops) spots → HaveSpots marks (slots_before f ops k) (expression_aims (ops k)) spots
  expr_spots span is have = subst (λ (z : List Aim). HaveSpots marks (slots_before f ops k) z spots) (ap (λ (v : Value). value_aims (meant_in f.section v) (ops k)) is) (spots_of_value marks f ops spots k lt have)

  pub expr_made : (span : Span) → value_at f.values k ≡ value.Expr span → (new : List Slot) → AreSlotsMade marks spots (aims_before (meaning_at f) ops k ++ expression_aims (ops k)) new → AreSlotsMade marks spots (aims_before (meaning_at f) ops (suc k)) new
  expr_made span is new made = subst (λ (z : List Aim). AreSlotsMade marks spots (aims_before (meaning_at f) ops k ++ z) new) (sym (ap (λ (v : Value). value_aims (meant_in f.section v) (ops k)) is)) made

  -- another value has none
  pub other_made : ((span : Span) → value_at f.values k ≡ value.Expr span → ⊥) → ((n : ℕ) → value_at f.values k ≡ value.LocalRef n → ⊥) → (now : List Slot) → AreSlotsMade marks spots (aims_before (meaning_at f) ops k) now → AreSlotsMade marks spots (aims_before (meaning_at f) ops (suc k)) now
  other_made no_expr no_local now made =
      let none : aims_before (meaning_at f) ops (suc k) ≡ aims_before (meaning_at f) ops k = ap (λ (z : List Aim). aims_before (meaning_at f) ops k ++ z) (other_aims f.section (value_at f.values k) (ops k) no_expr no_local) ∙ append-nil (aims_before (meaning_at f) ops k) in
      subst (λ (z : List Aim). AreSlotsMade marks spots z now) (sym none) made

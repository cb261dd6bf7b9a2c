-- The rows of slots, made one after the other.
use Rattle.std.proofs.Common.{◌≡◌, ◌≤◌, ◌<◌, ◌+◌, ◌-◌, ◌*◌, ◌^◌, ◌⊎◌, ℕ, zero, suc, List, [], ◌∷◌, ◌++◌, length, get_or, take, drop, Bool, true, false, ◌∙◌, sym, ap, refl, subst, arith, inl, inr, add-zero}
use Rattle.std.specs.Prelude.{if◌then◌else◌, nat_eq}
use Rattle.std.specs.List.{All}
use Rattle.std.proofs.lemmas.Bool.{cases_lt}
use Rattle.std.proofs.lemmas.List.{length-append, length-map, map-append, length_push, append_assoc, append-nil, get_or_push, get_or_append_left, get_or-append-add, get_or-map, drop_more, drop_all, drop-map}
use Rattle.dw_base.specs.declared.fault.Reach.TheVariants.{Wide}
use Rattle.leb_codec.specs.Layout.{SlotRow, uleb, row_at}
use Rattle.slot_layout.specs.declared.slots.Slot.{Slot}
use Rattle.slot_layout.specs.declared.slots.SlotKind.TheVariants.{Uleb}
use Rattle.slot_layout.specs.Rows.{row_of, rows_of}
use Rattle.expr_ops.specs.declared.op.Op.{Op}
use Rattle.expr_ops.specs.Expressions.{Operation, IsExpression}
use Rattle.expr_ops.specs.Drafts.{is_slot}
use Rattle.expr_ops.specs.Ops.{meant, all_meant}
use Rattle.expr_ops.specs.Shortest.{fixed_length}
use Rattle.expr_ops.specs.Slots.{Aim, slots_among, slot_form, length_aim, op_aim, op_aims, expression_aims}
use Rattle.expr_ops.specs.Slots.Aim.{Place, Length}
use Rattle.expr_ops.proofs.SlotLaws.{five_length}
use Rattle.expr_ops.proofs.PlainLaws.{expression_sized}
use Rattle.entry_read.specs.Slots.{slots_before, aim_at, IsRowOf}
use Rattle.entry_read.specs.Units.{HeadAndForest}
use Rattle.written_files.specs.Layouts.{place_told}
use Rattle.unit_slots.specs.declared.spots.Spots.{Spots}
use Rattle.unit_slots.specs.inside.Rows.{HasSpots, NamesThere, IsRowFor, AreRows, entry_places}
use Rattle.unit_slots.proofs.RowAims.{fixed_drop, slots_take, op_aims_length, aims_yes, aims_no, slots_up}

-- a length
pub length_row : (unit : HeadAndForest) (held : ℕ → List Operation) (own : List ℕ) (number : ℕ) (os : List Operation) (slot : Slot) → row_of slot ≡ record { form = uleb; fixed = fixed_length os; from = suc number; to = suc number + slots_among os } → fixed_length os < 2 ^ 34 → IsRowFor unit held own number (length_aim os) slot
length_row unit held own number os slot is fits =
    let fixed : slot.fixed ≡ fixed_length os = ap (λ (r : SlotRow). r.fixed) is in
    record { row = λ listed. is; small = omega arith }

-- ONE ROW

-- no more slots follow than so many
abbrev pub IsWithin : ℕ → Aim → Type 0
IsWithin left (Place form n) = Unit {0}
IsWithin left (Length fixed count) = count ≤ left

-- all that is said of a row, of so many
pub record RowHolds (unit : HeadAndForest) (held : ℕ → List Operation) (own : List ℕ) (total i : ℕ) (aim : Aim) (row : SlotRow) : Type 0 where
  pub is : (listed : List ℕ) → IsRowOf unit.forest held (entry_places unit.forest) (own ++ listed) unit.head.at (place_told unit.head.at aim) i aim row
  pub order : row.from ≤ row.to
  pub inside : (row.to ≤ length own) ⊎ (row.to ≤ total)
  pub small : row.fixed < 2 ^ 34

module _ (unit : HeadAndForest) (held : ℕ → List Operation) (own : List ℕ) where
  more_total : (total more i : ℕ) (aim : Aim) (row : SlotRow) → total ≤ more → RowHolds unit held own total i aim row → RowHolds unit held own more i aim row
  more_total total more i aim row le h = record {
    is = h.is;
    order = h.order;
    inside = elim h.inside [
      | inl first ↦ inl first
      | inr last ↦ inr (omega arith)
    ];
    small = h.small;
  }

  row_holds : (spots : Spots) → HasSpots unit held own spots → (total i left : ℕ) (aim : Aim) (slot : Slot) → IsRowFor unit held own i aim slot → IsWithin left aim → suc i + left ≤ total → RowHolds unit held own total i aim (row_of slot)
  row_holds spots have total i left (Place form n) slot h within fits =
      let row = h.row [] in
      let from : slot.from ≡ 0 = row.from in
      let to : slot.to ≡ slots_before unit.forest held row.values = row.to in
      let up : slots_before unit.forest held row.values ≤ slots_before unit.forest held (length unit.forest.values) = slots_up unit.forest held row.values (length unit.forest.values) row.before.few in
      let whole : length own ≡ slots_before unit.forest held (length unit.forest.values) = have.begin.whole in
      record { is = h.row; order = omega arith; inside = inl (omega arith); small = h.small }
  row_holds spots have total i left (Length fixed count) slot h within fits =
      let row : row_of slot ≡ record { form = uleb; fixed = fixed; from = suc i; to = suc i + count } = h.row [] in
      let from : slot.from ≡ suc i = ap (λ (r : SlotRow). r.from) row in
      let to : slot.to ≡ suc i + count = ap (λ (r : SlotRow). r.to) row in
      record { is = h.row; order = omega arith; inside = inr (omega arith); small = h.small }

  row_of_all : (aims : List Aim) (slots : List Slot) → AreRows unit held own aims slots → (i : ℕ) → i < length slots → RowHolds unit held own (length slots) i (aim_at aims i) (row_at (rows_of slots) i)
  row_of_all aims slots h i lt = record { is = λ listed. h.rows listed i lt; order = h.order i lt; inside = h.inside i lt; small = h.small i lt }

  all_rows : (aims : List Aim) (slots : List Slot) → length slots ≡ length aims → ((i : ℕ) → i < length slots → RowHolds unit held own (length slots) i (aim_at aims i) (row_at (rows_of slots) i)) → AreRows unit held own aims slots
  all_rows aims slots counted each = record {
    counted = counted;
    rows = λ listed i lt. (each i lt).is listed;
    order = λ i lt. (each i lt).order;
    inside = λ i lt. (each i lt).inside;
    small = λ i lt. (each i lt).small;
  }

  pub no_rows : (slots : List Slot) → slots ≡ [] → AreRows unit held own [] slots
  no_rows slots none =
      let empty : length slots ≡ 0 = ap length none in
      all_rows [] slots empty (λ i lt. absurd (omega arith))

-- ROWS FROM A NUMBER ON

no_slot : Slot
no_slot = record { kind = Uleb; fixed = 0; from = 0; to = 0 }

pub record AreRowsFrom (unit : HeadAndForest) (held : ℕ → List Operation) (own : List ℕ) (number : ℕ) (aims : List Aim) (slots : List Slot) : Type 0 where
  pub counted : length slots ≡ length aims
  pub each : (j : ℕ) (d : Slot) → j < length slots → IsRowFor unit held own (number + j) (aim_at aims j) (get_or slots j d)

-- no more slots follow each than there are
abbrev pub AreWithin : List Aim → Type 0
AreWithin [] = Unit {0}
AreWithin (aim ∷ aims) = IsWithin (length aims) aim × AreWithin aims

within_at : (aims : List Aim) (i : ℕ) → AreWithin aims → i < length aims → IsWithin (length aims - suc i) (aim_at aims i)
within_at [] i h lt = absurd (omega arith)
within_at (x ∷ xs) zero h lt = subst (λ (n : ℕ). IsWithin n x) (let e : length xs ≡ length (x ∷ xs) - 1 = omega arith in e) h.0
within_at (x ∷ xs) (suc i) h lt = subst (λ (n : ℕ). IsWithin n (aim_at xs i)) (let e : length xs - suc i ≡ length (x ∷ xs) - suc (suc i) = omega arith in e) (within_at xs i h.1 (omega arith))

module _ (unit : HeadAndForest) (held : ℕ → List Operation) (own : List ℕ) where
  pub from_push : (number : ℕ) (aims : List Aim) (aim : Aim) (old : List Slot) (slot : Slot) → AreRowsFrom unit held own number aims old → IsRowFor unit held own (number + length old) aim slot → AreRowsFrom unit held own number (aims ++ aim ∷ []) (old ++ slot ∷ [])
  from_push number aims aim old slot h is =
      let count : length old ≡ length aims = h.counted in
      let long : length (old ++ slot ∷ []) ≡ length old + 1 = length_push old slot in
      let all : length (aims ++ aim ∷ []) ≡ length aims + 1 = length_push aims aim in
      record {
        counted = omega arith;
        each = λ j d lt. elim (cases_lt j (length aims)) [
          | inl less ↦
              let here : get_or (old ++ slot ∷ []) j d ≡ get_or old j d = get_or_append_left old (slot ∷ []) d j (omega arith) in
              let there : aim_at (aims ++ aim ∷ []) j ≡ aim_at aims j = get_or_append_left aims (aim ∷ []) (Length 0 0) j less in
              subst (λ (z : Aim). IsRowFor unit held own (number + j) z (get_or (old ++ slot ∷ []) j d)) (sym there) (subst (IsRowFor unit held own (number + j) (aim_at aims j)) (sym here) (h.each j d (omega arith)))
          | inr most ↦
              let last : length old ≡ j = omega arith in
              let here : get_or (old ++ slot ∷ []) j d ≡ slot = get_or_push old slot d j last in
              let there : aim_at (aims ++ aim ∷ []) j ≡ aim = get_or_push aims aim (Length 0 0) j (omega arith) in
              subst (λ (z : Aim). IsRowFor unit held own (number + j) z (get_or (old ++ slot ∷ []) j d)) (sym there) (subst (IsRowFor unit held own (number + j) aim) (sym here) (subst (λ (z : ℕ). IsRowFor unit held own (number + z) aim slot) last is))
        ];
      }

  pub from_none : (number : ℕ) → AreRowsFrom unit held own number [] []
  from_none number = record { counted = refl; each = λ j d lt. absurd (omega arith) }

  -- they go on with others
  pub rows_on : (spots : Spots) → HasSpots unit held own spots → (aims more : List Aim) (old added : List Slot) → AreRows unit held own aims old → AreWithin more → AreRowsFrom unit held own (length old) more added → AreRows unit held own (aims ++ more) (old ++ added)
  rows_on spots have aims more old added h within from =
      let count : length old ≡ length aims = h.counted in
      let others : length added ≡ length more = from.counted in
      let long : length (old ++ added) ≡ length old + length added = length-append old added in
      let all : length (aims ++ more) ≡ length aims + length more = length-append aims more in
      let rows : rows_of (old ++ added) ≡ rows_of old ++ rows_of added = map-append row_of old added in
      let first : length (rows_of old) ≡ length old = length-map old row_of in
      all_rows unit held own (aims ++ more) (old ++ added) (omega arith) (λ i lt. elim (cases_lt i (length old)) [
        | inl less ↦
            let here : row_at (rows_of (old ++ added)) i ≡ row_at (rows_of old) i = ap (λ (z : List SlotRow). row_at z i) rows ∙ get_or_append_left (rows_of old) (rows_of added) _ i (omega arith) in
            let there : aim_at (aims ++ more) i ≡ aim_at aims i = get_or_append_left aims more (Length 0 0) i (omega arith) in
            subst (λ (z : Aim). RowHolds unit held own (length (old ++ added)) i z (row_at (rows_of (old ++ added)) i)) (sym there) (subst (RowHolds unit held own (length (old ++ added)) i (aim_at aims i)) (sym here) (more_total unit held own (length old) (length (old ++ added)) i (aim_at aims i) (row_at (rows_of old) i) (omega arith) (row_of_all unit held own aims old h i less)))
        | inr most ↦
            let is : i ≡ length old + (i - length old) = omega arith in
            let below : i - length old < length added = omega arith in
            let here : row_at (rows_of (old ++ added)) i ≡ row_of (get_or added (i - length old) no_slot) =
            ap (λ (z : List SlotRow). row_at z i) rows
            ∙ ap (row_at (rows_of old ++ rows_of added)) (let e : i ≡ length (rows_of old) + (i - length old) = omega arith in e)
            ∙ get_or-append-add (rows_of old) (rows_of added) (i - length old) _
            ∙ get_or-map row_of added (i - length old) no_slot _ below in
            let there : aim_at (aims ++ more) i ≡ aim_at more (i - length old) =
            ap (aim_at (aims ++ more)) (let e : i ≡ length aims + (i - length old) = omega arith in e)
            ∙ get_or-append-add aims more (i - length old) (Length 0 0) in
            let own_row : IsRowFor unit held own i (aim_at more (i - length old)) (get_or added (i - length old) no_slot) = subst (λ (z : ℕ). IsRowFor unit held own z (aim_at more (i - length old)) (get_or added (i - length old) no_slot)) (sym is) (from.each (i - length old) no_slot below) in
            let holds = row_holds unit held own spots have (length (old ++ added)) i (length more - suc (i - length old)) (aim_at more (i - length old)) (get_or added (i - length old) no_slot) own_row (within_at more (i - length old) within (omega arith)) (omega arith) in
            subst (λ (z : Aim). RowHolds unit held own (length (old ++ added)) i z (row_at (rows_of (old ++ added)) i)) (sym there) (subst (RowHolds unit held own (length (old ++ added)) i (aim_at more (i - length old))) (sym here) holds)
      ])

-- EXPRESSIONS

-- what an entry_value holds is a part of what follows
aim_within : (b : Bool) (n : ℕ) (place : Aim) (os : List Operation) → ((left : ℕ) → IsWithin left place) → IsWithin (length (op_aims os)) (if b then length_aim (take n os) else place)
aim_within true n place os free =
    let few : slots_among (take n os) ≤ slots_among os = slots_take n os in
    let all : length (op_aims os) ≡ slots_among os = op_aims_length os in
    omega arith
aim_within false n place os free = free (length (op_aims os))

by_within : (b : Bool) (aim : Aim) (aims : List Aim) → IsWithin (length aims) aim → AreWithin aims → AreWithin (if b then aim ∷ aims else aims)
by_within true aim aims h g = (h, g)
by_within false aim aims h g = g

op_aims_within : (os : List Operation) → AreWithin (op_aims os)
op_aims_within [] = tt
op_aims_within (o ∷ os) =
    by_within (is_slot o.code o.a) (op_aim o os) (op_aims os) (aim_within (nat_eq o.code 163) o.inner (Place (slot_form o.code) o.a) os (λ left. tt)) (op_aims_within os)

pub expression_within : (os : List Operation) → AreWithin (expression_aims os)
expression_within os =
    let all : length (op_aims os) ≡ slots_among os = op_aims_length os in
    (omega arith, op_aims_within os)

-- the rows of an expression so far: those of its length and of the first operations
pub record AreBegun (unit : HeadAndForest) (spots : Spots) (bytes : List ℕ) (ops : List Op) (k : ℕ) (old now : List Slot) : Type 0 where
  pub done : List Aim
  pub all : done ++ op_aims (all_meant bytes (drop k ops)) ≡ expression_aims (all_meant bytes ops)
  pub added : List Slot
  pub behind : now ≡ old ++ added
  pub count : length added ≡ length done
  pub made : (held : ℕ → List Operation) (own : List ℕ) → HasSpots unit held own spots → AreRowsFrom unit held own (length old) done added

pub begun : (unit : HeadAndForest) (spots : Spots) (bytes : List ℕ) (ops : List Op) (old now : List Slot) (slot : Slot) → now ≡ old ++ slot ∷ [] → ((held : ℕ → List Operation) (own : List ℕ) → IsRowFor unit held own (length old) (length_aim (all_meant bytes ops)) slot) → AreBegun unit spots bytes ops 0 old now
begun unit spots bytes ops old now slot pushed is = record {
  done = length_aim (all_meant bytes ops) ∷ [];
  all = refl;
  added = slot ∷ [];
  behind = pushed;
  count = refl;
  made = λ held own have. from_push unit held own (length old) [] (length_aim (all_meant bytes ops)) [] slot (from_none unit held own (length old)) (subst (λ (z : ℕ). IsRowFor unit held own z (length_aim (all_meant bytes ops)) slot) (sym (add-zero (length old))) (is held own));
}

module _ (unit : HeadAndForest) (spots : Spots) (bytes : List ℕ) (ops : List Op) (k : ℕ) (old now : List Slot) (h : AreBegun unit spots bytes ops k old now) (op : Op) (d : Op) (lt : k < length ops) (is_op : op ≡ get_or ops k d) where
  o : Operation
  o = meant bytes op

  behind : List Operation
  behind = all_meant bytes (drop (k + 1) ops)

  left : h.done ++ op_aims (o ∷ behind) ≡ expression_aims (all_meant bytes ops)
  unfolding o behind
  left = ap (λ (z : Op). h.done ++ op_aims (meant bytes z ∷ all_meant bytes (drop (k + 1) ops))) is_op ∙ ap (λ (z : List Op). h.done ++ op_aims (all_meant bytes z)) (sym (drop_more ops k d lt)) ∙ h.all

  -- an operation without a slot
  pub begun_none : is_slot op.code op.a ≡ false → AreBegun unit spots bytes ops (k + 1) old now
  unfolding o behind
  begun_none none = record { done = h.done; all = ap (λ (z : List Aim). h.done ++ z) (sym (aims_no o behind none)) ∙ left; added = h.added; behind = h.behind; count = h.count; made = h.made }

  module _ (has : is_slot op.code op.a ≡ true) where
    listed : h.done ++ op_aim o behind ∷ op_aims behind ≡ expression_aims (all_meant bytes ops)
    unfolding o behind
    listed = ap (λ (z : List Aim). h.done ++ z) (sym (aims_yes o behind has)) ∙ left

    long : length (expression_aims (all_meant bytes ops)) ≡ length h.done + suc (slots_among behind)
    long = ap length (sym listed) ∙ length-append h.done (op_aim o behind ∷ op_aims behind) ∙ ap (λ (z : ℕ). length h.done + suc z) (op_aims_length behind)

    -- one with a slot
    pub begun_one : (new : List Slot) (slot : Slot) → new ≡ now ++ slot ∷ [] → ((held : ℕ → List Operation) (own : List ℕ) → HasSpots unit held own spots → IsRowFor unit held own (length now) (op_aim (meant bytes op) (all_meant bytes (drop (k + 1) ops))) slot) → AreBegun unit spots bytes ops (k + 1) old new
    unfolding o behind
    begun_one new slot pushed is =
        let counted : length h.added ≡ length h.done = h.count in
        let many : length (h.done ++ op_aim o behind ∷ []) ≡ length h.done + 1 = length_push h.done (op_aim o behind) in
        let more : length (h.added ++ slot ∷ []) ≡ length h.added + 1 = length_push h.added slot in
        let whole : length now ≡ length old + length h.added = ap length h.behind ∙ length-append old h.added in
        record {
          done = h.done ++ op_aim o behind ∷ [];
          all = append_assoc h.done (op_aim o behind ∷ []) (op_aims behind) ∙ listed;
          added = h.added ++ slot ∷ [];
          behind = pushed ∙ ap (λ (z : List Slot). z ++ slot ∷ []) h.behind ∙ append_assoc old h.added (slot ∷ []);
          count = omega arith;
          made = λ held own have. from_push unit held own (length old) h.done (op_aim o behind) h.added slot (h.made held own have) (subst (λ (z : ℕ). IsRowFor unit held own z (op_aim o behind) slot) whole (is held own have));
        }

    pub number_few : (most : ℕ) → length old + length (expression_aims (all_meant bytes ops)) ≤ most → suc (length now) + slots_among (all_meant bytes (drop (k + 1) ops)) ≤ most
    unfolding behind
    number_few most few =
        let counted : length h.added ≡ length h.done = h.count in
        let whole : length now ≡ length old + length h.added = ap length h.behind ∙ length-append old h.added in
        let all : length (expression_aims (all_meant bytes ops)) ≡ length h.done + suc (slots_among behind) = long in
        omega (arith, counted, whole, all, few)

    pub named_there : All (NamesThere unit) (expression_aims (all_meant bytes ops)) → NamesThere unit (op_aim (meant bytes op) (all_meant bytes (drop (k + 1) ops)))
    unfolding o behind
    named_there named =
        let all : length (expression_aims (all_meant bytes ops)) ≡ length h.done + suc (slots_among behind) = long in
        let at : aim_at (expression_aims (all_meant bytes ops)) (length h.done) ≡ op_aim o behind = ap (λ (z : List Aim). aim_at z (length h.done)) (sym listed) ∙ ap (aim_at (h.done ++ op_aim o behind ∷ op_aims behind)) (sym (add-zero (length h.done))) ∙ get_or-append-add h.done (op_aim o behind ∷ op_aims behind) 0 (Length 0 0) in
        subst (NamesThere unit) at (named (length h.done) (Length 0 0) (omega (arith, all)))

  -- what follows has no more bytes than all
  pub behind_fits : fixed_length (all_meant bytes ops) < 2 ^ 34 → fixed_length (all_meant bytes (drop (k + 1) ops)) < 2 ^ 34
  behind_fits fits =
      let part : fixed_length (all_meant bytes (drop (k + 1) ops)) ≡ fixed_length (drop (k + 1) (all_meant bytes ops)) = ap fixed_length (sym (drop-map (meant bytes) (k + 1) ops)) in
      let less : fixed_length (drop (k + 1) (all_meant bytes ops)) ≤ fixed_length (all_meant bytes ops) = fixed_drop (k + 1) (all_meant bytes ops) in
      omega arith

-- all operations are done
pub all_begun : (unit : HeadAndForest) (spots : Spots) (bytes : List ℕ) (ops : List Op) (k : ℕ) (old now : List Slot) → AreBegun unit spots bytes ops k old now → length ops ≤ k → (held : ℕ → List Operation) (own : List ℕ) (aims : List Aim) → HasSpots unit held own spots → AreRows unit held own aims old → AreRows unit held own (aims ++ expression_aims (all_meant bytes ops)) now
all_begun unit spots bytes ops k old now h all held own aims have rows =
    let none : drop k ops ≡ [] = drop_all k ops all in
    let done : h.done ≡ expression_aims (all_meant bytes ops) = sym (append-nil h.done) ∙ ap (λ (z : List Op). h.done ++ op_aims (all_meant bytes z)) (sym none) ∙ h.all in
    let from : AreRowsFrom unit held own (length old) (expression_aims (all_meant bytes ops)) h.added = subst (λ (z : List Aim). AreRowsFrom unit held own (length old) z h.added) done (h.made held own have) in
    subst (AreRows unit held own (aims ++ expression_aims (all_meant bytes ops))) (sym h.behind) (rows_on unit held own spots have aims (expression_aims (all_meant bytes ops)) old h.added rows (expression_within (all_meant bytes ops)) from)

-- in less than 2^32 bytes no length counts as many as 2^34 that are no slot's
pub expression_fits : (os : List Operation) (bytes : List ℕ) → IsExpression Wide os bytes → length bytes < 2 ^ 32 → fixed_length os < 2 ^ 34
expression_fits os bytes spelled brief =
    let fives : five_length os ≤ 3 * length bytes = (expression_sized Wide os bytes spelled).fives in
    omega arith

-- The slots of the expressions of location lists are added behind others, with their sizes.
use Rattle.std.proofs.Common.{◌≡◌, ◌≤◌, ◌+◌, ◌++◌, ◌∙◌, inl, inr, Bool, true, false, ℕ, suc, List, [], ◌∷◌, length, drop, cond, sym, ap, subst, refl, arith}
use Rattle.std.specs.Prelude.{flat_map, nat_eq, if◌then◌else◌, Result, Ok, Err, OnOk}
use Rattle.std.specs.List.{All, AllZip}
use Rattle.std.proofs.lemmas.Bool.{cases_eq, ne_eqb}
use Rattle.std.proofs.lemmas.Grind.{flat_map-append}
use Rattle.std.proofs.lemmas.List.{append_assoc, append-nil, length-append}
use Rattle.dw_base.specs.declared.fault.Reach.TheVariants.{Wide}
use Rattle.slot_layout.specs.declared.slots.Slot.{Slot}
use Rattle.slot_layout.specs.Rows.{CanHaveSize, most_slots}
use Rattle.expr_ops.specs.declared.op.Op.{Op}
use Rattle.expr_ops.specs.Drafts.{is_slot}
use Rattle.expr_ops.specs.Expressions.{Operation}
use Rattle.expr_ops.specs.Ops.{meant, all_meant}
use Rattle.expr_ops.specs.Slots.{Aim, length_aim, slot_form, op_aim, op_aims, expression_aims}
use Rattle.expr_ops.specs.Slots.Aim.{Place}
use Rattle.expr_ops.proofs.Levels.{expression_once}
use Rattle.entry_read.specs.Slots.{aims_of}
use Rattle.entry_read.specs.Units.{HeadAndForest}
use Rattle.list_model.specs.declared.entry.ListKind.TheVariants.{Locations}
use Rattle.list_model.specs.declared.entry.RawEntry.{RawEntry}
use Rattle.loc_lists.specs.Locations.{bytes_in}
use Rattle.written_files.specs.Layouts.{all_aims}
use Rattle.unit_slots.specs.declared.spots.Spots.{Spots}
use Rattle.unit_slots.specs.Standing.{BeginsWith, OperandsEnd, AreExpressionSizes, slotted}
use Rattle.unit_slots.specs.inside.Added.{form_told, CanHaveSizes, AreOperationsOf, AddsSizes, HasExpressionSizes}
use Rattle.unit_slots.specs.inside.Rows.{HasSpots, AreRows, NamesThere}
use Rattle.unit_slots.specs.inside.Made.{AreMade, IsBegun, AddsMade, AddsItem, ItemStands}

-- what follows, where there is no error
pub on_ok : {T E : Type 0} (r : Result T E) (P Q : Type 0) → (P → Q) → OnOk r P → OnOk r Q
on_ok (Ok t) P Q to holds = to holds
on_ok (Err e) P Q to holds = tt

-- TWO LISTS SIDE BY SIDE

pub zip_length : {A B : Type 0} (R : A → B → Type 0) (xs : List A) (ys : List B) → AllZip R xs ys → length xs ≡ length ys
zip_length R [] [] zip = refl
zip_length R [] (y ∷ ys) zip = absurd zip
zip_length R (x ∷ xs) [] zip = absurd zip
zip_length R (x ∷ xs) (y ∷ ys) (first, zip) = ap suc (zip_length R xs ys zip)

pub zip_join : {A B : Type 0} (R : A → B → Type 0) (xs : List A) (us : List B) (ys : List A) (vs : List B) → AllZip R xs us → AllZip R ys vs → AllZip R (xs ++ ys) (us ++ vs)
zip_join R [] [] ys vs zip rest = rest
zip_join R [] (u ∷ us) ys vs zip rest = absurd zip
zip_join R (x ∷ xs) [] ys vs zip rest = absurd zip
zip_join R (x ∷ xs) (u ∷ us) ys vs (first, zip) rest = (first, zip_join R xs us ys vs zip rest)

-- SIZES THAT THE SLOTS OF AN EXPRESSION CAN HAVE

told_if : (b : Bool) (long : Aim) (o : Operation) → (b ≡ true → form_told long ≡ slot_form o.code) → form_told (if b then long else Place (slot_form o.code) o.a) ≡ slot_form o.code
told_if true long o same = same refl
told_if false long o same = refl

-- the form of an operation's slot is told by its opcode
op_told : (o : Operation) (behind : List Operation) → form_told (op_aim o behind) ≡ slot_form o.code
op_told o behind = elim (cases_eq o.code 163) [
  | inl long ↦ told_if (nat_eq o.code 163) (length_aim _) o (λ is. sym (ap slot_form long))
  | inr other ↦ told_if (nat_eq o.code 163) (length_aim _) o (λ is. absurd (let not : nat_eq o.code 163 ≡ false = ne_eqb o.code 163 other in cc (not, is)))
]

abbrev CanHave : Op → ℕ → Type 0
CanHave op size = CanHaveSize (slot_form op.code) size

head_can : (b : Bool) (op : Op) (ops : List Op) (aim : Aim) (aims : List Aim) (sizes : List ℕ) → form_told aim ≡ slot_form op.code → ((others : List ℕ) → AllZip CanHave ops others → CanHaveSizes aims others) → AllZip CanHave (cond b (op ∷ ops) ops) sizes → CanHaveSizes (if b then aim ∷ aims else aims) sizes
head_can true op ops aim aims [] told more can = absurd can
head_can true op ops aim aims (size ∷ sizes) told more (first, can) = (subst (λ f. CanHaveSize f size) (sym told) first, more sizes can)
head_can false op ops aim aims sizes told more can = more sizes can

ops_can : (bytes : List ℕ) (ops : List Op) (sizes : List ℕ) → AllZip CanHave (slotted ops) sizes → CanHaveSizes (op_aims (all_meant bytes ops)) sizes
ops_can bytes [] [] can = tt
ops_can bytes [] (size ∷ sizes) can = absurd can
ops_can bytes (op ∷ ops) sizes can =
    head_can (is_slot op.code op.a) op (slotted ops) (op_aim (meant bytes op) (all_meant bytes ops)) (op_aims (all_meant bytes ops)) sizes (op_told (meant bytes op) (all_meant bytes ops)) (ops_can bytes ops) can

some_bytes : (size : ℕ) (front : List ℕ) → BeginsWith size front → 1 ≤ size
some_bytes size front begins =
    let filled = begins.spelled.0.0.filled in
    let sized = begins.sized in
    omega (arith, filled, sized)

pub expression_can : (front bytes : List ℕ) (ops : List Op) (sizes : List ℕ) → HasExpressionSizes front bytes ops sizes → CanHaveSizes (expression_aims (all_meant bytes ops)) sizes
expression_can front bytes ops sizes has =
    subst (CanHaveSizes (expression_aims (all_meant bytes ops))) (sym has.whole) (some_bytes has.first front has.counted, ops_can bytes ops has.others has.operations.can)

pub expression_are : (front bytes : List ℕ) (ops : List Op) (sizes : List ℕ) → AreOperationsOf bytes ops → HasExpressionSizes front bytes ops sizes → AreExpressionSizes front bytes sizes
expression_are front bytes ops sizes of has =
    subst (AreExpressionSizes front bytes) (sym has.whole) (has.counted, record { ops = ops; spelled = of.spelled; places = of.places; each = has.operations.each })

-- THE SLOTS OF AN EXPRESSION OF A LIST BEHIND OTHERS

module _ (unit : HeadAndForest) (held : ℕ → List Operation) where
  aims_joined : (lists more : List (List Operation)) → all_aims unit.forest held (lists ++ more) ≡ all_aims unit.forest held lists ++ flat_map expression_aims more
  aims_joined lists more =
      ap (λ (z : List Aim). aims_of unit.forest held ++ z) (flat_map-append expression_aims lists more) ∙ sym (append_assoc (aims_of unit.forest held) (flat_map expression_aims lists) (flat_map expression_aims more))

  aims_more : (lists : List (List Operation)) (o : List Operation) → all_aims unit.forest held (lists ++ o ∷ []) ≡ all_aims unit.forest held lists ++ expression_aims o
  aims_more lists o = aims_joined lists (o ∷ []) ∙ ap (λ (z : List Aim). all_aims unit.forest held lists ++ z) (append-nil (expression_aims o))

-- as many slots as sizes
pub as_many : (unit : HeadAndForest) (held : ℕ → List Operation) (own : List ℕ) (lists : List (List Operation)) (listed : List ℕ) (slots : List Slot) (sizes : List ℕ) → AreMade unit held own lists listed slots sizes → length slots ≡ length sizes
as_many unit held own lists listed slots sizes made =
    made.rows.counted ∙ zip_length (λ (aim : Aim) (size : ℕ). CanHaveSize (form_told aim) size) (all_aims unit.forest held lists) sizes made.can

module _ (unit : HeadAndForest) (spots : Spots) (section : List ℕ) (raw : RawEntry) (end : ℕ) (behind : OperandsEnd Locations section raw end) (ops : List Op) (of : AreOperationsOf (bytes_in section raw.expr) ops) (slots : List Slot) (sizes new_sizes : List ℕ) (sized : AddsSizes (HasExpressionSizes (drop end section) (bytes_in section raw.expr) ops) sizes new_sizes) (few : length new_sizes ≤ most_slots) where
  abbrev Aims : List Aim
  Aims = expression_aims (all_meant (bytes_in section raw.expr) ops)

  aims_can : CanHaveSizes (expression_aims (all_meant (bytes_in section raw.expr) ops)) sized.added
  aims_can = expression_can (drop end section) (bytes_in section raw.expr) ops sized.added sized.are

  -- there is room for the rows where there is for the sizes
  pub rows_few : IsBegun unit spots slots sizes → length slots + length (expression_aims (all_meant (bytes_in section raw.expr) ops)) ≤ most_slots
  rows_few (held, own, lists, listed, has, made) =
      let same : length slots ≡ length sizes = as_many unit held own lists listed slots sizes made in
      let own_size : length (expression_aims (all_meant (bytes_in section raw.expr) ops)) ≡ length sized.added = zip_length (λ (aim : Aim) (size : ℕ). CanHaveSize (form_told aim) size) (expression_aims (all_meant (bytes_in section raw.expr) ops)) sized.added aims_can in
      let all : length new_sizes ≡ length sizes + length sized.added = ap length sized.behind ∙ length-append sizes sized.added in
      omega (arith, same, own_size, all, few)

  module _ (new_slots : List Slot) (pushed : (held : ℕ → List Operation) (own : List ℕ) (aims : List Aim) → HasSpots unit held own spots → AreRows unit held own aims slots → AreRows unit held own (aims ++ expression_aims (all_meant (bytes_in section raw.expr) ops)) new_slots) where
    pub made_more : (held : ℕ → List Operation) (own : List ℕ) → HasSpots unit held own spots → AddsMade unit held own (all_meant (bytes_in section raw.expr) ops ∷ []) sized.added slots sizes new_slots new_sizes
    made_more held own has lists listed made =
        let o : List Operation = all_meant (bytes_in section raw.expr) ops in
        let rows : AreRows unit held own (all_aims unit.forest held lists ++ expression_aims (all_meant (bytes_in section raw.expr) ops)) new_slots = pushed held own (all_aims unit.forest held lists) has made.rows in
        let can : CanHaveSizes (all_aims unit.forest held lists ++ expression_aims (all_meant (bytes_in section raw.expr) ops)) (sizes ++ sized.added) = zip_join (λ (aim : Aim) (size : ℕ). CanHaveSize (form_told aim) size) (all_aims unit.forest held lists) sizes (expression_aims (all_meant (bytes_in section raw.expr) ops)) sized.added made.can aims_can in
        record {
          whole = sized.behind ∙ ap (λ (z : List ℕ). z ++ sized.added) made.whole ∙ append_assoc own listed sized.added;
          rows = subst (λ (z : List Aim). AreRows unit held own z new_slots) (sym (aims_more unit held lists o)) rows;
          can = subst (λ (z : List Aim). CanHaveSizes z new_sizes) (sym (aims_more unit held lists o)) (subst (CanHaveSizes (all_aims unit.forest held lists ++ expression_aims (all_meant (bytes_in section raw.expr) ops))) (sym sized.behind) can);
          few = few;
        }

    pub item_added : (held : ℕ → List Operation) (own : List ℕ) → HasSpots unit held own spots → AddsItem unit held own section raw slots sizes new_slots new_sizes
    item_added held own has = record {
      operations = all_meant (bytes_in section raw.expr) ops;
      spelled = of.spelled;
      added = sized.added;
      are = record { end = end; behind = behind; are = expression_are (drop end section) (bytes_in section raw.expr) ops sized.added of sized.are };
      made = made_more held own has;
    }

    pub item_begun : IsBegun unit spots slots sizes → IsBegun unit spots new_slots new_sizes
    item_begun (held, own, lists, listed, has, made) =
        (held, own, lists ++ all_meant (bytes_in section raw.expr) ops ∷ [], listed ++ sized.added, has, made_more held own has lists listed made)

-- what the slots of the operations tell that were read again stands in the unit
pub named_again : (unit : HeadAndForest) (section : List ℕ) (raw : RawEntry) (ops : List Op) → ItemStands unit section raw → AreOperationsOf (bytes_in section raw.expr) ops → All (NamesThere unit) (expression_aims (all_meant (bytes_in section raw.expr) ops))
named_again unit section raw ops item of =
    subst (λ (o : List Operation). All (NamesThere unit) (expression_aims o)) (expression_once Wide item.operations (all_meant (bytes_in section raw.expr) ops) (bytes_in section raw.expr) item.spelled of.spelled) item.named

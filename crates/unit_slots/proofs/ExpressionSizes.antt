-- The sizes of the slots of operations, one after the other.
use Rattle.std.proofs.Common.{◌≡◌, ◌≤◌, ◌<◌, ◌+◌, ◌∙◌, ◌++◌, ℕ, List, [], ◌∷◌, length, take, drop, cond, sum, sym, ap, subst, arith}
use Rattle.std.specs.Prelude.{Bool, true, false, pos}
use Rattle.std.specs.List.{AllZip}
use Rattle.std.proofs.lemmas.List.{append_assoc, append-nil, length-append, drop_more, take_all}
use Rattle.std.proofs.lemmas.List.Elements.{filter_more}
use Rattle.std.proofs.lemmas.List.Sums.{sum_by-append, sum_by_push}
use Rattle.std.proofs.Math.Seq.{drop-length}
use Rattle.slot_layout.specs.Rows.{CanHaveSize}
use Rattle.expr_ops.specs.declared.op.Op.{Op}
use Rattle.expr_ops.specs.Drafts.{is_slot, op_at}
use Rattle.expr_ops.specs.Ops.{IsLead, Chain}
use Rattle.expr_ops.specs.Slots.{slot_form}
use Rattle.unit_slots.specs.Standing.{IsSizeOf, slotted}
use Rattle.unit_slots.specs.inside.Added.{AddsSizes, AreOperationsOf, AreOpSizes}

-- LISTS SIDE BY SIDE

pub zip_append : {X Y : Type 0} (R : X → Y → Type 0) (xs xs' : List X) (ys ys' : List Y) → AllZip R xs ys → AllZip R xs' ys' → AllZip R (xs ++ xs') (ys ++ ys')
zip_append R [] xs' [] ys' none more = more
zip_append R [] xs' (y ∷ ys) ys' none more = absurd none
zip_append R (x ∷ xs) xs' [] ys' none more = absurd none
zip_append R (x ∷ xs) xs' (y ∷ ys) ys' (one, rest) more = (one, zip_append R xs xs' ys ys' rest more)

pub sum_append : (xs ys : List ℕ) → sum (xs ++ ys) ≡ sum xs + sum ys
sum_append xs ys = sum_by-append (λ (x : ℕ). x) xs ys

pub sum_cons : (x : ℕ) (xs : List ℕ) → sum (x ∷ xs) ≡ x + sum xs
sum_cons x xs = let parts : sum (x ∷ xs) ≡ sum (x ∷ []) + sum xs = sum_append (x ∷ []) xs in omega (arith, parts)

pub sum_push : (xs : List ℕ) (x : ℕ) → sum (xs ++ x ∷ []) ≡ sum xs + x
sum_push xs x = sum_by_push (λ (y : ℕ). y) xs x

-- OPERATIONS SO FAR

-- the first so many operations have these sizes, and the others begin at a place
pub record HaveSizesTo (bytes : List ℕ) (ops : List Op) (i : ℕ) (old new : List ℕ) : Type 0 where
  pub added : List ℕ
  pub behind : new ≡ old ++ added
  pub each : AllZip (IsSizeOf bytes) (slotted (take i ops)) added
  pub can : AllZip (λ (op : Op) (size : ℕ). CanHaveSize (slot_form op.code) size) (slotted (take i ops)) added
  pub at : ℕ
  pub chain : Chain bytes at (drop i ops) (length bytes)
  pub room : sum added + length added ≤ at

pub none_yet : (bytes : List ℕ) (ops : List Op) (old : List ℕ) → AreOperationsOf bytes ops → HaveSizesTo bytes ops 0 old old
none_yet bytes ops old are = record { added = []; behind = sym (append-nil old); each = tt; can = tt; at = 0; chain = are.places; room = omega arith }

module _ (bytes : List ℕ) (ops : List Op) (i : ℕ) (old new : List ℕ) (inside : i < length ops) (so : HaveSizesTo bytes ops i old new) where
  abbrev here : Op
  here = op_at ops i

  more : drop i ops ≡ here ∷ drop (i + 1) ops
  more = drop_more ops i (record { at = 0; code = 0; a = 0; s = pos 0; jump = 0; bytes = record { at = 0; len = 0 }; inner = 0 }) inside

  chained : Chain bytes so.at (here ∷ drop (i + 1) ops) (length bytes)
  chained = subst (λ (z : List Op). Chain bytes so.at z (length bytes)) more so.chain

  abbrev own : List Op
  own = cond (is_slot here.code here.a) (here ∷ []) []

  slotted_more : slotted (take (i + 1) ops) ≡ slotted (take i ops) ++ own
  slotted_more = filter_more (λ (op : Op). is_slot op.code op.a) ops i (record { at = 0; code = 0; a = 0; s = pos 0; jump = 0; bytes = record { at = 0; len = 0 }; inner = 0 }) inside

  pub add_none : is_slot here.code here.a ≡ false → HaveSizesTo bytes ops (i + 1) old new
  add_none none =
      let (place, (size, lead, chain)) = chained in
      let same : slotted (take (i + 1) ops) ≡ slotted (take i ops) = slotted_more ∙ ap (λ (b : Bool). slotted (take i ops) ++ cond b (here ∷ []) []) none ∙ append-nil (slotted (take i ops)) in
      let room = so.room in
      record {
        added = so.added;
        behind = so.behind;
        each = subst (λ (z : List Op). AllZip (IsSizeOf bytes) z so.added) (sym same) so.each;
        can = subst (λ (z : List Op). AllZip (λ (op : Op) (size : ℕ). CanHaveSize (slot_form op.code) size) z so.added) (sym same) so.can;
        at = so.at + size;
        chain = chain;
        room = omega (arith, room);
      }

  pub add_one : (n : ℕ) (last : List ℕ) → is_slot here.code here.a ≡ true → IsSizeOf bytes here n → CanHaveSize (slot_form here.code) n → ((size : ℕ) → IsLead bytes here.at size here → n + 1 ≤ size) → last ≡ new ++ n ∷ [] → HaveSizesTo bytes ops (i + 1) old last
  add_one n last slot sized can fits is =
      let (place, (size, lead, chain)) = chained in
      let few : n + 1 ≤ size = fits size (subst (λ (z : ℕ). IsLead bytes z size here) (sym place) lead) in
      let same : slotted (take (i + 1) ops) ≡ slotted (take i ops) ++ here ∷ [] = slotted_more ∙ ap (λ (b : Bool). slotted (take i ops) ++ cond b (here ∷ []) []) slot in
      let room = so.room in
      let total : sum (so.added ++ n ∷ []) ≡ sum so.added + n = sum_push so.added n in
      let count : length (so.added ++ n ∷ []) ≡ length so.added + 1 = length-append so.added (n ∷ []) in
      record {
        added = so.added ++ n ∷ [];
        behind = is ∙ ap (λ (z : List ℕ). z ++ n ∷ []) so.behind ∙ append_assoc old so.added (n ∷ []);
        each = subst (λ (z : List Op). AllZip (IsSizeOf bytes) z (so.added ++ n ∷ [])) (sym same) (zip_append (IsSizeOf bytes) (slotted (take i ops)) (here ∷ []) so.added (n ∷ []) so.each (sized, tt));
        can = subst (λ (z : List Op). AllZip (λ (op : Op) (size : ℕ). CanHaveSize (slot_form op.code) size) z (so.added ++ n ∷ [])) (sym same) (zip_append (λ (op : Op) (size : ℕ). CanHaveSize (slot_form op.code) size) (slotted (take i ops)) (here ∷ []) so.added (n ∷ []) so.can (can, tt));
        at = so.at + size;
        chain = chain;
        room = omega (arith, room, few, total, count);
      }

drop_end : (bytes : List ℕ) (at : ℕ) (ops : List Op) → ops ≡ [] → Chain bytes at ops (length bytes) → at ≡ length bytes
drop_end bytes at [] none chain = chain
drop_end bytes at (op ∷ ops) none chain = absurd cc

pub all_added : (bytes : List ℕ) (ops : List Op) (i : ℕ) (old new : List ℕ) → i ≡ length ops → HaveSizesTo bytes ops i old new → AddsSizes (AreOpSizes bytes ops) old new
all_added bytes ops i old new whole so =
    let all : take i ops ≡ ops = take_all i ops (omega (arith, whole)) in
    let end : so.at ≡ length bytes = drop_end bytes so.at (drop i ops) (ap (λ (n : ℕ). drop n ops) whole ∙ drop-length ops) so.chain in
    let room = so.room in
    record {
      added = so.added;
      behind = so.behind;
      are = record {
        each = subst (λ (z : List Op). AllZip (IsSizeOf bytes) (slotted z) so.added) all so.each;
        can = subst (λ (z : List Op). AllZip (λ (op : Op) (size : ℕ). CanHaveSize (slot_form op.code) size) (slotted z) so.added) all so.can;
        room = omega (arith, room, end);
      };
    }

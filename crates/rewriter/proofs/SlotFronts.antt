-- What is said of the slots of an expression, as they are found one after the other.
use Rattle.std.proofs.Common.{◌≡◌, ◌+◌, ◌∙◌, ℕ, List, [], ◌∷◌, ◌++◌, drop, Bool, true, false, sym, ap, subst}
use Rattle.std.specs.Prelude.{if◌then◌else◌}
use Rattle.std.specs.List.{AllZip}
use Rattle.std.proofs.lemmas.List.{append_assoc, append-nil}
use Rattle.expr_ops.specs.declared.op.Op.{Op}
use Rattle.expr_ops.specs.Expressions.{Operation}
use Rattle.expr_ops.specs.Ops.{meant, all_meant}
use Rattle.expr_ops.specs.Drafts.{is_slot}
use Rattle.expr_ops.specs.Slots.{Aim, length_aim, op_aim, op_aims, expression_aims}

-- Behind others stand those of an expression's length and of its first operations.
pub record AreOfFront {S : Type 0} (For : Aim → S → Type 0) (bytes : List ℕ) (ops : List Op) (count : ℕ) (old new : List S) : Type 0 where
  pub done : List S
  pub behind : new ≡ old ++ done
  pub are : (more : List S) → AllZip For (op_aims (all_meant bytes (drop count ops))) more → AllZip For (expression_aims (all_meant bytes ops)) (done ++ more)

-- and those of all its operations
pub record AreOfExpression {S : Type 0} (For : Aim → S → Type 0) (bytes : List ℕ) (ops : List Op) (old new : List S) : Type 0 where
  pub done : List S
  pub behind : new ≡ old ++ done
  pub are : AllZip For (expression_aims (all_meant bytes ops)) done

module _ {S : Type 0} (For : Aim → S → Type 0) (bytes : List ℕ) (ops : List Op) (old : List S) where
  -- the length comes first
  pub front_none : (new : List S) (slot : S) → For (length_aim (all_meant bytes ops)) slot → new ≡ old ++ slot ∷ [] → AreOfFront For bytes ops 0 old new
  front_none new slot here pushed = record { done = slot ∷ []; behind = pushed; are = λ more rest. (here, rest) }

  -- what is left of the operations begins with the next one
  next_op : (k : ℕ) (op : Op) (more : List S) → drop k ops ≡ op ∷ drop (k + 1) ops → AllZip For (op_aims (all_meant bytes (op ∷ drop (k + 1) ops))) more → AllZip For (op_aims (all_meant bytes (drop k ops))) more
  next_op k op more next = subst (λ (z : List Op). AllZip For (op_aims (all_meant bytes z)) more) (sym next)

  with_slot : (op : Op) (slot : S) (more : List S) (b : Bool) (os : List Operation) → b ≡ true → For (op_aim (meant bytes op) os) slot → AllZip For (op_aims os) more → AllZip For (if b then op_aim (meant bytes op) os ∷ op_aims os else op_aims os) (slot ∷ more)
  with_slot op slot more true os has here rest = (here, rest)
  with_slot op slot more false os has here rest = absurd (cc (has))

  without_slot : (op : Op) (more : List S) (b : Bool) (os : List Operation) → b ≡ false → AllZip For (op_aims os) more → AllZip For (if b then op_aim (meant bytes op) os ∷ op_aims os else op_aims os) more
  without_slot op more true os none rest = absurd (cc (none))
  without_slot op more false os none rest = rest

  module _ (k : ℕ) (op : Op) (now : List S) (next : drop k ops ≡ op ∷ drop (k + 1) ops) (front : AreOfFront For bytes ops k old now) where
    pub front_more : (new : List S) (slot : S) → is_slot op.code op.a ≡ true → For (op_aim (meant bytes op) (all_meant bytes (drop (k + 1) ops))) slot → new ≡ now ++ slot ∷ [] → AreOfFront For bytes ops (k + 1) old new
    front_more new slot has here pushed = record {
      done = front.done ++ slot ∷ [];
      behind = pushed ∙ ap (λ (z : List S). z ++ slot ∷ []) front.behind ∙ append_assoc old front.done (slot ∷ []);
      are = λ more rest.
          subst (AllZip For (expression_aims (all_meant bytes ops))) (sym (append_assoc front.done (slot ∷ []) more)) (front.are (slot ∷ more) (next_op k op (slot ∷ more) next (with_slot op slot more (is_slot op.code op.a) (all_meant bytes (drop (k + 1) ops)) has here rest)));
    }

    pub front_still : is_slot op.code op.a ≡ false → AreOfFront For bytes ops (k + 1) old now
    front_still none = record {
      done = front.done;
      behind = front.behind;
      are = λ more rest. front.are more (next_op k op more next (without_slot op more (is_slot op.code op.a) (all_meant bytes (drop (k + 1) ops)) none rest));
    }

  pub front_all : (k : ℕ) (new : List S) → drop k ops ≡ [] → AreOfFront For bytes ops k old new → AreOfExpression For bytes ops old new
  front_all k new past front = record {
    done = front.done;
    behind = front.behind;
    are = subst (AllZip For (expression_aims (all_meant bytes ops))) (append-nil front.done) (front.are [] (subst (λ (z : List Op). AllZip For (op_aims (all_meant bytes z)) []) (sym past) tt));
  }

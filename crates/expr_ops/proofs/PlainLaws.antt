-- The bytes of an expression whose references have five bytes or four.
use Rattle.std.proofs.Common.{◌≡◌, ◌≢◌, ◌≤◌, ◌+◌, ◌*◌, ℕ, zero, suc, List, [], ◌∷◌, ◌++◌, length, take, ◌∙◌, sym, ap, refl, subst, arith, inl, inr, Some}
use Rattle.std.proofs.lemmas.Bool.Decides.{eqb_tells}
use Rattle.std.proofs.lemmas.List.{length-append, append-nil, take_all}
use Rattle.dw_base.specs.declared.fault.Reach.{Reach}
use Rattle.dw_base.specs.declared.fault.Reach.TheVariants.{Narrow}
use Rattle.spelled.specs.Spelled.{Joined}
use Rattle.expr_ops.specs.declared.table.Width.TheVariants as width
use Rattle.expr_ops.specs.declared.table.Shape.TheVariants as shape
use Rattle.expr_ops.specs.declared.table.Operands.{Operands}
use Rattle.expr_ops.specs.declared.table.Operands.TheVariants as operands
use Rattle.expr_ops.specs.Table.{operands_of}
use Rattle.expr_ops.specs.Heads.{Head, SpellsHead}
use Rattle.expr_ops.specs.Expressions.{Operation, Segment, IsLevel, SpellsSegment, IsExpression, branch_limit, plain_code, operation_of, flat}
use Rattle.expr_ops.specs.Drafts.{total}
use Rattle.expr_ops.specs.Sizes.{own_size}
use Rattle.expr_ops.proofs.PlainBytes.{plain_slot, plain_own, plain_length}
use Rattle.expr_ops.specs.Nests.{Nest}
use Rattle.expr_ops.specs.Nests.Nest.{none, one}
use Rattle.expr_ops.proofs.NestLaws.{nest_append, length_both, own_count}
use Rattle.expr_ops.proofs.BlockLaws.{code_of_head}
use Rattle.expr_ops.specs.Slots.{SlotsAreFew}
use Rattle.expr_ops.proofs.SlotLaws.{five_length, five_append, five_other, five_entry}
use Rattle.expr_ops.proofs.OwnSizes.{IsBounded, same_code, other_long_head, IsEntryBounded, entry_long}

-- an opcode of the table
abbrev pub IsKnown : Operation → Type 0
IsKnown o = (operands : Operands) × (operands_of o.code ≡ Some operands)

abbrev pub AreKnown : List Operation → Type 0
AreKnown [] = Unit {0}
AreKnown (o ∷ os) = IsKnown o × AreKnown os

known_append : (xs ys : List Operation) → AreKnown xs → AreKnown ys → AreKnown (xs ++ ys)
known_append [] ys a b = b
known_append (x ∷ xs) ys (k, a) b = (k, known_append xs ys a b)

head_known : (head : Head) (b : List ℕ) (jump n : ℕ) → SpellsHead head b → IsKnown (operation_of head jump n)
head_known head b jump n s =
    elim (eqb_tells head.code 152) [
      | inl (t, e) ↦ (operands.One (shape.Unsigned width.Four), ap (λ (c : ℕ). operands_of (plain_code c)) e)
      | inr (f, other) ↦ (s.operands, ap operands_of (same_code head.code other) ∙ ap operands_of (code_of_head s.code s.operands head s.tail s.spelled) ∙ s.known)
    ]

-- The operations that so many bytes spell hold those that follow them, and take at most three times as many bytes, also where each
-- slot has five; and at most four more for each operation.
pub record IsSized (os : List Operation) (n : ℕ) : Type 0 where
  pub nest : Nest os
  pub known : AreKnown os
  pub thrice : plain_length os ≤ 3 * n
  pub few : plain_length os ≤ n + 4 * length os
  pub fives : five_length os ≤ 3 * n

sized_append : (xs ys : List Operation) (m n : ℕ) → IsSized xs m → IsSized ys n → IsSized (xs ++ ys) (m + n)
sized_append xs ys m n p q =
    let sum : plain_length (xs ++ ys) ≡ plain_length xs + plain_length ys = length_both xs ys p.nest in
    let count : length (xs ++ ys) ≡ length xs + length ys = length-append xs ys in
    let pt = p.thrice in
    let qt = q.thrice in
    let pf = p.few in
    let qf = q.few in
    let five = five_append xs ys in
    let pv = p.fives in
    let qv = q.fives in
    record {
      nest = nest_append p.nest ys q.nest;
      known = known_append xs ys p.known q.known;
      thrice = omega (arith, sum, pt, qt);
      few = omega (arith, sum, count, pf, qf);
      fives = omega (arith, five, pv, qv);
    }

module _ (S : Segment → List ℕ → Type 0) (each : (g : Segment) (b : List ℕ) (jump : ℕ) → S g b → IsSized (operation_of g.head jump (length g.inner) ∷ g.inner) (length b)) where
  flat_sized : (jumps : List ℕ) (gs : List Segment) (bytes : List ℕ) → length jumps ≡ length gs → Joined S gs bytes → IsSized (flat jumps gs) (length bytes)
  flat_sized [] [] bytes e j = record { nest = none; known = tt; thrice = omega arith; few = omega arith; fives = omega arith }
  flat_sized [] (g ∷ gs) bytes e j = absurd (omega (arith, e))
  flat_sized (jump ∷ jumps) [] bytes e j = absurd (omega (arith, e))
  flat_sized (jump ∷ jumps) (g ∷ gs) bytes e (first, rest, s, j, w) =
      let n : length bytes ≡ length first + length rest = ap length w ∙ length-append first rest in
      let both = sized_append (operation_of g.head jump (length g.inner) ∷ g.inner) (flat jumps gs) (length first) (length rest) (each g first jump s) (flat_sized jumps gs rest (omega (arith, e)) j) in
      subst (λ (k : ℕ). IsSized (flat (jump ∷ jumps) (g ∷ gs)) k) (sym n) both

  pub level_sized : (most : ℕ) (os : List Operation) (bytes : List ℕ) → IsLevel most S os bytes → IsSized os (length bytes)
  level_sized most os bytes l = subst (λ (z : List Operation). IsSized z (length bytes)) (sym l.listed) (flat_sized l.jumps l.segments bytes l.each l.spelled)

-- an operation that holds none
alone : (o : Operation) (n : ℕ) → IsKnown o → o.code ≢ 163 → o.inner ≡ 0 → IsBounded (own_size (plain_slot o (total (take o.inner []))) o) n → IsSized (o ∷ []) n
alone o n k other e b =
    let f = b.few in
    let t = b.thrice in
    record {
      nest = one o [] [] [] refl e none none;
      known = (k, tt);
      thrice = omega (arith, t);
      few = omega (arith, f);
      fives = five_other o (total (take o.inner [])) n other b;
    }

-- an operation that holds all that follow it
holding_all : (o : Operation) (held : List Operation) (body n : ℕ) → IsKnown o → o.code ≡ 163 → o.inner ≡ length held → IsSized held body → IsEntryBounded (own_size (plain_slot o (plain_length held)) o + plain_length held) n (length held) body → IsSized (o ∷ held) n
holding_all o held body n k entry e inner b =
    let count : length (plain_own held) ≡ length held = own_count held in
    let whole : take o.inner (plain_own held) ≡ plain_own held = take_all o.inner (plain_own held) (omega (arith, e, count)) in
    let size : plain_length (o ∷ held) ≡ own_size (plain_slot o (plain_length held)) o + plain_length held = ap (λ (z : List ℕ). own_size (plain_slot o (total z)) o + plain_length held) whole in
    let f = b.few in
    let t = b.thrice in
    record {
      nest = one o held held [] (sym (append-nil held)) e inner.nest none;
      known = (k, inner.known);
      thrice = omega (arith, size, t);
      few = omega (arith, size, f);
      fives = five_entry o held body n entry inner.fives b.within;
    }

no_entry : (code : ℕ) → code ≢ 163 → plain_code code ≢ 163
no_entry code h =
    elim (eqb_tells code 152) [
      | inl (t, e) ↦ λ f. absurd (omega (arith, sym (ap plain_code e) ∙ f))
      | inr (t, other) ↦ λ f. h (sym (same_code code other) ∙ f)
    ]

segment_alone : (g : Segment) (b : List ℕ) (jump : ℕ) → g.inner ≡ [] → IsSized (operation_of g.head jump (length {A = Operation} []) ∷ []) (length b) → IsSized (operation_of g.head jump (length g.inner) ∷ g.inner) (length b)
segment_alone g b jump e s = subst (λ (z : List Operation). IsSized (operation_of g.head jump (length z) ∷ z) (length b)) (sym e) s

pub segment_sized : (most deep : ℕ) (g : Segment) (b : List ℕ) (jump : ℕ) → SpellsSegment most deep g b → IsSized (operation_of g.head jump (length g.inner) ∷ g.inner) (length b)
segment_sized most zero g b jump (s, other, e) =
    segment_alone g b jump e (alone (operation_of g.head jump 0) (length b) (head_known g.head b jump 0 s) (no_entry g.head.code other) refl (other_long_head g.head b jump 0 (total (take 0 [])) s other))
segment_sized most (suc deep) g b jump (s, inr (other, e)) =
    segment_alone g b jump e (alone (operation_of g.head jump 0) (length b) (head_known g.head b jump 0 s) (no_entry g.head.code other) refl (other_long_head g.head b jump 0 (total (take 0 [])) s other))
segment_sized most (suc deep) g b jump (s, inl (entry, level)) =
    let inner = level_sized (SpellsSegment most deep) (segment_sized most deep) most g.inner g.head.block level in
    holding_all (operation_of g.head jump (length g.inner)) g.inner (length g.head.block) (length b) (head_known g.head b jump (length g.inner) s) (ap plain_code entry) refl inner (entry_long g.head b jump (length g.inner) (plain_length g.inner) (length g.inner) s entry inner.thrice inner.few)

pub expression_sized : (reach : Reach) (os : List Operation) (bytes : List ℕ) → IsExpression reach os bytes → IsSized os (length bytes)
expression_sized reach os bytes x =
    level_sized (SpellsSegment (branch_limit reach) 8) (segment_sized (branch_limit reach) 8) (branch_limit reach) os bytes x

-- with five bytes for each slot it has at most three times its bytes
pub slots_are_few : SlotsAreFew
slots_are_few os bytes x = (expression_sized Narrow os bytes x).fives

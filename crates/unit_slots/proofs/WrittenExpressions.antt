-- The sizes of the slots of expressions that stand in their fewest bytes are those that their slots need.
use Rattle.std.proofs.Common.{◌≡◌, ◌+◌, ◌∙◌, inl, inr, ℕ, List, [], ◌∷◌, length, take, sym, ap, subst, refl, arith}
use Rattle.std.specs.Prelude.{Bool, true, false, if◌then◌else◌, nat_eq, nat_lt}
use Rattle.std.specs.List.{AllZip}
use Rattle.std.proofs.lemmas.Bool.Decides.{eqb_tells}
use Rattle.std.proofs.lemmas.List.{take_all}
use Rattle.dw_base.specs.declared.fault.Reach.TheVariants.{Wide}
use Rattle.leb_codec.specs.Leb.{least_unsigned_len}
use Rattle.expr_ops.specs.Drafts.{is_slot, total}
use Rattle.expr_ops.specs.Expressions.{Operation, IsExpression}
use Rattle.expr_ops.specs.Ops.{all_meant}
use Rattle.expr_ops.specs.Shortest.{needed_size, fixed_length}
use Rattle.expr_ops.specs.Slots.{Aim, slots_among, op_aim, op_aims, expression_aims}
use Rattle.expr_ops.proofs.Levels.{expression_once}
use Rattle.written_files.specs.inside.FewestBytes.{fewest_sizes, held_length, HasFewestBytes}
use Rattle.written_files.specs.inside.Laws.{AreLaws}
use Rattle.unit_slots.specs.Standing.{BeginsWith, IsSizeOf, slotted, AreSizesIn, AreExpressionSizes}
use Rattle.unit_slots.proofs.RowAims.{op_aims_length, aim_length, aim_call, aim_uleb}
use Rattle.unit_slots.proofs.WrittenNeeds.{needs, needs_length}
use Rattle.unit_slots.proofs.WrittenOperations.{operations_fewest}

-- what one more slot needs
needs_by : (b : Bool) (aim : Aim) (aims : List Aim) (n : ℕ) (sizes : List ℕ) → (b ≡ true → needs (aim ∷ aims) ≡ n ∷ needs aims) → needs aims ≡ sizes → needs (if b then aim ∷ aims else aims) ≡ (if b then n ∷ sizes else sizes)
needs_by true aim aims n sizes here rest = here refl ∙ ap (λ (z : List ℕ). n ∷ z) rest
needs_by false aim aims n sizes here rest = rest

-- an operation's slot needs its fewest bytes, where those behind it do
slot_needs : (o : Operation) (os : List Operation) → needs (op_aims os) ≡ fewest_sizes os → needs (op_aim o os ∷ op_aims os) ≡ needed_size o (held_length o os) ∷ needs (op_aims os)
slot_needs o os more =
    let held : List Operation = take o.inner os in
    let few : ℕ = if nat_lt o.a 65536 then 2 else 4 in
    let by_entry : Bool → ℕ = λ b. if b then least_unsigned_len (held_length o os) else (if nat_eq o.code 153 then few else least_unsigned_len o.a) in
    elim (eqb_tells o.code 163) [
      | inl (entry, is) ↦
          let size : needed_size o (held_length o os) ≡ least_unsigned_len (held_length o os) = ap by_entry entry in
          ap (λ (z : Aim). needs (z ∷ op_aims os)) (aim_length o os is)
          ∙ ap (λ (z : List ℕ). least_unsigned_len (fixed_length held + total (take (slots_among held) z)) ∷ needs (op_aims os)) more
          ∙ ap (λ (n : ℕ). n ∷ needs (op_aims os)) (sym size)
      | inr (no_entry, other) ↦ elim (eqb_tells o.code 153) [
        | inl (calls, is) ↦
            let size : needed_size o (held_length o os) ≡ few = ap by_entry no_entry ∙ ap (λ (b : Bool). if b then few else least_unsigned_len o.a) calls in
            ap (λ (z : Aim). needs (z ∷ op_aims os)) (aim_call o os is) ∙ ap (λ (n : ℕ). n ∷ needs (op_aims os)) (sym size)
        | inr (no_call, apart) ↦
            let size : needed_size o (held_length o os) ≡ least_unsigned_len o.a = ap by_entry no_entry ∙ ap (λ (b : Bool). if b then few else least_unsigned_len o.a) no_call in
            ap (λ (z : Aim). needs (z ∷ op_aims os)) (aim_uleb o os other apart) ∙ ap (λ (n : ℕ). n ∷ needs (op_aims os)) (sym size)
      ]
    ]

-- so the slots of operations need their fewest bytes
needs_fewest : (os : List Operation) → needs (op_aims os) ≡ fewest_sizes os
needs_fewest [] = refl
needs_fewest (o ∷ os) =
    let more : needs (op_aims os) ≡ fewest_sizes os = needs_fewest os in
    needs_by (is_slot o.code o.a) (op_aim o os) (op_aims os) (needed_size o (held_length o os)) (fewest_sizes os) (λ slot. slot_needs o os more) more

-- the bytes that an expression's slots have are those that they need
pub record StandsNeeded (os : List Operation) (bytes : List ℕ) : Type 0 where
  pub sizes : AreSizesIn bytes (needs (op_aims os))
  pub long : length bytes ≡ fixed_length os + total (needs (op_aims os))

module _ (laws : AreLaws) where
  -- of an expression that stands in its fewest bytes they are
  stands_needed : (os : List Operation) (bytes : List ℕ) → HasFewestBytes bytes → IsExpression Wide os bytes → StandsNeeded os bytes
  stands_needed os bytes h spelled =
      let read : List Operation = all_meant bytes h.ops in
      let same : read ≡ os = expression_once Wide read os bytes h.spelled spelled in
      let fewest : needs (op_aims read) ≡ fewest_sizes read = needs_fewest read in
      subst (λ (z : List Operation). StandsNeeded z bytes) same (record {
        sizes = record {
          ops = h.ops;
          spelled = h.spelled;
          places = h.places;
          each = subst (AllZip (IsSizeOf bytes) (slotted h.ops)) (sym fewest) (operations_fewest bytes h.ops 0 (length bytes) h.places h.each);
        };
        long = laws.counted bytes h ∙ ap (λ (z : List ℕ). fixed_length read + total z) (sym fewest);
      })

  -- So are those of its length, which stands in its fewest bytes, and of its operations.
  pub expression_stands : (front bytes : List ℕ) (os : List Operation) → HasFewestBytes bytes → IsExpression Wide os bytes → BeginsWith (least_unsigned_len (length bytes)) front → AreExpressionSizes front bytes (needs (expression_aims os))
  expression_stands front bytes os h spelled begins =
      let stands = stands_needed os bytes h spelled in
      let count : length (needs (op_aims os)) ≡ slots_among os = needs_length (op_aims os) ∙ op_aims_length os in
      let all : take (slots_among os) (needs (op_aims os)) ≡ needs (op_aims os) = take_all (slots_among os) (needs (op_aims os)) (omega (arith, count)) in
      let number : length bytes ≡ fixed_length os + total (take (slots_among os) (needs (op_aims os))) = stands.long ∙ ap (λ (z : List ℕ). fixed_length os + total z) (sym all) in
      (subst (λ (n : ℕ). BeginsWith (least_unsigned_len n) front) number begins, stands.sizes)

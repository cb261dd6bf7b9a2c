-- Expressions of operations without operands, which name nothing.
use Rattle.std.proofs.Common.{◌≡◌, ◌≢◌, ◌≤◌, ◌<◌, ◌+◌, ℕ, zero, suc, List, [], ◌∷◌, length, map, leb, ◌∙◌, sym, ap, refl, subst, arith, inl, inr}
use Rattle.std.specs.Prelude.{ℤ, pos, slice_index, nat_eq, if◌then◌else◌, Some}
use Rattle.std.specs.List.{AllZip}
use Rattle.std.proofs.lemmas.Bool.{cond-true, cond-false, cond_both, eqb-true, le-leb, lt-leb}
use Rattle.dw_base.specs.declared.fault.Reach.{Reach}
use Rattle.dw_base.specs.declared.fault.Reach.TheVariants.{Wide}
use Rattle.spelled.specs.Spelled.{AreBytes, Joined}
use Rattle.expr_ops.specs.declared.names.Named.{Named}
use Rattle.expr_ops.specs.declared.names.Named.TheVariants.{Nothing}
use Rattle.expr_ops.specs.declared.table.Operands.TheVariants as operands
use Rattle.expr_ops.specs.Table.{operands_of, look_up, low_rows, middle_rows, high_rows}
use Rattle.expr_ops.specs.Heads.{bare}
use Rattle.expr_ops.specs.Names.{named_by}
use Rattle.expr_ops.specs.Drafts.{has_reference}
use Rattle.expr_ops.specs.Expressions.{Operation, Segment, IsBranch, IsExpression, SpellsSegment, branch_limit, plain_code, kept_sign, kept_block, operation_of, flat, head_at}
use Rattle.value_links.specs.Reading.{Linkable}
use Rattle.value_links.specs.Operations.{LinksOperation, LinksExpression, LinksReference, IsSomeExpression}
use Rattle.value_links.specs.Operations.OpTarget.{NoTarget}
use Rattle.sample_maker.specs.Generated.{plain, in_register, is_zero}
use Rattle.sample_maker.specs.inside.Bytes.{register_bytes, zero_bytes}

-- an opcode that no operand follows, that is neither a branch, a call nor an entry_value, and that names nothing
pub record IsPlain (code : ℕ) : Type 0 where
  pub known : operands_of code ≡ Some operands.Nothing
  pub small : code < 256
  pub no_skip : code ≢ 40
  pub no_bra : code ≢ 47
  pub no_call : code ≢ 152
  pub no_entry : code ≢ 163
  pub names : named_by code ≡ Nothing

abbrev pub ArePlain : List ℕ → Type 0
ArePlain [] = Unit {0}
ArePlain (code ∷ codes) = IsPlain code × ArePlain codes

-- ONE OPERATION

abbrev pub plain_operation : ℕ → Operation
plain_operation code = (plain code).operation

same_code : (code : ℕ) → code ≢ 152 → plain_code code ≡ code
same_code code other = cond_both (nat_eq code 152) 153 code (λ (z : ℕ). z ≡ code) (λ e. absurd (other (eqb-true code 152 e))) (λ e. refl)

no_sign : (code : ℕ) → kept_sign code (pos 0) ≡ pos 0
no_sign code = cond_both (nat_eq code 40) (pos 0) (if nat_eq code 47 then pos 0 else pos 0) (λ (z : ℤ). z ≡ pos 0) (λ e. refl) (λ e. cond_both (nat_eq code 47) (pos 0) (pos 0) (λ (z : ℤ). z ≡ pos 0) (λ f. refl) (λ f. refl))

no_block : (code : ℕ) → kept_block code [] ≡ []
no_block code = cond_both (nat_eq code 163) [] [] (λ (z : List ℕ). z ≡ []) (λ e. refl) (λ e. refl)

operation_is : (code : ℕ) → IsPlain code → plain_operation code ≡ operation_of (bare code) 0 0
operation_is code is =
    sym (
    ap (λ (z : ℕ). record { code = z; a = 0; s = kept_sign code (pos 0); block = kept_block code []; jump = 0; inner = 0 }) (same_code code is.no_call)
    ∙ ap (λ (z : ℤ). record { code = code; a = 0; s = z; block = kept_block code []; jump = 0; inner = 0 }) (no_sign code)
    ∙ ap (λ (z : List ℕ). record { code = code; a = 0; s = pos 0; block = z; jump = 0; inner = 0 }) (no_block code)
    )

abbrev plain_segment : ℕ → Segment
plain_segment code = record { head = bare code; inner = [] }

one_byte : (code : ℕ) → code < 256 → AreBytes (code ∷ [])
one_byte code small zero lt = small
one_byte code small (suc k) lt = absurd (omega (arith, lt))

segment_spelled : (most : ℕ) (code : ℕ) → IsPlain code → SpellsSegment most 8 (plain_segment code) (code ∷ [])
segment_spelled most code is = (record { code = code; operands = operands.Nothing; tail = []; known = is.known; small = one_byte code is.small; whole = refl; spelled = (refl, refl) }, inr (is.no_entry, refl))

no_branch : (code : ℕ) → IsPlain code → ¬ IsBranch code
no_branch code is (inl e) = is.no_skip e
no_branch code is (inr e) = is.no_bra e

-- OPERATIONS

abbrev segments_of : List ℕ → List Segment
segments_of codes = map plain_segment codes

abbrev no_jumps : List ℕ → List ℕ
no_jumps codes = map (λ (code : ℕ). 0) codes

spelled : (most : ℕ) (codes : List ℕ) → ArePlain codes → Joined (SpellsSegment most 8) (segments_of codes) codes
spelled most [] are = refl
spelled most (code ∷ codes) are = (code ∷ [], codes, segment_spelled most code are.0, spelled most codes are.1, refl)

listed : (codes : List ℕ) → ArePlain codes → map plain_operation codes ≡ flat (no_jumps codes) (segments_of codes)
listed [] are = refl
listed (code ∷ codes) are = ap (λ (z : Operation). z ∷ map plain_operation codes) (operation_is code are.0) ∙ ap (λ (z : List Operation). operation_of (bare code) 0 0 ∷ z) (listed codes are.1)

counted : (codes : List ℕ) → length (no_jumps codes) ≡ length (segments_of codes)
counted [] = refl
counted (code ∷ codes) = ap suc (counted codes)

none_branch : (codes : List ℕ) (k : ℕ) → ArePlain codes → k < length (segments_of codes) → ¬ IsBranch (head_at (segments_of codes) k).code
none_branch [] k are lt = absurd (omega (arith, lt))
none_branch (code ∷ codes) zero are lt = no_branch code are.0
none_branch (code ∷ codes) (suc k) are lt = none_branch codes k are.1 (omega (arith, lt))

none_jump : (codes : List ℕ) (k : ℕ) → k < length (segments_of codes) → slice_index (no_jumps codes) k ≡ 0
none_jump [] k lt = absurd (omega (arith, lt))
none_jump (code ∷ codes) zero lt = refl
none_jump (code ∷ codes) (suc k) lt = none_jump codes k (omega (arith, lt))

-- they are an expression within the limits of any reach
pub plain_expression : (reach : Reach) (codes : List ℕ) → ArePlain codes → IsExpression reach (map plain_operation codes) codes
plain_expression reach codes are = record {
  segments = segments_of codes;
  jumps = no_jumps codes;
  spelled = spelled (branch_limit reach) codes are;
  each = counted codes;
  listed = listed codes are;
  jumping = λ k lt. inr (none_branch codes k are lt, none_jump codes k lt);
  few = λ (k, lt, b). absurd (none_branch codes k are lt b);
}

-- and name nothing, whatever is read and in whichever unit they stand

operation_links : (r : Linkable) (u code : ℕ) → IsPlain code → LinksOperation r u (plain_operation code) (plain code)
operation_links r u code is = record {
  operation = cond_both (has_reference code) (plain_operation code) (plain_operation code) (λ (z : Operation). plain_operation code ≡ z) (λ e. refl) (λ e. refl);
  target = subst (λ (z : Named). LinksReference r u z code 0 NoTarget) (sym is.names) refl;
}

operations_link : (r : Linkable) (u : ℕ) (codes : List ℕ) → ArePlain codes → AllZip (LinksOperation r u) (map plain_operation codes) (map plain codes)
operations_link r u [] are = tt
operations_link r u (code ∷ codes) are = (operation_links r u code are.0, operations_link r u codes are.1)

pub plain_links : (r : Linkable) (u : ℕ) (codes : List ℕ) → ArePlain codes → LinksExpression r u codes (map plain codes)
plain_links r u codes are = (map plain_operation codes, plain_expression Wide codes are, operations_link r u codes are)

-- THE OPCODES THAT ARE WRITTEN

-- DW_OP_lit0 to DW_OP_lit31 and DW_OP_reg0 to DW_OP_reg31 (section 7.7.1)
low_plain : (code : ℕ) → 48 ≤ code → code ≤ 111 → IsPlain code
low_plain code from to = record {
  known =
      cond-false (leb code 47) (look_up low_rows code) _ (lt-leb code 47 (omega (arith, from)))
      ∙ cond-true (leb code 147) (look_up middle_rows code) (look_up high_rows code) (le-leb code 147 (omega (arith, to)))
      ∙ cond-true (leb code 111) (Some operands.Nothing) _ (le-leb code 111 to);
  small = omega (arith, to);
  no_skip = λ e. omega (arith, e, from);
  no_bra = λ e. omega (arith, e, from);
  no_call = λ e. omega (arith, e, to);
  no_entry = λ e. omega (arith, e, to);
  names = cond-true (leb code 152) Nothing _ (le-leb code 152 (omega (arith, to)));
}

-- DW_OP_stack_value
stack_value_plain : IsPlain 0x9f
stack_value_plain = record { known = refl; small = omega arith; no_skip = λ e. omega (arith, e); no_bra = λ e. omega (arith, e); no_call = λ e. omega (arith, e); no_entry = λ e. omega (arith, e); names = refl }

-- DW_OP_call_frame_cfa
frame_plain : IsPlain 0x9c
frame_plain = record { known = refl; small = omega arith; no_skip = λ e. omega (arith, e); no_bra = λ e. omega (arith, e); no_call = λ e. omega (arith, e); no_entry = λ e. omega (arith, e); names = refl }

pub register_plain : (register : ℕ) → register < 16 → ArePlain (register_bytes register)
register_plain register few = (low_plain (0x50 + register) (omega arith) (omega (arith, few)), tt)

pub zero_plain : ArePlain zero_bytes
zero_plain = (low_plain 0x30 (omega arith) (omega arith), (stack_value_plain, tt))

pub frame_base_plain : ArePlain (0x9c ∷ [])
frame_base_plain = (frame_plain, tt)

-- THE EXPRESSIONS OF A PARAMETER'S LIST, and the frame base of a function

pub register_links : (r : Linkable) (u register : ℕ) → register < 16 → LinksExpression r u (register_bytes register) (in_register register)
register_links r u register few = plain_links r u (register_bytes register) (register_plain register few)

pub zero_links : (r : Linkable) (u : ℕ) → LinksExpression r u zero_bytes is_zero
zero_links r u = plain_links r u zero_bytes zero_plain

pub frame_base_links : (r : Linkable) (u : ℕ) → LinksExpression r u (0x9c ∷ []) (plain 0x9c ∷ [])
frame_base_links r u = plain_links r u (0x9c ∷ []) frame_base_plain

pub is_some_expression : (reach : Reach) (codes : List ℕ) → ArePlain codes → IsSomeExpression reach codes
is_some_expression reach codes are = (map plain_operation codes, plain_expression reach codes are)

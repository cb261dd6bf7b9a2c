-- Entries that are read.
use Rattle.std.proofs.Common.{◌≡◌, ◌≤◌, ◌<◌, ◌+◌, ◌-◌, ◌⊎◌, ◌++◌, ◌∙◌, ℕ, suc, List, ◌∷◌, length, take, drop, sym, ap, refl, subst, arith, inl, inr}
use Rattle.std.specs.Prelude.{slice_index, Some}
use Rattle.std.proofs.lemmas.List.{get_or-drop, get_or-take, length-drop, drop_more, drop-drop, take-append-drop}
use Rattle.spelled.specs.Spelled.{AreBytes}
use Rattle.spelled.proofs.Parts.{take_sum, length_part, bytes_part}
use Rattle.fixed_width.specs.Numbers.{number_at}
use Rattle.fixed_width.proofs.Numbers.{number_shift}
use Rattle.dw_base.specs.declared.fault.Kind.{Kind}
use Rattle.dw_base.specs.declared.fault.Kind.TheVariants.{Short, LebWide}
use Rattle.dw_base.specs.declared.fault.Fault.{Fault}
use Rattle.dw_base.specs.Refusals.{IsFaultOf}
use Rattle.list_model.specs.declared.entry.Operand.{Operand}
use Rattle.list_model.specs.declared.entry.Operand.TheVariants.{Number, Address}
use Rattle.list_model.specs.declared.entry.ListKind.{ListKind}
use Rattle.list_model.specs.declared.entry.EntryKind.{EntryKind}
use Rattle.list_model.specs.Entries.{code_of, first_operand, second_operand, SpellsAddress, SpellsOperand, FaultOperand, FaultBehindCode, FaultEntry}
use Rattle.list_model.specs.Reading.{IsReadEntry}

-- an address that is whole
address_read : (bytes : List ℕ) (at value : ℕ) → AreBytes bytes → at + 8 ≤ length bytes → value ≡ number_at 8 at bytes → SpellsAddress value (take 8 (drop at bytes))
address_read bytes at value bounded inside e =
    let part = take 8 (drop at bytes) in
    let same : number_at 8 at bytes ≡ number_at 8 0 part = number_shift 8 at 0 bytes part (λ k low. let zero : k ≡ 0 + k = omega arith in sym (get_or-take 8 (drop at bytes) k 0 low ∙ get_or-drop at bytes k 0) ∙ ap (slice_index part) zero) in
    record { size = length_part at 8 bytes inside; bounded = bytes_part at 8 bytes bounded inside; is = e ∙ same }

pub address_there : (bytes : List ℕ) (at value : ℕ) (operand : Operand) → AreBytes bytes → at ≤ length bytes → operand ≡ Address → 8 ≤ length bytes - at → value ≡ number_at 8 at bytes → SpellsOperand operand value (take (at + 8 - at) (drop at bytes))
address_there bytes at value operand bounded inside kind left e =
    let size : 8 ≡ at + 8 - at = omega arith in
    let there : SpellsOperand Address value (take (at + 8 - at) (drop at bytes)) = subst (λ (z : ℕ). SpellsAddress value (take z (drop at bytes))) size (address_read bytes at value bounded (omega (arith, left, inside)) e) in
    subst (λ (z : Operand). SpellsOperand z value (take (at + 8 - at) (drop at bytes))) (sym kind) there

-- and one that isn't
pub address_short : (bytes : List ℕ) (at origin : ℕ) (operand : Operand) (fault : Fault) → at ≤ length bytes → operand ≡ Address → length bytes - at < 8 → fault ≡ record { kind = Short; place = origin + at } → IsFaultOf (λ kind place. FaultOperand operand kind place (drop at bytes)) (origin + at) fault
address_short bytes at origin operand fault inside kind left e =
    let size : length (drop at bytes) ≡ length bytes - at = length-drop at bytes in
    let short : FaultOperand Address Short 0 (drop at bytes) = (refl, omega (arith, size, left)) in
    subst (λ (z : Fault). IsFaultOf (λ kind place. FaultOperand operand kind place (drop at bytes)) (origin + at) z) (sym e) (0, omega arith, subst (λ (z : Operand). FaultOperand z Short 0 (drop at bytes)) (sym kind) short)

-- ---- entries

-- a code and two operands that follow
entry_bytes : (bytes : List ℕ) (at first second : ℕ) → at < length bytes → at + 1 ≤ first → first ≤ second → take (second - at) (drop at bytes) ≡ slice_index bytes at ∷ (take (first - (at + 1)) (drop (at + 1) bytes) ++ take (second - first) (drop first bytes))
entry_bytes bytes at first second inside low high =
    let rest = drop (at + 1) bytes in
    let p = first - (at + 1) in
    let q = second - first in
    let here : drop at bytes ≡ slice_index bytes at ∷ rest = drop_more bytes at 0 inside in
    let size : second - at ≡ suc (p + q) = omega arith in
    let there : at + 1 + p ≡ first = omega arith in
    let parts : take (p + q) rest ≡ take p rest ++ take q (drop first bytes) = take_sum p q rest ∙ ap (λ (z : List ℕ). take p rest ++ take q z) (drop-drop p (at + 1) bytes ∙ ap (λ (z : ℕ). drop z bytes) there) in
    ap (λ (z : ℕ). take z (drop at bytes)) size ∙ ap (take (suc (p + q))) here ∙ ap (λ (z : List ℕ). slice_index bytes at ∷ z) parts

pub entry_read : (list : ListKind) (bytes : List ℕ) (at a b first second : ℕ) (kind : EntryKind) → at < length bytes → code_of list kind ≡ Some (slice_index bytes at) → at + 1 ≤ first → first ≤ second → second ≤ length bytes → SpellsOperand (first_operand kind) a (take (first - (at + 1)) (drop (at + 1) bytes)) → SpellsOperand (second_operand kind) b (take (second - first) (drop first bytes)) → IsReadEntry list bytes at (record { raw = record { at = at; code = slice_index bytes at; a = a; b = b; expr = record { at = 0; len = 0 } }; end = second })
entry_read list bytes at a b first second kind inside known low high end s t = record {
  entry = record { kind = kind; a = a; b = b };
  place = refl;
  says = record { of_code = known; of_a = refl; of_b = refl };
  without = refl;
  after = omega (arith, low, high);
  inside = end;
  spelled = record {
    code = slice_index bytes at;
    operands = take (first - (at + 1)) (drop (at + 1) bytes) ++ take (second - first) (drop first bytes);
    known = known;
    spelled = (take (first - (at + 1)) (drop (at + 1) bytes), take (second - first) (drop first bytes), s, t, refl);
    whole = entry_bytes bytes at first second inside low high;
  };
}

-- ---- faults behind a code

-- the kinds of faults of an operand
operand_kinds : (operand : Operand) (kind : Kind) (place : ℕ) (bytes : List ℕ) → FaultOperand operand kind place bytes → (kind ≡ Short) ⊎ (kind ≡ LebWide)
operand_kinds Number Short place bytes f = inl refl
operand_kinds Number LebWide place bytes f = inr refl
operand_kinds Address Short place bytes f = inl refl
operand_kinds _ _ place bytes f = absurd f

behind : (list : ListKind) (kind : Kind) (place : ℕ) (bytes : List ℕ) → (kind ≡ Short) ⊎ (kind ≡ LebWide) → FaultBehindCode list kind place bytes → FaultEntry list kind place bytes
behind list kind place bytes (inl e) f = subst (λ (z : Kind). FaultEntry list z place bytes) (sym e) (inr (subst (λ (z : Kind). FaultBehindCode list z place bytes) e f))
behind list kind place bytes (inr e) f = subst (λ (z : Kind). FaultEntry list z place bytes) (sym e) (subst (λ (z : Kind). FaultBehindCode list z place bytes) e f)

pub first_fault : (list : ListKind) (bytes : List ℕ) (at origin : ℕ) (kind : EntryKind) (fault : Fault) → at < length bytes → code_of list kind ≡ Some (slice_index bytes at) → IsFaultOf (λ k place. FaultOperand (first_operand kind) k place (drop (at + 1) bytes)) (origin + (at + 1)) fault → IsFaultOf (λ k place. FaultEntry list k place (drop at bytes)) (origin + at) fault
first_fault list bytes at origin kind fault inside known (place, e, f) =
    let whole : drop at bytes ≡ slice_index bytes at ∷ drop (at + 1) bytes = drop_more bytes at 0 inside in
    let there : FaultBehindCode list fault.kind (1 + place) (drop at bytes) = record { entry_kind = kind; code = slice_index bytes at; operands = drop (at + 1) bytes; inner = place; known = known; whole = whole; fault = inl f; at = refl } in
    (1 + place, omega (arith, e), behind list fault.kind (1 + place) (drop at bytes) (operand_kinds (first_operand kind) fault.kind place (drop (at + 1) bytes) f) there)

pub second_fault : (list : ListKind) (bytes : List ℕ) (at a first origin : ℕ) (kind : EntryKind) (fault : Fault) → at < length bytes → code_of list kind ≡ Some (slice_index bytes at) → at + 1 ≤ first → first ≤ length bytes → SpellsOperand (first_operand kind) a (take (first - (at + 1)) (drop (at + 1) bytes)) → IsFaultOf (λ k place. FaultOperand (second_operand kind) k place (drop first bytes)) (origin + first) fault → IsFaultOf (λ k place. FaultEntry list k place (drop at bytes)) (origin + at) fault
second_fault list bytes at a first origin kind fault inside known low high s (place, e, f) =
    let rest = drop (at + 1) bytes in
    let p = first - (at + 1) in
    let whole : drop at bytes ≡ slice_index bytes at ∷ rest = drop_more bytes at 0 inside in
    let there : at + 1 + p ≡ first = omega arith in
    let after : drop p rest ≡ drop first bytes = drop-drop p (at + 1) bytes ∙ ap (λ (z : ℕ). drop z bytes) there in
    let parts : rest ≡ take p rest ++ drop first bytes = sym (take-append-drop p rest) ∙ ap (λ (z : List ℕ). take p rest ++ z) after in
    let size : length (take p rest) ≡ p = length_part (at + 1) p bytes (omega arith) in
    let found : FaultBehindCode list fault.kind (1 + (length (take p rest) + place)) (drop at bytes) = record { entry_kind = kind; code = slice_index bytes at; operands = rest; inner = length (take p rest) + place; known = known; whole = whole; fault = inr (a, take p rest, drop first bytes, place, s, f, parts, refl); at = refl } in
    (1 + (length (take p rest) + place), omega (arith, e, size, there), behind list fault.kind (1 + (length (take p rest) + place)) (drop at bytes) (operand_kinds (second_operand kind) fault.kind place (drop first bytes) f) found)

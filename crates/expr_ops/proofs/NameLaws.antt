-- References in the bytes of operations.
use Rattle.std.proofs.Common.{◌≡◌, ◌≢◌, ◌≤◌, ◌<◌, ◌+◌, ◌-◌, ◌^◌, ℕ, List, ◌∷◌, ◌++◌, length, take, drop, ◌∙◌, sym, ap, refl, subst, arith, rules, inl, inr}
use Rattle.std.proofs.lemmas.List.{append_assoc, drop-drop, take-append-drop, length-take-le, length-drop}
use Rattle.std.proofs.lemmas.Bool.{cases_eq}
use Rattle.std.specs.Prelude.{IsTrue, ◌↔◌, IsErrOf, Err}
use Rattle.leb_codec.specs.Leb.{Uleb, SpellsUnsigned, IsShort, IsWideUnsigned}
use Rattle.leb_codec.specs.declared.read.LebFault.{LebFault}
use Rattle.leb_codec.specs.declared.read.LebFault.TheVariants.{Short, Wide}
use Rattle.leb_codec.specs.declared.read.ReadU.{ReadU}
use Rattle.leb_codec.proofs.Fronts.{unique_u, leb_not_short, uleb_not_wide}
use Rattle.expr_ops.specs.declared.op.Op.{Op}
use Rattle.expr_ops.specs.declared.table.Shape.TheVariants as shape
use Rattle.expr_ops.specs.declared.table.Operands.{Operands}
use Rattle.expr_ops.specs.declared.table.Operands.TheVariants as operands
use Rattle.expr_ops.specs.declared.names.Named.TheVariants.{Nothing}
use Rattle.expr_ops.specs.Table.{operands_of}
use Rattle.expr_ops.specs.Heads.{SpellsHead, SpellsOperands}
use Rattle.expr_ops.specs.Expressions.{Operation, plain_code}
use Rattle.expr_ops.specs.Ops.{IsLead, held_bytes}
use Rattle.expr_ops.specs.Drafts.{has_reference}
use Rattle.expr_ops.specs.Names.{named_by, IsReferencePlace}
use Rattle.expr_ops.proofs.HeadLaws.{some_same}
use Rattle.expr_ops.proofs.BlockLaws.{code_of_head}

other_code : (code : ℕ) → code ≢ 152 → plain_code code ≡ code
other_code code h = search (rules, h)

no_register : (n : ℕ) → n ≡ 153 → n ≡ 165 → ⊥
no_register n e f = omega arith

plain_register : (code : ℕ) → plain_code code ≡ 165 → code ≡ 165
plain_register code e = elim (cases_eq code 152) [
  | inl call ↦ absurd (no_register (plain_code code) (ap plain_code call) e)
  | inr other ↦ sym (other_code code other) ∙ e
]

-- the register of regval_type
pub record Register (bytes : List ℕ) (at : ℕ) : Type 0 where
  pub number : ℕ
  pub front : List ℕ
  pub rest : List ℕ
  pub spelled : Uleb number front
  pub whole : drop (at + 1) bytes ≡ front ++ rest

pub register_of : (bytes : List ℕ) (at size : ℕ) (op : Op) → IsLead bytes at size op → op.code ≡ 165 → Register bytes at
register_of bytes at size op lead is =
    let head = lead.head in
    let own = take (size + held_bytes head) (drop at bytes) in
    let s : SpellsHead head own = lead.spelled in
    let plain : op.code ≡ plain_code head.code = ap (λ (z : Operation). z.code) lead.means in
    let code : s.code ≡ 165 = sym (code_of_head s.code s.operands head s.tail s.spelled) ∙ plain_register head.code (sym plain ∙ is) in
    let o : s.operands ≡ operands.Typed shape.Uleb = some_same s.operands (operands.Typed shape.Uleb) (sym s.known ∙ ap operands_of code) in
    let (p, (first, second, (n, register, _), _, parts), _) : SpellsOperands s.code (operands.Typed shape.Uleb) head s.tail = subst (λ (z : Operands). SpellsOperands s.code z head s.tail) o s.spelled in
    let all : drop at bytes ≡ s.code ∷ (s.tail ++ drop (size + held_bytes head) (drop at bytes)) = sym (take-append-drop (size + held_bytes head) (drop at bytes)) ∙ ap (λ z. z ++ drop (size + held_bytes head) (drop at bytes)) s.whole in
    record {
      number = n;
      front = first;
      rest = second ++ drop (size + held_bytes head) (drop at bytes);
      spelled = register;
      whole = sym (drop-drop 1 at bytes) ∙ ap (drop 1) all ∙ ap (λ z. z ++ drop (size + held_bytes head) (drop at bytes)) parts ∙ append_assoc first second (drop (size + held_bytes head) (drop at bytes));
    }

pub register_read : (bytes : List ℕ) (at n end : ℕ) → at + 1 ≤ end → end ≤ length bytes → SpellsUnsigned (take (end - (at + 1)) (drop (at + 1) bytes)) n → n < 2 ^ 64 → IsReferencePlace bytes 165 at end
register_read bytes at n end from to spelled fits =
    let size : length (drop (at + 1) bytes) ≡ length bytes - (at + 1) = length-drop (at + 1) bytes in
    let long : length (take (end - (at + 1)) (drop (at + 1) bytes)) ≡ end - (at + 1) = length-take-le (end - (at + 1)) (drop (at + 1) bytes) (omega arith) in
    inl (refl, (n, take (end - (at + 1)) (drop (at + 1) bytes), drop (end - (at + 1)) (drop (at + 1) bytes), (spelled, fits), sym (take-append-drop (end - (at + 1)) (drop (at + 1) bytes)), omega arith))

-- so that reading it doesn't fail
pub register_there : (bytes : List ℕ) (at : ℕ) (fault : LebFault) → Register bytes at → (IsErrOf {T = ReadU} (Err fault) Short ↔ IsShort (drop (at + 1) bytes)) → (IsErrOf {T = ReadU} (Err fault) Wide ↔ IsWideUnsigned (drop (at + 1) bytes)) → ⊥
register_there bytes at Short r short wide = leb_not_short r.front r.rest r.spelled.0.0 (subst (λ (z : List ℕ). IsShort z) r.whole (short.0 refl))
register_there bytes at Wide r short wide = uleb_not_wide r.number r.front r.rest r.spelled (subst (λ (z : List ℕ). IsWideUnsigned z) r.whole (wide.0 refl))

-- an operation has one such place
pub place_once : (bytes : List ℕ) (code at place other : ℕ) → IsReferencePlace bytes code at place → IsReferencePlace bytes code at other → place ≡ other
place_once bytes code at place other (inl (a, (n, front, rest, s, whole, e))) (inl (b, (m, head, tail, t, parts, f))) =
    let one = unique_u n m front head rest tail s t (sym whole ∙ parts) in
    e ∙ ap (λ z. at + 1 + length z) one.0 ∙ sym f
place_once bytes code at place other (inl (a, _)) (inr (inl (inl b, _))) = absurd (omega arith)
place_once bytes code at place other (inl (a, _)) (inr (inl (inr b, _))) = absurd (omega arith)
place_once bytes code at place other (inl (a, _)) (inr (inr (b, _, _, _))) = absurd (b a)
place_once bytes code at place other (inr (inl (inl a, _))) (inl (b, _)) = absurd (omega arith)
place_once bytes code at place other (inr (inl (inr a, _))) (inl (b, _)) = absurd (omega arith)
place_once bytes code at place other (inr (inl (a, e))) (inr (inl (b, f))) = e ∙ sym f
place_once bytes code at place other (inr (inl (inl a, _))) (inr (inr (_, b, _, _))) = absurd (b a)
place_once bytes code at place other (inr (inl (inr a, _))) (inr (inr (_, _, b, _))) = absurd (b a)
place_once bytes code at place other (inr (inr (a, _, _, _))) (inl (b, _)) = absurd (a b)
place_once bytes code at place other (inr (inr (_, a, _, _))) (inr (inl (inl b, _))) = absurd (a b)
place_once bytes code at place other (inr (inr (_, _, a, _))) (inr (inl (inr b, _))) = absurd (a b)
place_once bytes code at place other (inr (inr (_, _, _, e))) (inr (inr (_, _, _, f))) = e ∙ sym f

pub reference_named : (code : ℕ) → IsTrue (has_reference code) ↔ (named_by code ≢ Nothing)
reference_named code = grind arith

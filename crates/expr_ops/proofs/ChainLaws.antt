-- Operations that begin one behind the other: each has a byte of its own.
use Rattle.std.proofs.Common.{◌≡◌, ◌≤◌, ◌<◌, ◌+◌, ◌-◌, ℕ, zero, suc, List, [], ◌∷◌, length, take, drop, ◌∙◌, sym, ap, subst, arith, inl, inr}
use Rattle.std.proofs.lemmas.List.{length-append, length-drop, length-take-le, length-map}
use Rattle.std.proofs.lemmas.Bool.Decides.{eqb_tells}
use Rattle.dw_base.specs.declared.fault.Reach.{Reach}
use Rattle.expr_ops.specs.declared.op.Op.{Op}
use Rattle.expr_ops.specs.Expressions.{Operation, IsExpression}
use Rattle.expr_ops.specs.Ops.{meant, held_bytes, IsLead, Chain}
use Rattle.expr_ops.specs.Drafts.{op_at}
use Rattle.expr_ops.proofs.HeadLaws.{head_filled}
use Rattle.expr_ops.proofs.Chains.{not_held, is_held}
use Rattle.expr_ops.proofs.LastBlocks.{block_last}
use Rattle.expr_ops.proofs.HeldPlaces.{expression_held}

-- the bytes of an operation and of the expression that it holds
pub lead_long : (outer : List ℕ) (at size : ℕ) (op : Op) (l : IsLead outer at size op) → length (take (size + held_bytes l.head) (drop at outer)) ≡ size + held_bytes l.head
lead_long outer at size op l =
    let room : length (drop at outer) ≡ length outer - at = length-drop at outer in
    let fits = l.inside in
    length-take-le (size + held_bytes l.head) (drop at outer) (omega (arith, fits))

lead_filled : (outer : List ℕ) (at size : ℕ) (op : Op) → IsLead outer at size op → 0 < size
lead_filled outer at size op l =
    let front = take (size + held_bytes l.head) (drop at outer) in
    let long : length front ≡ size + held_bytes l.head = lead_long outer at size op l in
    elim (eqb_tells l.head.code 163) [
      | inl (t, entry) ↦
          let b = block_last l.head front l.spelled (inr entry) in
          let some = b.some in
          let held : held_bytes l.head ≡ length l.head.block = is_held l.head entry in
          let parts : length front ≡ length b.lead + length l.head.block = ap (λ z. length z) b.whole ∙ length-append b.lead l.head.block in
          omega (arith, some)
      | inr (f, other) ↦
          let held : held_bytes l.head ≡ 0 = not_held l.head other in
          let some = head_filled l.head front l.spelled in
          omega (arith, some)
    ]

chain_few : (outer : List ℕ) (at end : ℕ) (ops : List Op) → Chain outer at ops end → at + length ops ≤ end
chain_few outer at end [] e = omega (arith, e)
chain_few outer at end (op ∷ ops) (place, (size, lead, chain)) =
    let some = lead_filled outer at size op lead in
    let few = chain_few outer (at + size) end ops chain in
    omega (arith, some, few)

pub few_operations : (reach : Reach) (operations : List Operation) (bytes : List ℕ) → IsExpression reach operations bytes → length operations ≤ length bytes
few_operations reach operations bytes x =
    let (ops, means, chain) = expression_held reach operations bytes x in
    let few = chain_few bytes 0 (length bytes) ops chain in
    let size : length operations ≡ length ops = sym (ap (λ z. length z) means) ∙ length-map ops (meant bytes) in
    omega (arith, few, size)

-- an operation of a chain stands at its place
pub record StandsInChain (outer : List ℕ) (op : Op) : Type 0 where
  pub size : ℕ
  pub lead : IsLead outer op.at size op

pub chain_at : (outer : List ℕ) (at end : ℕ) (ops : List Op) → Chain outer at ops end → (k : ℕ) → k < length ops → StandsInChain outer (op_at ops k)
chain_at outer at end [] chain k inside = absurd (omega arith)
chain_at outer at end (op ∷ ops) (place, (size, lead, chain)) zero inside = record {
  size = size;
  lead = subst (λ (z : ℕ). IsLead outer z size op) (sym place) lead;
}
chain_at outer at end (op ∷ ops) (place, (size, lead, chain)) (suc k) inside = chain_at outer (at + size) end ops chain k (omega arith)

-- One operation and those that it holds.
use Rattle.std.proofs.Common.{◌≡◌, ◌≤◌, ◌+◌, ◌-◌, ℕ, zero, suc, List, [], ◌∷◌, ◌++◌, length, take, drop, ◌∙◌, sym, ap, refl, subst, arith, inl, inr}
use Rattle.std.proofs.lemmas.List.{append_assoc, length-append, length-drop, take-append-drop, length-take-le, drop-drop, drop_at, take_at}
use Rattle.dw_base.specs.declared.fault.Fault.{Fault}
use Rattle.dw_base.specs.declared.fault.Refusal.{Refusal}
use Rattle.dw_base.specs.declared.fault.Refusal.TheVariants.{Refused, NoMemory}
use Rattle.dw_base.specs.Refusals.{IsRefusedFor}
use Rattle.dw_base.specs.declared.fault.Kind.{Kind}
use Rattle.dw_base.specs.declared.fault.Kind.TheVariants as kind
use Rattle.expr_ops.specs.declared.op.Op.{Op}
use Rattle.expr_ops.specs.declared.start.Start.{Start}
use Rattle.expr_ops.specs.declared.head.ReadHead.{ReadHead}
use Rattle.expr_ops.specs.declared.table.Operands.{Operands}
use Rattle.expr_ops.specs.declared.table.Operands.TheVariants as operands
use Rattle.expr_ops.specs.declared.table.Shape.TheVariants as shape
use Rattle.expr_ops.specs.Table.{operands_of}
use Rattle.expr_ops.specs.Heads.{Head, SpellsHead, SpellsOperands, holding}
use Rattle.expr_ops.specs.HeadFaults.{FaultHead}
use Rattle.expr_ops.specs.inside.Reads.{head_in, IsReadHead, HasHeadFault}
use Rattle.expr_ops.specs.Expressions.{Operation, IsEntryValue, IsLevel, SpellsSegment, operation_of}
use Rattle.expr_ops.specs.ExpressionFaults.{FaultLevel, FaultSegment, Enters}
use Rattle.expr_ops.specs.Ops.{meant, all_meant, Stands}
use Rattle.expr_ops.specs.inside.Levels.{with_inner, IsMoved, IsSegmentRead, IsLevelRead, IsFront, HasSegmentFault, HasLevelFault}
use Rattle.expr_ops.proofs.HeadLaws.{some_same}
use Rattle.expr_ops.proofs.BlockLaws.{code_of_head}
use Rattle.expr_ops.proofs.ReadLaws.{rest_and}
use Rattle.expr_ops.proofs.OpLaws.{part_of_front}
use Rattle.expr_ops.proofs.Fronts.{stands_somewhere}

-- THE EXPRESSION OF AN ENTRY_VALUE

-- what stands before the expression of an entry_value
pub entry_shape : (head : Head) (front : List ℕ) → SpellsHead head front → IsEntryValue head.code → (lead : List ℕ) × (front ≡ lead ++ head.block)
entry_shape head front s e =
    let code : s.code ≡ 163 = sym (code_of_head s.code s.operands head s.tail s.spelled) ∙ e in
    let o : s.operands ≡ operands.One shape.Counted = some_same s.operands (operands.One shape.Counted) (sym s.known ∙ ap operands_of code) in
    let (p, (body, c, f), g) : SpellsOperands s.code (operands.One shape.Counted) head s.tail = subst (λ (z : Operands). SpellsOperands s.code z head s.tail) o s.spelled in
    let block : head.block ≡ body = ap (λ (z : Head). z.block) (g ∙ ap (holding s.code) f) in
    (s.code ∷ c.head, s.whole ∙ ap (λ z. s.code ∷ z) (c.whole ∙ ap (λ z. c.head ++ z) (sym block)))

-- the expression of an entry_value stands before the end of the entry_value
pub entry_slice : (bytes : List ℕ) (at : ℕ) (h : ReadHead) → IsReadHead bytes at h → h.code ≡ 163 → (at + h.block.len ≤ h.end) × (take (h.end - (h.end - h.block.len)) (drop (h.end - h.block.len) bytes) ≡ (head_in bytes h).block)
entry_slice bytes at h r e =
    let front = take (h.end - at) (drop at bytes) in
    let (lead, whole) = entry_shape (head_in bytes h) front r.spelled e in
    let up = r.starts in
    let in_bytes = r.inside in
    let room : length (drop at bytes) ≡ length bytes - at = length-drop at bytes in
    let long : length front ≡ h.end - at = length-take-le (h.end - at) (drop at bytes) (omega (arith, up, in_bytes)) in
    let lies = r.lies in
    let left : length (drop h.block.at bytes) ≡ length bytes - h.block.at = length-drop h.block.at bytes in
    let block : length (head_in bytes h).block ≡ h.block.len = length-take-le h.block.len (drop h.block.at bytes) (omega (arith, lies)) in
    let parts : length front ≡ length lead + length (head_in bytes h).block = ap (λ z. length z) whole ∙ length-append lead (head_in bytes h).block in
    let place : h.end - h.block.len ≡ at + length lead = omega (arith, up) in
    let count : h.end - (h.end - h.block.len) ≡ length (head_in bytes h).block = omega (arith, up) in
    let all : drop at bytes ≡ lead ++ ((head_in bytes h).block ++ drop h.end bytes) = rest_and bytes at h.end (omega (arith, up)) ∙ ap (λ z. z ++ drop h.end bytes) whole ∙ append_assoc lead (head_in bytes h).block (drop h.end bytes) in (
      omega (arith, up),
      ap (λ n. take n (drop (h.end - h.block.len) bytes)) count ∙ ap (λ n. take (length (head_in bytes h).block) (drop n bytes)) place ∙ ap (take (length (head_in bytes h).block)) (sym (drop-drop (length lead) at bytes) ∙ ap (drop (length lead)) all ∙ drop_at lead ((head_in bytes h).block ++ drop h.end bytes) (length lead) refl) ∙ take_at (head_in bytes h).block (drop h.end bytes) (length (head_in bytes h).block) refl,
    )

-- a part of bytes that stand somewhere stands there too
pub part_stands : (outer bytes : List ℕ) (base from end : ℕ) → Stands outer base bytes → from ≤ end → end ≤ length bytes → Stands outer (base + from) (take (end - from) (drop from bytes))
part_stands outer bytes base from end st up inside =
    let room : length (drop from bytes) ≡ length bytes - from = length-drop from bytes in
    let long : length (take (end - from) (drop from bytes)) ≡ end - from = length-take-le (end - from) (drop from bytes) (omega arith) in
    let fits = st.0 in (
      omega (arith, fits),
      ap (λ n. take n (drop (base + from) outer)) long ∙ ap (take (end - from)) (sym (drop-drop from base outer)) ∙ sym (part_of_front from (end - from) (length bytes) (drop base outer) (omega arith)) ∙ ap (λ z. take (end - from) (drop from z)) st.1,
    )

-- READ

plain_spelled : (most deep : ℕ) (head : Head) (bytes : List ℕ) → SpellsHead head bytes → (head.code ≡ 163 → ⊥) → SpellsSegment most deep (record { head = head; inner = [] }) bytes
plain_spelled most zero head bytes s n = (s, n, refl)
plain_spelled most (suc deep) head bytes s n = (s, inr (n, refl))

pub plain_segment : (outer : List ℕ) (most deep : ℕ) (bytes : List ℕ) (at : ℕ) (ops new : List Op) (op : Op) (h : ReadHead) → IsReadHead bytes at h → (h.code ≡ 163 → ⊥) → new ≡ ops ++ op ∷ [] → meant outer op ≡ operation_of (head_in bytes h) 0 0 → IsSegmentRead outer most deep bytes at ops new h
plain_segment outer most deep bytes at ops new op h r n e m = record {
  op = op;
  held = [];
  items = e;
  means = m;
  starts = r.starts;
  inside = r.inside;
  spelled = plain_spelled most deep (head_in bytes h) (take (h.end - at) (drop at bytes)) r.spelled n;
}

entry_spelled : (most deep d : ℕ) (head : Head) (inner : List Operation) (bytes : List ℕ) → deep ≡ suc d → SpellsHead head bytes → head.code ≡ 163 → IsLevel most (SpellsSegment most d) inner head.block → SpellsSegment most deep (record { head = head; inner = inner }) bytes
entry_spelled most deep d head inner bytes e s c l =
    subst (λ (z : ℕ). SpellsSegment most z (record { head = head; inner = inner }) bytes) (sym e) (s, inl (c, l))

held_items : (ops mid new more : List Op) (op : Op) → mid ≡ ops ++ op ∷ [] → new ≡ mid ++ more → new ≡ ops ++ op ∷ more
held_items ops mid new more op e f = f ∙ ap (λ z. z ++ more) e ∙ append_assoc ops (op ∷ []) more

inner_means : (outer bytes : List ℕ) (h : ReadHead) (op : Op) (n : ℕ) → meant outer op ≡ operation_of (head_in bytes h) 0 0 → meant outer (with_inner op n) ≡ operation_of (head_in bytes h) 0 n
inner_means outer bytes h op n m = ap (λ (z : Operation). record { code = z.code; a = z.a; s = z.s; block = z.block; jump = z.jump; inner = n }) m

module _ (outer : List ℕ) (most deep d : ℕ) (bytes slice : List ℕ) (at number : ℕ) (ops mid new last : List Op) (op : Op) (h : ReadHead) where
  pub entry_segment : IsReadHead bytes at h → h.code ≡ 163 → deep ≡ suc d → slice ≡ (head_in bytes h).block → mid ≡ ops ++ op ∷ [] → meant outer op ≡ operation_of (head_in bytes h) 0 0 → number ≡ length ops → IsLevelRead outer most d slice mid new → ((before held : List Op) (o : Op) → new ≡ before ++ o ∷ held → length before ≡ number → last ≡ before ++ with_inner o (length held) ∷ held) → IsSegmentRead outer most deep bytes at ops last h
  entry_segment r c e s m means n l f = record {
    op = with_inner op (length l.more);
    held = l.more;
    items = f ops l.more op (held_items ops mid new l.more op m l.items) (sym n);
    means = inner_means outer bytes h op (length l.more) means;
    starts = r.starts;
    inside = r.inside;
    spelled = entry_spelled most deep d (head_in bytes h) (all_meant outer l.more) (take (h.end - at) (drop at bytes)) e r.spelled c (subst (λ (z : List ℕ). IsLevel most (SpellsSegment most d) (all_meant outer l.more) z) s l.level);
  }

-- FAULTS

from_head : (most deep : ℕ) (k : Kind) (at : ℕ) (bytes : List ℕ) → FaultHead k at bytes → FaultSegment most deep k at bytes
from_head most zero k at bytes f = inl f
from_head most (suc deep) k at bytes f = inl f

pub head_fault : (most deep : ℕ) (bytes : List ℕ) (at : ℕ) (f : Fault) → HasHeadFault bytes at f → HasSegmentFault most deep bytes at f
head_fault most deep bytes at f (inner, fault, place) = (inner, from_head most deep f.kind inner (drop at bytes) fault, place)

enters : (bytes : List ℕ) (at : ℕ) (h : ReadHead) → IsReadHead bytes at h → h.code ≡ 163 → Enters (head_in bytes h) (take (h.end - at) (drop at bytes)) (drop h.end bytes) (drop at bytes)
enters bytes at h r c = let up = r.starts in record { spelled = r.spelled; enters = c; whole = rest_and bytes at h.end (omega (arith, up)) }

pub too_deep : (most deep : ℕ) (bytes : List ℕ) (at : ℕ) (h : ReadHead) (f : Fault) → IsReadHead bytes at h → h.code ≡ 163 → deep ≡ 0 → f.kind ≡ kind.Limit → f.place ≡ at → HasSegmentFault most deep bytes at f
too_deep most deep bytes at h f r c e k place =
    (0, subst (λ (z : ℕ). FaultSegment most z f.kind 0 (drop at bytes)) (sym e) (inr (head_in bytes h, take (h.end - at) (drop at bytes), drop h.end bytes, enters bytes at h r c, k, refl)), omega (arith, place))

module _ (most deep d : ℕ) (bytes slice : List ℕ) (at from : ℕ) (h : ReadHead) (r : IsReadHead bytes at h) (c : h.code ≡ 163) (e : deep ≡ suc d) (s : slice ≡ (head_in bytes h).block) (p : from ≡ h.end - h.block.len) where
  pub inner_fault : (a b : Refusal) → IsMoved from a b → IsRefusedFor (HasLevelFault most d slice) a → IsRefusedFor (HasSegmentFault most deep bytes at) b
  inner_fault NoMemory NoMemory m f = tt
  inner_fault NoMemory (Refused g) m f = absurd m
  inner_fault (Refused f) NoMemory m fault = absurd m
  inner_fault (Refused f) (Refused g) m fault =
      let up = r.starts in
      let in_bytes = r.inside in
      let lies = r.lies in
      let room : length (drop at bytes) ≡ length bytes - at = length-drop at bytes in
      let long : length (take (h.end - at) (drop at bytes)) ≡ h.end - at = length-take-le (h.end - at) (drop at bytes) (omega (arith, up, in_bytes)) in
      let left : length (drop h.block.at bytes) ≡ length bytes - h.block.at = length-drop h.block.at bytes in
      let block : length (head_in bytes h).block ≡ h.block.len = length-take-le h.block.len (drop h.block.at bytes) (omega (arith, lies)) in
      let few = (entry_slice bytes at h r c).0 in
      let moved : g.place ≡ f.place + from = m.1 in
      let inner : FaultLevel most (SpellsSegment most d) (FaultSegment most d) g.kind f.place (head_in bytes h).block =
      subst (λ (z : Kind). FaultLevel most (SpellsSegment most d) (FaultSegment most d) z f.place (head_in bytes h).block) (sym m.0) (subst (λ (z : List ℕ). HasLevelFault most d z f) s fault)
      in (
        g.place - at,
        subst (λ (z : ℕ). FaultSegment most z g.kind (g.place - at) (drop at bytes)) (sym e) (inr (head_in bytes h, take (h.end - at) (drop at bytes), drop h.end bytes, f.place, enters bytes at h r c, inner, omega (arith, up, few))),
        omega (arith, up, few),
      )

-- the first fault of an expression from the left
segment_level : (outer : List ℕ) (most deep : ℕ) (bytes : List ℕ) (old ops : List Op) (starts : List Start) (at : ℕ) (f : Fault) → IsFront outer most deep bytes old ops starts at → HasSegmentFault most deep bytes at f → HasLevelFault most deep bytes f
segment_level outer most deep bytes old ops starts at f front (inner, fault, place) =
    let long : length (take at bytes) ≡ at = length-take-le at bytes front.inside in
    inl (record {
      before = front.segments;
      front = take at bytes;
      rest = drop at bytes;
      inner = inner;
      spelled = front.spelled;
      fault = fault;
      whole = sym (take-append-drop at bytes);
      place = omega (arith, place);
    })

pub refused_level : (most deep : ℕ) (bytes : List ℕ) (base : ℕ) (old ops : List Op) (starts : List Start) (at : ℕ) (r : Refusal) → ((outer : List ℕ) → Stands outer base bytes → IsFront outer most deep bytes old ops starts at) → IsRefusedFor (HasSegmentFault most deep bytes at) r → IsRefusedFor (HasLevelFault most deep bytes) r
refused_level most deep bytes base old ops starts at NoMemory front f = tt
refused_level most deep bytes base old ops starts at (Refused g) front f =
    let (outer, st) = stands_somewhere base bytes in
    segment_level outer most deep bytes old ops starts at g (front outer st) f

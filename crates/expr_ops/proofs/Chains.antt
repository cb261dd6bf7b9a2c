-- Operations begin one behind the other.
use Rattle.std.proofs.Common.{◌≡◌, ◌≤◌, ◌<◌, ◌+◌, ◌-◌, ℕ, List, [], ◌∷◌, ◌++◌, length, get_or, take, drop, ◌∙◌, sym, ap, subst, arith, rules, inl, inr}
use Rattle.std.proofs.lemmas.List.{append_assoc, append-nil, length-append, length-drop, length-take-le, drop_more, take-append-drop}
use Rattle.std.specs.Prelude.{pos}
use Rattle.expr_ops.specs.declared.op.Op.{Op}
use Rattle.expr_ops.specs.declared.head.ReadHead.{ReadHead}
use Rattle.expr_ops.specs.Heads.{Head, SpellsHead, KeepsBlock, IsBlockOf}
use Rattle.expr_ops.specs.Reads.{bytes_in}
use Rattle.expr_ops.specs.inside.Reads.{head_in, IsReadHead}
use Rattle.expr_ops.specs.Expressions.{Operation, operation_of}
use Rattle.dw_base.specs.declared.fault.Span.{Span}
use Rattle.expr_ops.proofs.BlockLaws.{block_of_head}
use Rattle.expr_ops.specs.Ops.{meant, IsLastBlock, Stands, held_bytes, IsLead, Chain}
use Rattle.expr_ops.specs.inside.Levels.{IsSpanOf, with_inner, with_jump, IsChained}
use Rattle.expr_ops.proofs.Segments.{part_stands, entry_slice}

pub chain_append : (outer : List ℕ) (a b c : ℕ) (xs ys : List Op) → Chain outer a xs b → Chain outer b ys c → Chain outer a (xs ++ ys) c
chain_append outer a b c [] ys e k = subst (λ (z : ℕ). Chain outer z ys c) (sym e) k
chain_append outer a b c (x ∷ xs) ys (at, (size, lead, j)) k = (at, (size, lead, chain_append outer (a + size) b c xs ys j k))

pub chained_none : (outer : List ℕ) (a : ℕ) (old : List Op) → IsChained outer a (a + 0) old old
chained_none outer a old = let e : a ≡ a + 0 = omega arith in ([], sym (append-nil old), e)

pub chained_on : (outer : List ℕ) (a b c : ℕ) (old mid new : List Op) → IsChained outer a b old mid → IsChained outer b c mid new → IsChained outer a c old new
chained_on outer a b c old mid new (xs, e, j) (ys, f, k) =
    (xs ++ ys, f ∙ ap (λ z. z ++ ys) e ∙ append_assoc old xs ys, chain_append outer a b c xs ys j k)

jumped : (outer : List ℕ) (at size n : ℕ) (op : Op) → IsLead outer at size op → IsLead outer at size (with_jump op n)
jumped outer at size n op l = record {
  head = l.head;
  inside = l.inside;
  spelled = l.spelled;
  means = ap (λ (z : Operation). record { code = z.code; a = z.a; s = z.s; block = z.block; jump = n; inner = z.inner }) l.means;
  block = l.block;
}

chain_sent : (outer : List ℕ) (a b n : ℕ) (before behind : List Op) (op : Op) → Chain outer a (before ++ op ∷ behind) b → Chain outer a (before ++ with_jump op n ∷ behind) b
chain_sent outer a b n [] behind op (at, (size, lead, j)) = (at, (size, jumped outer a size n op lead, j))
chain_sent outer a b n (x ∷ before) behind op (at, (size, lead, j)) = (at, (size, lead, chain_sent outer (a + size) b n before behind op j))

none : Op
none = record { at = 0; code = 0; a = 0; s = pos 0; jump = 0; bytes = record { at = 0; len = 0 }; inner = 0 }

pub chained_sent : (outer : List ℕ) (a b number jump first : ℕ) (old new last : List Op) → length old ≡ first → first + number < length new → IsChained outer a b old new → ((before behind : List Op) (op : Op) → new ≡ before ++ op ∷ behind → length before ≡ first + number → last ≡ before ++ with_jump op jump ∷ behind) → IsChained outer a b old last
chained_sent outer a b number jump first old new last size inside (more, e, j) f =
    let total : length new ≡ length old + length more = ap (λ z. length z) e ∙ length-append old more in
    let lt : number < length more = omega arith in
    let op = get_or more number none in
    let parts : more ≡ take number more ++ op ∷ drop (number + 1) more = sym (take-append-drop number more) ∙ ap (λ z. take number more ++ z) (drop_more more number none lt) in
    let front : length (take number more) ≡ number = length-take-le number more (omega arith) in
    let before : length (old ++ take number more) ≡ first + number = let n : length (old ++ take number more) ≡ length old + length (take number more) = length-append old (take number more) in omega arith in
    let items : new ≡ (old ++ take number more) ++ op ∷ drop (number + 1) more = e ∙ ap (λ z. old ++ z) parts ∙ sym (append_assoc old (take number more) (op ∷ drop (number + 1) more)) in (
      take number more ++ with_jump op jump ∷ drop (number + 1) more,
      f (old ++ take number more) (drop (number + 1) more) op items before ∙ append_assoc old (take number more) (with_jump op jump ∷ drop (number + 1) more),
      chain_sent outer a b jump (take number more) (drop (number + 1) more) op (subst (λ (z : List Op). Chain outer a z b) parts j),
    )

-- the bytes of a head, where they stand in the outermost expression
standing : (outer bytes : List ℕ) (base at end : ℕ) → Stands outer base bytes → at ≤ end → end ≤ length bytes → take (end - at) (drop (base + at) outer) ≡ take (end - at) (drop at bytes)
standing outer bytes base at end st up inside =
    let room : length (drop at bytes) ≡ length bytes - at = length-drop at bytes in
    let long : length (take (end - at) (drop at bytes)) ≡ end - at = length-take-le (end - at) (drop at bytes) (omega arith) in
    ap (λ n. take n (drop (base + at) outer)) (sym long) ∙ (part_stands outer bytes base at end st up inside).1

pub not_held : (head : Head) → (head.code ≡ 163 → ⊥) → held_bytes head ≡ 0
not_held head n = search (rules, n)

pub is_held : (head : Head) → head.code ≡ 163 → held_bytes head ≡ length head.block
is_held head e = search (rules, e)

-- where a kept block ends
block_place : (code base end own : ℕ) (block span : Span) → (KeepsBlock code → block.at + block.len ≡ end) → (KeepsBlock code → base + end ≡ own) → IsSpanOf code base block span → IsLastBlock code own span
block_place code base end own block span e f (inl (keeps, at, len)) =
    let to = e keeps in
    let there = f keeps in
    inl (keeps, omega arith)
block_place code base end own block span e f (inr (none, at, len)) = inr (none, at, len)

pub no_entry : (code : ℕ) → code ≡ 163 → KeepsBlock code → ⊥
no_entry code e (inl f) = omega arith
no_entry code e (inr f) = omega arith

module _ (outer bytes : List ℕ) (base at : ℕ) (op : Op) (h : ReadHead) (st : Stands outer base bytes) (r : IsReadHead bytes at h) (place : op.at ≡ base + at) (means : (z outer : List ℕ) → Stands outer base z → h.block.at + h.block.len ≤ length z → IsBlockOf h.code (bytes_in z h.block) → meant outer op ≡ operation_of (head_in z h) 0 0) (span : IsSpanOf h.code base h.block op.bytes) where
  lead : (size n : ℕ) → size + held_bytes (head_in bytes h) ≡ h.end - at → (KeepsBlock h.code → base + h.end ≡ base + at + size) → IsLead outer (base + at) size (with_inner op n)
  lead size n e f =
      let up = r.starts in
      let all = r.inside in
      let fits = st.0 in
      let front = take (h.end - at) (drop at bytes) in
      let m : meant outer op ≡ operation_of (head_in bytes h) 0 0 = means bytes outer st r.lies (block_of_head (head_in bytes h) front r.spelled) in
      record {
        head = head_in bytes h;
        inside = omega (arith, up, all, fits);
        spelled = subst (λ (z : List ℕ). SpellsHead (head_in bytes h) z) (sym (ap (λ n. take n (drop (base + at) outer)) e ∙ standing outer bytes base at h.end st (omega (arith, up)) all)) r.spelled;
        means = ap (λ (z : Operation). record { code = z.code; a = z.a; s = z.s; block = z.block; jump = op.jump; inner = n }) m;
        block = block_place h.code base h.end (base + at + size) h.block op.bytes r.ends f span;
      }

  pub chained_plain : (old new : List Op) → (h.code ≡ 163 → ⊥) → new ≡ old ++ op ∷ [] → IsChained outer (base + at) (base + h.end) old new
  chained_plain old new n e =
      let up = r.starts in
      let no_bytes : held_bytes (head_in bytes h) ≡ 0 = not_held (head_in bytes h) n in
      let to : base + at + (h.end - at) ≡ base + h.end = omega (arith, up) in
      (op ∷ [], e, (place, (h.end - at, lead (h.end - at) op.inner (omega arith) (λ k. sym to), to)))

  pub chained_entry : (old mid new last : List Op) (number : ℕ) → h.code ≡ 163 → mid ≡ old ++ op ∷ [] → number ≡ length old → (len : ℕ) → len ≡ h.end - (h.end - h.block.len) → IsChained outer (base + (h.end - h.block.len)) (base + (h.end - h.block.len) + len) mid new → ((before held : List Op) (o : Op) → new ≡ before ++ o ∷ held → length before ≡ number → last ≡ before ++ with_inner o (length held) ∷ held) → IsChained outer (base + at) (base + h.end) old last
  chained_entry old mid new last number c m n len size (more, e, j) f =
      let up = r.starts in
      let few = (entry_slice bytes at h r c).0 in
      let lies = r.lies in
      let left : length (drop h.block.at bytes) ≡ length bytes - h.block.at = length-drop h.block.at bytes in
      let block : length (head_in bytes h).block ≡ h.block.len = length-take-le h.block.len (drop h.block.at bytes) (omega (arith, lies)) in
      let own = h.end - h.block.len - at in
      let bytes_held : held_bytes (head_in bytes h) ≡ length (head_in bytes h).block = is_held (head_in bytes h) c in
      let l = lead own (length more) (omega (arith, up, few)) (λ k. absurd (no_entry h.code c k)) in
      let items : new ≡ old ++ op ∷ more = e ∙ ap (λ z. z ++ more) m ∙ append_assoc old (op ∷ []) more in
      let from : base + (h.end - h.block.len) ≡ base + at + own = omega (arith, few) in
      let to : base + (h.end - h.block.len) + len ≡ base + h.end = omega (arith, few) in (
        with_inner op (length more) ∷ more,
        f old more op items (sym n),
        (place, (own, l, subst (λ (z : ℕ). Chain outer z more (base + h.end)) from (subst (λ (z : ℕ). Chain outer (base + (h.end - h.block.len)) more z) to j))),
      )

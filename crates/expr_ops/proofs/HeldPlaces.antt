-- The operations of an expression can be held, each at its place.
use Rattle.std.proofs.Common.{◌≡◌, ◌+◌, ℕ, zero, suc, List, [], ◌∷◌, ◌++◌, length, take, drop, ◌∙◌, sym, ap, refl, subst, arith, inl, inr}
use Rattle.std.proofs.lemmas.List.{length-append, map-append}
use Rattle.dw_base.specs.declared.fault.Span.{Span}
use Rattle.dw_base.specs.declared.fault.Reach.{Reach}
use Rattle.spelled.specs.Spelled.{Joined}
use Rattle.expr_ops.specs.declared.op.Op.{Op}
use Rattle.expr_ops.specs.Heads.{Head, SpellsHead}
use Rattle.expr_ops.specs.Expressions.{Operation, Segment, IsLevel, IsExpression, SpellsSegment, branch_limit, plain_code, kept_sign, operation_of, flat}
use Rattle.expr_ops.specs.Ops.{meant, all_meant, Stands, held_bytes, IsLead, Chain}
use Rattle.expr_ops.proofs.Chains.{chain_append, not_held, is_held, no_entry}
use Rattle.expr_ops.proofs.LastBlocks.{stands_front, stands_rest, block_last, HasSpan, block_span}
use Rattle.expr_ops.proofs.Wholes.{stands_here}

-- operations are held one behind the other, from a place up to another
abbrev AreHeld : List ℕ → ℕ → List Operation → ℕ → Type 0
AreHeld outer from operations to = (ops : List Op) × (all_meant outer ops ≡ operations) × Chain outer from ops to

-- ONE OPERATION

abbrev held_at : ℕ → Head → ℕ → Span → ℕ → Op
held_at at head jump span inner = record { at = at; code = plain_code head.code; a = head.a; s = kept_sign head.code head.s; jump = jump; bytes = span; inner = inner }

held_means : (outer : List ℕ) (end base jump inner : ℕ) (head : Head) (x : HasSpan outer head end) → meant outer (held_at base head jump x.span inner) ≡ operation_of head jump inner
held_means outer end base jump inner head x =
    ap (λ (z : List ℕ). record { code = plain_code head.code; a = head.a; s = kept_sign head.code head.s; block = z; jump = jump; inner = inner }) x.kept

held_lead : (outer front : List ℕ) (base size jump inner : ℕ) (head : Head) (x : HasSpan outer head (base + size)) → Stands outer base front → SpellsHead head front → size + held_bytes head ≡ length front → IsLead outer base size (held_at base head jump x.span inner)
held_lead outer front base size jump inner head x (fits, same) s long = record {
  head = head;
  inside = omega (arith, fits);
  spelled = subst (λ (z : List ℕ). SpellsHead head z) (sym (ap (λ n. take n (drop base outer)) long ∙ same)) s;
  means = held_means outer (base + size) base jump inner head x;
  block = x.last;
}

plain_held : (outer front : List ℕ) (base jump : ℕ) (head : Head) (inner : List Operation) → Stands outer base front → SpellsHead head front → (head.code ≡ 163 → ⊥) → inner ≡ [] → AreHeld outer base (operation_of head jump (length inner) ∷ inner) (base + length front)
plain_held outer front base jump head inner st s other none =
    let held : held_bytes head ≡ 0 = not_held head other in
    let x = block_span outer front base (base + length front) head st s (λ _. refl) in
    let lead = held_lead outer front base (length front) jump (length inner) head x st s (omega arith) in (
      held_at base head jump x.span (length inner) ∷ [],
      ap (λ z. z ∷ []) (held_means outer (base + length front) base jump (length inner) head x) ∙ ap (λ z. operation_of head jump (length inner) ∷ z) (sym none),
      (refl, (length front, lead, refl)),
    )

entry_held : (outer front : List ℕ) (base jump : ℕ) (head : Head) (inner : List Operation) → Stands outer base front → SpellsHead head front → head.code ≡ 163 → ((at : ℕ) → Stands outer at head.block → AreHeld outer at inner (at + length head.block)) → AreHeld outer base (operation_of head jump (length inner) ∷ inner) (base + length front)
entry_held outer front base jump head inner st s entry below =
    let b = block_last head front s (inr entry) in
    let long : length front ≡ length b.lead + length head.block = ap (λ z. length z) b.whole ∙ length-append b.lead head.block in
    let own = length b.lead in
    let (ops, means, chain) = below (base + own) (stands_rest outer b.lead head.block base (subst (λ (z : List ℕ). Stands outer base z) b.whole st)) in
    let held : held_bytes head ≡ length head.block = is_held head entry in
    let x = block_span outer front base (base + own) head st s (λ keeps. absurd (no_entry head.code entry keeps)) in
    let lead = held_lead outer front base own jump (length inner) head x st s (omega arith) in
    let to : base + own + length head.block ≡ base + length front = omega arith in (
      held_at base head jump x.span (length inner) ∷ ops,
      ap (λ z. z ∷ all_meant outer ops) (held_means outer (base + own) base jump (length inner) head x) ∙ ap (λ z. operation_of head jump (length inner) ∷ z) means,
      (refl, (own, lead, subst (λ (z : ℕ). Chain outer (base + own) ops z) to chain)),
    )

-- ONE EXPRESSION

abbrev SegmentsAreHeld : (Segment → List ℕ → Type 0) → Type 0
SegmentsAreHeld S = (outer bytes : List ℕ) (base jump : ℕ) (g : Segment) → Stands outer base bytes → S g bytes → AreHeld outer base (operation_of g.head jump (length g.inner) ∷ g.inner) (base + length bytes)

module _ (S : Segment → List ℕ → Type 0) (each_held : SegmentsAreHeld S) where
  joined_held : (outer bytes : List ℕ) (base : ℕ) (jumps : List ℕ) (gs : List Segment) → length jumps ≡ length gs → Stands outer base bytes → Joined S gs bytes → AreHeld outer base (flat jumps gs) (base + length bytes)
  joined_held outer bytes base [] [] each st none =
      let size : length bytes ≡ 0 = ap (λ z. length z) none in
      ([], refl, omega arith)
  joined_held outer bytes base [] (g ∷ gs) each st j = absurd (omega arith)
  joined_held outer bytes base (jump ∷ jumps) [] each st j = absurd (omega arith)
  joined_held outer bytes base (jump ∷ jumps) (g ∷ gs) each st (first, rest, s, j, whole) =
      let parts : Stands outer base (first ++ rest) = subst (λ (z : List ℕ). Stands outer base z) whole st in
      let (ops, means, chain) = each_held outer first base jump g (stands_front outer first rest base parts) s in
      let (more, others, behind) = joined_held outer rest (base + length first) jumps gs (omega arith) (stands_rest outer first rest base parts) j in
      let size : length bytes ≡ length first + length rest = ap (λ z. length z) whole ∙ length-append first rest in
      let to : base + length first + length rest ≡ base + length bytes = omega arith in (
        ops ++ more,
        map-append (meant outer) ops more ∙ ap (λ z. z ++ all_meant outer more) means ∙ ap (λ z. operation_of g.head jump (length g.inner) ∷ (g.inner ++ z)) others,
        chain_append outer base (base + length first) (base + length bytes) ops more chain (subst (λ (z : ℕ). Chain outer (base + length first) more z) to behind),
      )

  level_held : (most : ℕ) (outer bytes : List ℕ) (base : ℕ) (operations : List Operation) → Stands outer base bytes → IsLevel most S operations bytes → AreHeld outer base operations (base + length bytes)
  level_held most outer bytes base operations st l =
      let (ops, means, chain) = joined_held outer bytes base l.jumps l.segments l.each st l.spelled in
      (ops, means ∙ sym l.listed, chain)

segments_held : (most deep : ℕ) → SegmentsAreHeld (SpellsSegment most deep)
segments_held most zero outer bytes base jump g st (s, other, none) = plain_held outer bytes base jump g.head g.inner st s other none
segments_held most (suc deep) outer bytes base jump g st (s, inl (entry, level)) =
    entry_held outer bytes base jump g.head g.inner st s entry (λ at there. level_held (SpellsSegment most deep) (segments_held most deep) most outer g.head.block at g.inner there level)
segments_held most (suc deep) outer bytes base jump g st (s, inr (other, none)) = plain_held outer bytes base jump g.head g.inner st s other none

pub expression_held : (reach : Reach) (operations : List Operation) (bytes : List ℕ) → IsExpression reach operations bytes → (ops : List Op) × (all_meant bytes ops ≡ operations) × Chain bytes 0 ops (length bytes)
expression_held reach operations bytes x =
    let most = branch_limit reach in
    let (ops, means, chain) = level_held (SpellsSegment most 8) (segments_held most 8) most bytes bytes 0 operations (stands_here bytes) x in
    let to : 0 + length bytes ≡ length bytes = omega arith in
    (ops, means, subst (λ (z : ℕ). Chain bytes 0 ops z) to chain)

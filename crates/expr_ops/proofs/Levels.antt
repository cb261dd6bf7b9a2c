-- Expressions: one reading, and no fault where there is one.
use Rattle.std.proofs.Common.{◌≡◌, ◌+◌, ℕ, zero, suc, List, [], ◌∷◌, ◌++◌, length, get_or, take, drop, ◌∙◌, sym, ap, refl, subst, arith, inl, inr}
use Rattle.std.proofs.lemmas.List.{append_assoc, append_cancel_left, length-append, take-append-drop, length-take-le, ext_get_or}
use Rattle.std.specs.Prelude.{ℤ, pos, ◌+ℤ◌}
use Rattle.spelled.specs.Spelled.{HasUniqueFronts, NeverBoth, Joined}
use Rattle.spelled.specs.inside.Spelled.{HasBytes}
use Rattle.spelled.proofs.Joins.{joined_same, joined_front}
use Rattle.dw_base.specs.declared.fault.Kind.{Kind}
use Rattle.dw_base.specs.declared.fault.Reach.{Reach}
use Rattle.expr_ops.specs.Heads.{Head}
use Rattle.expr_ops.specs.HeadFaults.{FaultHead}
use Rattle.expr_ops.specs.Expressions.{Operation, Segment, IsEntryValue, HasBranch, EndsAt, IsJump, IsLevel, IsExpression, SpellsSegment, branch_limit, head_at, flat, count_of}
use Rattle.expr_ops.specs.ExpressionFaults.{FaultLevel, Enters, FaultSegment, FaultExpression}
use Rattle.expr_ops.proofs.HeadLaws.{head_once, head_filled, head_never}

segment_same : (g h : Segment) → g.head ≡ h.head → g.inner ≡ h.inner → g ≡ h
segment_same g h e f = ap (λ (z : Head). record { head = z; inner = g.inner }) e ∙ ap (λ (z : List Operation). record { head = h.head; inner = z }) f

abbrev number_in : ℤ → ℕ
number_in (pos k) = k
number_in _ = 0

pub pos_same : (m n : ℕ) → pos m ≡ pos n → m ≡ n
pos_same m n e = ap number_in e

module _ (most : ℕ) (S : Segment → List ℕ → Type 0) (u : HasUniqueFronts S) (some : HasBytes S) where
  segments_once : (bytes : List ℕ) (gs hs : List Segment) → Joined S gs bytes → Joined S hs bytes → gs ≡ hs
  segments_once bytes gs hs j k = joined_same S u some gs hs bytes bytes [] [] j k refl refl

  pub ends_once : (gs : List Segment) (bytes : List ℕ) (m p q : ℕ) → EndsAt S gs bytes m p → EndsAt S gs bytes m q → p ≡ q
  ends_once gs bytes m p q a b =
      let h : take p bytes ++ drop p bytes ≡ take q bytes ++ drop q bytes = take-append-drop p bytes ∙ sym (take-append-drop q bytes) in
      let e = joined_front S u (take m gs) (take p bytes) (take q bytes) (drop p bytes) (drop q bytes) a.2 b.2 h in
      sym (length-take-le p bytes a.1) ∙ ap length e ∙ length-take-le q bytes b.1

  jump_once : (gs : List Segment) (bytes : List ℕ) (k i j : ℕ) → IsJump S gs bytes k i → IsJump S gs bytes k j → i ≡ j
  jump_once gs bytes k i j (inl (b, (m, x, e))) (inl (c, (n, y, f))) =
      let from : x.from ≡ y.from = ends_once gs bytes (k + 1) x.from y.from x.behind y.behind in
      let to : x.to ≡ y.to = pos_same x.to y.to (x.distance ∙ ap (λ z. pos z +ℤ (head_at gs k).s) from ∙ sym y.distance) in
      let there : Joined S (take m gs) (take y.to bytes) = subst (λ (z : ℕ). Joined S (take m gs) (take z bytes)) to x.there.2 in
      e ∙ ap count_of (segments_once (take y.to bytes) (take m gs) (take n gs) there y.there.2) ∙ sym f
  jump_once gs bytes k i j (inl (b, _)) (inr (c, _)) = absurd (c b)
  jump_once gs bytes k i j (inr (b, _)) (inl (c, _)) = absurd (b c)
  jump_once gs bytes k i j (inr (b, e)) (inr (c, f)) = e ∙ sym f

  pub level_once : (o p : List Operation) (bytes : List ℕ) → IsLevel most S o bytes → IsLevel most S p bytes → o ≡ p
  level_once o p bytes x y =
      let same = segments_once bytes x.segments y.segments x.spelled y.spelled in
      let long : length x.jumps ≡ length y.jumps = x.each ∙ ap (λ (z : List Segment). length z) same ∙ sym y.each in
      let jumps = ext_get_or 0 x.jumps y.jumps long (λ k lt. jump_once y.segments bytes k _ _ (subst (λ (z : List Segment). IsJump S z bytes k (get_or x.jumps k 0)) same (x.jumping k (let e = x.each in omega arith))) (y.jumping k (let e = y.each in omega arith))) in
      x.listed ∙ ap (λ z. flat z x.segments) jumps ∙ ap (flat y.jumps) same ∙ sym y.listed

  module _ (F : Kind → ℕ → List ℕ → Type 0) (never : NeverBoth S F) (none : (k : Kind) (at : ℕ) → F k at [] → ⊥) where
    whole_faults : (gs hs : List Segment) (k : Kind) (at : ℕ) (a b rest : List ℕ) → Joined S gs a → Joined S hs b → F k at rest → a ≡ b ++ rest → ⊥
    whole_faults [] [] k at a b rest j r f h = none k at (subst (λ (z : List ℕ). F k at z) (sym (ap (λ z. z ++ rest) r) ∙ sym h ∙ j) f)
    whole_faults [] (g ∷ hs) k at a b rest j (q, d, t, r, e) f h =
        let n = some g q t in
        let l : length a ≡ 0 = ap length j in
        let m : length a ≡ length b + length rest = ap length h ∙ length-append b rest in
        let o : length b ≡ length q + length d = ap length e ∙ length-append q d in
        absurd (omega arith)
    whole_faults (g ∷ gs) [] k at a b rest (p, c, s, j, e) r f h =
        never g k at p c s (subst (λ (z : List ℕ). F k at z) (sym (ap (λ z. z ++ rest) r) ∙ sym h ∙ e) f)
    whole_faults (g ∷ gs) (i ∷ hs) k at a b rest (p, c, s, j, e) (q, d, t, r, l) f h =
        let w : p ++ c ≡ q ++ (d ++ rest) = sym e ∙ h ∙ ap (λ z. z ++ rest) l ∙ append_assoc q d rest in
        let one = u g i p q c (d ++ rest) s t w in
        let v : c ≡ d ++ rest = append_cancel_left q c (d ++ rest) (ap (λ z. z ++ c) (sym one.0) ∙ w) in
        whole_faults gs hs k at c d rest j r f v

    pub level_never : (o : List Operation) (k : Kind) (at : ℕ) (bytes : List ℕ) → IsLevel most S o bytes → FaultLevel most S F k at bytes → ⊥
    level_never o k at bytes x (inl f) = whole_faults x.segments f.before k f.inner bytes f.front f.rest x.spelled f.spelled f.fault f.whole
    level_never o k at bytes x (inr (inl (e, f))) =
        let same = segments_once bytes x.segments f.segments x.spelled f.spelled in
        let jump : IsJump S f.segments bytes f.k (get_or x.jumps f.k 0) = subst (λ (z : List Segment). IsJump S z bytes f.k (get_or x.jumps f.k 0)) same (x.jumping f.k (let n : length x.segments ≡ length f.segments = ap (λ (z : List Segment). length z) same in omega (arith, f.inside))) in
        elim jump [
          | inl (b, (m, y, _)) ↦ f.astray m y
          | inr (b, _) ↦ b f.branch
        ]
    level_never o k at bytes x (inr (inr (e, p, f))) =
        let same = segments_once bytes x.segments f.segments x.spelled f.spelled in
        let few = x.few (subst (λ (z : List Segment). HasBranch z) (sym same) f.branch) in
        omega (arith, few, f.long)

pub segment_filled : (most deep : ℕ) → HasBytes (SpellsSegment most deep)
segment_filled most zero g a p = head_filled g.head a p.0
segment_filled most (suc deep) g a p = head_filled g.head a p.0

pub segment_once : (most deep : ℕ) → HasUniqueFronts (SpellsSegment most deep)
segment_once most zero g h a b x y p q e =
    let one = head_once g.head h.head a b x y p.0 q.0 e in
    (one.0, segment_same g h one.1 (p.2 ∙ sym q.2))
segment_once most (suc deep) g h a b x y (p, inl (c, l)) (q, inl (d, m)) e =
    let one = head_once g.head h.head a b x y p q e in
    let l2 : IsLevel most (SpellsSegment most deep) g.inner h.head.block = subst (λ (z : Head). IsLevel most (SpellsSegment most deep) g.inner z.block) one.1 l in
    (one.0, segment_same g h one.1 (level_once most (SpellsSegment most deep) (segment_once most deep) (segment_filled most deep) g.inner h.inner h.head.block l2 m))
segment_once most (suc deep) g h a b x y (p, inl (c, l)) (q, inr (d, m)) e =
    let one = head_once g.head h.head a b x y p q e in
    absurd (d (subst (λ (z : Head). IsEntryValue z.code) one.1 c))
segment_once most (suc deep) g h a b x y (p, inr (c, l)) (q, inl (d, m)) e =
    let one = head_once g.head h.head a b x y p q e in
    absurd (c (subst (λ (z : Head). IsEntryValue z.code) (sym one.1) d))
segment_once most (suc deep) g h a b x y (p, inr (c, l)) (q, inr (d, m)) e =
    let one = head_once g.head h.head a b x y p q e in
    (one.0, segment_same g h one.1 (l ∙ sym m))

none_head : (k : Kind) (at : ℕ) → FaultHead k at [] → ⊥
none_head k at (code, tail, e, f) = let n : 0 ≡ length (code ∷ tail) = ap length e in absurd (omega arith)

none_enters : (head : Head) (front rest : List ℕ) → Enters head front rest [] → ⊥
none_enters head front rest e =
    let n = head_filled head front e.spelled in
    let m : 0 ≡ length front + length rest = ap length e.whole ∙ length-append front rest in
    absurd (omega arith)

pub none_segment : (most deep : ℕ) (k : Kind) (at : ℕ) → FaultSegment most deep k at [] → ⊥
none_segment most zero k at (inl f) = none_head k at f
none_segment most zero k at (inr (head, front, rest, e, _, _)) = none_enters head front rest e
none_segment most (suc deep) k at (inl f) = none_head k at f
none_segment most (suc deep) k at (inr (head, front, rest, inner, e, _, _)) = none_enters head front rest e

pub segment_never : (most deep : ℕ) → NeverBoth (SpellsSegment most deep) (FaultSegment most deep)
segment_never most zero g k at a x p (inl f) = head_never g.head k at a x p.0 f
segment_never most zero g k at a x p (inr (head, front, rest, e, _, _)) =
    let one = head_once g.head head a front x rest p.0 e.spelled e.whole in
    p.1 (subst (λ (z : Head). IsEntryValue z.code) (sym one.1) e.enters)
segment_never most (suc deep) g k at a x p (inl f) = head_never g.head k at a x p.0 f
segment_never most (suc deep) g k at a x (p, inl (c, l)) (inr (head, front, rest, inner, e, f, place)) =
    let one = head_once g.head head a front x rest p e.spelled e.whole in
    let l2 : IsLevel most (SpellsSegment most deep) g.inner head.block = subst (λ (z : Head). IsLevel most (SpellsSegment most deep) g.inner z.block) one.1 l in
    level_never most (SpellsSegment most deep) (segment_once most deep) (segment_filled most deep) (FaultSegment most deep) (segment_never most deep) (none_segment most deep) g.inner k inner head.block l2 f
segment_never most (suc deep) g k at a x (p, inr (c, l)) (inr (head, front, rest, inner, e, f, place)) =
    let one = head_once g.head head a front x rest p e.spelled e.whole in
    c (subst (λ (z : Head). IsEntryValue z.code) (sym one.1) e.enters)

-- bytes have one reading
pub expression_once : (reach : Reach) (o p : List Operation) (bytes : List ℕ) → IsExpression reach o bytes → IsExpression reach p bytes → o ≡ p
expression_once reach o p bytes x y =
    level_once (branch_limit reach) (SpellsSegment (branch_limit reach) 8) (segment_once (branch_limit reach) 8) (segment_filled (branch_limit reach) 8) o p bytes x y

-- and those that have one have no fault
pub expression_never : (reach : Reach) (o : List Operation) (k : Kind) (at : ℕ) (bytes : List ℕ) → IsExpression reach o bytes → FaultExpression reach k at bytes → ⊥
expression_never reach o k at bytes x f =
    level_never (branch_limit reach) (SpellsSegment (branch_limit reach) 8) (segment_once (branch_limit reach) 8) (segment_filled (branch_limit reach) 8) (FaultSegment (branch_limit reach) 8) (segment_never (branch_limit reach) 8) (none_segment (branch_limit reach) 8) o k at bytes x f

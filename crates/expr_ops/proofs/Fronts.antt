-- Operations that are read, one after the other.
use Rattle.std.proofs.Common.{◌≡◌, ◌≤◌, ◌<◌, ◌+◌, ◌-◌, ◌↔◌, ℕ, zero, suc, List, [], ◌∷◌, ◌++◌, length, take, drop, ◌∙◌, sym, ap, refl, subst, arith, inl, inr}
use Rattle.std.proofs.lemmas.List.{append_assoc, append-nil, length-append, length-map, map-append, take-append-le, take_all, get_or_append_left, get_or-append-add, drop_at}
use Rattle.std.proofs.lemmas.Bool.{cases_lt}
use Rattle.std.specs.Prelude.{IsTrue, pos}
use Rattle.spelled.specs.Spelled.{Joined}
use Rattle.spelled.proofs.Joins.{joined_push}
use Rattle.spelled.proofs.Parts.{take_sum}
use Rattle.expr_ops.specs.declared.op.Op.{Op}
use Rattle.expr_ops.specs.declared.start.Start.{Start}
use Rattle.expr_ops.specs.declared.head.ReadHead.{ReadHead}
use Rattle.expr_ops.specs.Heads.{Head}
use Rattle.expr_ops.specs.inside.Reads.{head_in}
use Rattle.expr_ops.specs.Expressions.{Segment, IsBranch, EndsAt, SpellsSegment, operation_of, flat, count_of, head_at}
use Rattle.expr_ops.specs.Ops.{meant, all_meant, Stands}
use Rattle.expr_ops.specs.inside.Levels.{IsSegmentRead, IsFront, IsStart, start_at, none_sent}

-- LISTS

zeros : ℕ → List ℕ
zeros zero = []
zeros (suc n) = 0 ∷ zeros n

length-zeros : (n : ℕ) → length (zeros n) ≡ n
unfolding zeros
length-zeros zero = refl
length-zeros (suc n) = let e = length-zeros n in omega arith

pub stands_somewhere : (base : ℕ) (bytes : List ℕ) → (outer : List ℕ) × Stands outer base bytes
stands_somewhere base bytes =
    let long = length-zeros base in
    let size : length (zeros base ++ bytes) ≡ length (zeros base) + length bytes = length-append (zeros base) bytes in
    (zeros base ++ bytes, (omega arith, ap (take (length bytes)) (drop_at (zeros base) bytes base long) ∙ take_all (length bytes) bytes (omega arith)))

-- SEGMENTS

flat_push : (gs : List Segment) (g : Segment) → flat (none_sent (gs ++ g ∷ [])) (gs ++ g ∷ []) ≡ flat (none_sent gs) gs ++ operation_of g.head 0 (length g.inner) ∷ g.inner
flat_push [] g = ap (λ z. operation_of g.head 0 (length g.inner) ∷ z) (append-nil g.inner)
flat_push (i ∷ gs) g =
    ap (λ z. operation_of i.head 0 (length i.inner) ∷ (i.inner ++ z)) (flat_push gs g) ∙ ap (λ z. operation_of i.head 0 (length i.inner) ∷ z) (sym (append_assoc i.inner (flat (none_sent gs) gs) (operation_of g.head 0 (length g.inner) ∷ g.inner)))

flat_long : (gs : List Segment) → length (flat (none_sent gs) gs) ≡ count_of gs
flat_long [] = refl
flat_long (g ∷ gs) =
    let e : length (g.inner ++ flat (none_sent gs) gs) ≡ length g.inner + length (flat (none_sent gs) gs) = length-append g.inner (flat (none_sent gs) gs) in
    let f = flat_long gs in
    omega arith

ends_more : (S : Segment → List ℕ → Type 0) (gs : List Segment) (g : Segment) (bytes : List ℕ) (k place : ℕ) → EndsAt S gs bytes k place → EndsAt S (gs ++ g ∷ []) bytes k place
ends_more S gs g bytes k place e =
    let size : length (gs ++ g ∷ []) ≡ length gs + length (g ∷ []) = length-append gs (g ∷ []) in
    let few : k ≤ length gs = e.0 in
    (omega arith, e.1, subst (λ (z : List Segment). Joined S z (take place bytes)) (sym (take-append-le k gs (g ∷ []) few)) e.2)

nothing : Segment
nothing = record { head = record { code = 0; a = 0; s = pos 0; block = [] }; inner = [] }

head_more : (gs : List Segment) (g : Segment) (k : ℕ) → k < length gs → head_at (gs ++ g ∷ []) k ≡ head_at gs k
head_more gs g k lt = ap (λ (z : Segment). z.head) (get_or_append_left gs (g ∷ []) _ k lt)

head_last : (gs : List Segment) (g : Segment) → head_at (gs ++ g ∷ []) (length gs) ≡ g.head
head_last gs g =
    let e : length gs + 0 ≡ length gs = omega arith in
    ap (λ n. head_at (gs ++ g ∷ []) n) (sym e) ∙ ap (λ (z : Segment). z.head) (get_or-append-add gs (g ∷ []) 0 _)

start_more : (xs : List Start) (x : Start) (k : ℕ) → k < length xs → start_at (xs ++ x ∷ []) k ≡ start_at xs k
start_more xs x k lt = get_or_append_left xs (x ∷ []) _ k lt

start_last : (xs : List Start) (x : Start) → start_at (xs ++ x ∷ []) (length xs) ≡ x
start_last xs x =
    let e : length xs + 0 ≡ length xs = omega arith in
    ap (λ n. start_at (xs ++ x ∷ []) n) (sym e) ∙ get_or-append-add xs (x ∷ []) 0 _

row_more : (S : Segment → List ℕ → Type 0) (bytes : List ℕ) (gs : List Segment) (g : Segment) (k : ℕ) (x : Start) → k < length gs → IsStart S bytes gs k x → IsStart S bytes (gs ++ g ∷ []) k x
row_more S bytes gs g k x lt r = record {
  from = ends_more S gs g bytes k x.at r.from;
  behind = ends_more S gs g bytes (k + 1) x.end r.behind;
  number = r.number ∙ ap count_of (sym (take-append-le k gs (g ∷ []) (omega arith)));
  branch = subst (λ (z : Head). IsTrue x.is_branch ↔ IsBranch z.code) (sym (head_more gs g k lt)) r.branch;
  distance = r.distance ∙ ap (λ (z : Head). z.s) (sym (head_more gs g k lt));
}

pub front_none : (outer bytes : List ℕ) (most deep : ℕ) (old : List Op) → IsFront outer most deep bytes old old [] 0
front_none outer bytes most deep old = record {
  segments = [];
  more = [];
  items = sym (append-nil old);
  inside = omega arith;
  spelled = refl;
  means = refl;
  each = refl;
  rows = λ k lt. absurd (omega arith);
}

module _ (outer : List ℕ) (most deep : ℕ) (bytes : List ℕ) (old ops new : List Op) (starts : List Start) (at number : ℕ) (h : ReadHead) (x : Start) where
  pub front_on : IsFront outer most deep bytes old ops starts at → IsSegmentRead outer most deep bytes at ops new h → length ops ≡ length old + number → x.at ≡ at → x.end ≡ h.end → x.number ≡ number → (IsTrue x.is_branch ↔ IsBranch h.code) → x.distance ≡ h.s → IsFront outer most deep bytes old new (starts ++ x ∷ []) h.end
  front_on f r long e1 e2 e3 e4 e5 =
      let S = SpellsSegment most deep in
      let g : Segment = record { head = head_in bytes h; inner = all_meant outer r.held } in
      let up = r.starts in
      let inside = r.inside in
      let e : h.end ≡ at + (h.end - at) = omega (arith, up) in
      let joined : Joined S (f.segments ++ g ∷ []) (take h.end bytes) =
      subst (λ (z : List ℕ). Joined S (f.segments ++ g ∷ []) z) (sym (ap (λ n. take n bytes) e ∙ take_sum at (h.end - at) bytes)) (joined_push S f.segments g (take at bytes) (take (h.end - at) (drop at bytes)) f.spelled r.spelled)
      in
      let inner : length (all_meant outer r.held) ≡ length r.held = length-map r.held (meant outer) in
      let means : all_meant outer (f.more ++ r.op ∷ r.held) ≡ flat (none_sent (f.segments ++ g ∷ [])) (f.segments ++ g ∷ []) =
      map-append (meant outer) f.more (r.op ∷ r.held) ∙ ap (λ z. z ++ all_meant outer (r.op ∷ r.held)) f.means ∙ ap (λ z. flat (none_sent f.segments) f.segments ++ z ∷ all_meant outer r.held) (r.means ∙ ap (operation_of g.head 0) (sym inner)) ∙ sym (flat_push f.segments g)
      in
      let count : number ≡ count_of f.segments =
      let a : length ops ≡ length old + length f.more = ap (λ z. length z) f.items ∙ length-append old f.more in
      let b : length f.more ≡ count_of f.segments = sym (length-map f.more (meant outer)) ∙ ap (λ z. length z) f.means ∙ flat_long f.segments in
      omega arith
      in
      let size : length (f.segments ++ g ∷ []) ≡ length f.segments + length (g ∷ []) = length-append f.segments (g ∷ []) in
      let each = f.each in
      let ends_here : EndsAt S f.segments bytes (length f.segments) at = (omega arith, f.inside, subst (λ (z : List Segment). Joined S z (take at bytes)) (sym (take_all (length f.segments) f.segments (omega arith))) f.spelled) in
      let ends_there : EndsAt S (f.segments ++ g ∷ []) bytes (length f.segments + 1) h.end = (omega arith, inside, subst (λ (z : List Segment). Joined S z (take h.end bytes)) (sym (take_all (length f.segments + 1) (f.segments ++ g ∷ []) (omega arith))) joined) in
      let last : IsStart S bytes (f.segments ++ g ∷ []) (length f.segments) x = record {
        from = subst (λ n. EndsAt S (f.segments ++ g ∷ []) bytes (length f.segments) n) (sym e1) (ends_more S f.segments g bytes (length f.segments) at ends_here);
        behind = subst (λ n. EndsAt S (f.segments ++ g ∷ []) bytes (length f.segments + 1) n) (sym e2) ends_there;
        number = e3 ∙ count ∙ ap count_of (sym (take-append-le (length f.segments) f.segments (g ∷ []) (omega arith) ∙ take_all (length f.segments) f.segments (omega arith)));
        branch = subst (λ (z : Head). IsTrue x.is_branch ↔ IsBranch z.code) (sym (head_last f.segments g)) e4;
        distance = e5 ∙ ap (λ (z : Head). z.s) (sym (head_last f.segments g));
      }
      in
      record {
        segments = f.segments ++ g ∷ [];
        more = f.more ++ r.op ∷ r.held;
        items = r.items ∙ ap (λ z. z ++ r.op ∷ r.held) f.items ∙ append_assoc old f.more (r.op ∷ r.held);
        inside = inside;
        spelled = joined;
        means = means;
        each = length-append starts (x ∷ []) ∙ ap (λ n. n + 1) f.each ∙ sym size;
        rows = λ k lt. elim (cases_lt k (length f.segments)) [
          | inl less ↦ subst (λ (z : Start). IsStart S bytes (f.segments ++ g ∷ []) k z) (sym (start_more starts x k (omega arith))) (row_more S bytes f.segments g k (start_at starts k) less (f.rows k less))
          | inr most_of ↦
              let same : k ≡ length f.segments = omega arith in
              let here : start_at (starts ++ x ∷ []) k ≡ x = ap (start_at (starts ++ x ∷ [])) (same ∙ sym each) ∙ start_last starts x in
              subst (λ (z : Start). IsStart S bytes (f.segments ++ g ∷ []) k z) (sym here) (subst (λ n. IsStart S bytes (f.segments ++ g ∷ []) n x) (sym same) last)
        ];
      }

-- The new bytes of a unit's expressions, one value after the other.
use Rattle.std.proofs.Common.{◌≡◌, ◌≤◌, ◌<◌, ◌+◌, ◌-◌, ◌*◌, ◌^◌, ◌⊎◌, ℕ, zero, suc, List, [], ◌∷◌, ◌++◌, length, take, drop, get_or, true, false, add-one, ◌∙◌, sym, ap, refl, subst, arith, inl, inr}
use Rattle.std.specs.List.{All}
use Rattle.std.proofs.lemmas.Bool.{cases_lt}
use Rattle.std.proofs.lemmas.List.{append-nil, get_or_default, append_assoc, length-append, length_push, get_or_push, get_or_append_left, take-append-le, drop-append-le, drop_at, take_all, length-drop}
use Rattle.std.proofs.lemmas.List.Elements.{All-push}
use Rattle.spelled.proofs.Parts.{length_part}
use Rattle.dw_base.specs.declared.fault.Reach.TheVariants.{Narrow}
use Rattle.dw_base.specs.declared.fault.Span.{Span}
use Rattle.expr_ops.specs.declared.op.Op.{Op}
use Rattle.expr_ops.specs.Drafts.{has_reference}
use Rattle.expr_ops.specs.Expressions.{IsExpression}
use Rattle.expr_ops.specs.Ops.{all_meant}
use Rattle.expr_ops.specs.Puts.{Adds}
use Rattle.expr_ops.specs.Shortest.{shortest_length, IsWrittenShortest}
use Rattle.expr_ops.specs.Bounds.{ShortestIsFew}
use Rattle.form_codec.specs.declared.value.Value.{Value}
use Rattle.form_codec.specs.declared.value.Value.TheVariants as value
use Rattle.form_codec.specs.Values.{bytes_in, LiesIn}
use Rattle.entry_arena.specs.Arena.{Arena, value_at}
use Rattle.entry_arena.specs.Operations.{HeldOps, ops_of}
use Rattle.entry_arena.specs.Order.{IsInOrder, ComesBefore}
use Rattle.entry_read.specs.Expressions.{IsExprAt, HasOperations}
use Rattle.unit_write.specs.NewExpressions.{begin_of, made_of, refs_among, refs_of, AreEndsFor}
use Rattle.unit_write.specs.inside.Expressions.{IsNone, PutsExpression}
use Rattle.unit_write.proofs.FewLaws.{expr_or_other}

-- REFERENCES

abbrev IsNarrow : ℕ → Type 0
IsNarrow n = n < 2 ^ 32

-- the references of the operations that were passed, with those of what is left
pub record AreGathered (ops : List Op) (numbers refs : List ℕ) (ops_left : List Op) (numbers_left : List ℕ) : Type 0 where
  pub all : refs ++ refs_among ops_left numbers_left ≡ refs_among ops numbers
  pub left : All IsNarrow numbers_left
  pub narrow : All IsNarrow refs

module _ (ops : List Op) (numbers : List ℕ) where
  pub gathered_none : (refs : List ℕ) (os : List Op) (ns : List ℕ) → refs ≡ [] → os ≡ ops → ns ≡ numbers → All IsNarrow numbers → AreGathered ops numbers refs os ns
  gathered_none refs os ns none o n narrow =
      let first : AreGathered ops numbers [] ops numbers = record { all = refl; left = narrow; narrow = λ k d lt. absurd (omega arith) } in
      let second = subst (λ (z : List ℕ). AreGathered ops numbers z ops numbers) (sym none) first in
      let third = subst (λ (z : List Op). AreGathered ops numbers refs z numbers) (sym o) second in
      subst (λ (z : List ℕ). AreGathered ops numbers refs os z) (sym n) third

  tail_narrow : (n : ℕ) (ns : List ℕ) → All IsNarrow (n ∷ ns) → All IsNarrow ns
  tail_narrow n ns h = λ k d lt. h (suc k) d (omega arith)

  with_reference : (op : Op) (os : List Op) (n : ℕ) (ns : List ℕ) → has_reference op.code ≡ true → refs_among (op ∷ os) (n ∷ ns) ≡ n ∷ refs_among os ns
  with_reference op os n ns has = rw has refl

  without : (op : Op) (os : List Op) (n : ℕ) (ns : List ℕ) → has_reference op.code ≡ false → refs_among (op ∷ os) (n ∷ ns) ≡ refs_among os ns
  without op os n ns none = rw none refl

  pub gathered_ref : (refs new : List ℕ) (op : Op) (ops_left ops_next : List Op) (n : ℕ) (numbers_left numbers_next : List ℕ) → AreGathered ops numbers refs ops_left numbers_left → ops_left ≡ op ∷ ops_next → numbers_left ≡ n ∷ numbers_next → has_reference op.code ≡ true → new ≡ refs ++ n ∷ [] → AreGathered ops numbers new ops_next numbers_next
  gathered_ref refs new op ops_left ops_next n numbers_left numbers_next h o m has is =
      let first = subst (λ (z : List Op). AreGathered ops numbers refs z numbers_left) o h in
      let split = subst (λ (z : List ℕ). AreGathered ops numbers refs (op ∷ ops_next) z) m first in
      let own : n < 2 ^ 32 = split.left 0 n (omega arith) in
      subst (λ (z : List ℕ). AreGathered ops numbers z ops_next numbers_next) (sym is) (record {
        all = append_assoc refs (n ∷ []) (refs_among ops_next numbers_next) ∙ ap (λ (z : List ℕ). refs ++ z) (sym (with_reference op ops_next n numbers_next has)) ∙ split.all;
        left = tail_narrow n numbers_next split.left;
        narrow = All-push IsNarrow refs n split.narrow own;
      })

  pub gathered_other : (refs : List ℕ) (op : Op) (ops_left ops_next : List Op) (n : ℕ) (numbers_left numbers_next : List ℕ) → AreGathered ops numbers refs ops_left numbers_left → ops_left ≡ op ∷ ops_next → numbers_left ≡ n ∷ numbers_next → has_reference op.code ≡ false → AreGathered ops numbers refs ops_next numbers_next
  gathered_other refs op ops_left ops_next n numbers_left numbers_next h o m none =
      let first = subst (λ (z : List Op). AreGathered ops numbers refs z numbers_left) o h in
      let split = subst (λ (z : List ℕ). AreGathered ops numbers refs (op ∷ ops_next) z) m first in
      record {
        all = ap (λ (z : List ℕ). refs ++ z) (sym (without op ops_next n numbers_next none)) ∙ split.all;
        left = tail_narrow n numbers_next split.left;
        narrow = split.narrow;
      }

  none_among : (os : List Op) (ns : List ℕ) → (length os ≡ 0) ⊎ (length ns ≡ 0) → refs_among os ns ≡ []
  none_among [] ns h = refl
  none_among (op ∷ os) [] h = refl
  none_among (op ∷ os) (n ∷ ns) (inl h) = absurd (omega arith)
  none_among (op ∷ os) (n ∷ ns) (inr h) = absurd (omega arith)

  pub gathered_all : (refs : List ℕ) (ops_left : List Op) (numbers_left : List ℕ) → AreGathered ops numbers refs ops_left numbers_left → (length ops_left ≡ 0) ⊎ (length numbers_left ≡ 0) → refs ≡ refs_among ops numbers
  gathered_all refs ops_left numbers_left h none =
      sym (append-nil refs) ∙ ap (λ (z : List ℕ). refs ++ z) (sym (none_among ops_left numbers_left none)) ∙ h.all

-- ENDS

begin_push : (ends : List ℕ) (e k : ℕ) → k ≤ length ends → begin_of (ends ++ e ∷ []) k ≡ begin_of ends k
begin_push ends e zero lt = refl
begin_push ends e (suc k) lt = get_or_append_left ends (e ∷ []) 0 k (omega arith)

-- the value stands at a place before those behind it
pub span_before : (f : Arena) (i j : ℕ) (s t : Span) → IsInOrder f → i < j → IsExprAt f i s → IsExprAt f j t → s.at + s.len ≤ t.at
span_before f i j s t order lt a b =
    let before : ComesBefore (value_at f.values i) (value_at f.values j) = order.spans.rising i j lt b.inside in
    let first = subst (λ (v : Value). ComesBefore v (value_at f.values j)) a.is before in
    let both = subst (λ (v : Value). ComesBefore (value.Expr s) v) b.is first in
    both

pub span_inside : (f : Arena) (k : ℕ) (s : Span) → IsInOrder f → IsExprAt f k s → s.at + s.len ≤ length f.section
span_inside f k s order a = subst (λ (v : Value). LiesIn (length f.section) v) a.is (order.spans.inside k a.inside)

-- made of so many bytes from a place on, the bytes of a value stay where more follow
made_more : (out more : List ℕ) (begin end : ℕ) → begin ≤ end → end ≤ length out → take (end - begin) (drop begin (out ++ more)) ≡ take (end - begin) (drop begin out)
made_more out more begin end rising inside =
    let rest : length (drop begin out) ≡ length out - begin = length-drop begin out in
    ap (take (end - begin)) (drop-append-le begin out more (omega arith)) ∙ take-append-le (end - begin) (drop begin out) more (omega arith)

-- those that were put last
made_last : (out more : List ℕ) (begin end : ℕ) → length out ≡ begin → end ≡ begin + length more → take (end - begin) (drop begin (out ++ more)) ≡ more
made_last out more begin end before size = ap (take (end - begin)) (drop_at out more begin before) ∙ take_all (end - begin) more (omega arith)

-- the expressions of the first n values are written, and these are their ends
pub record ExpressionsPut (f : Arena) (held : HeldOps) (numbers : List ℕ) (n : ℕ) (ends out : List ℕ) : Type 0 where
  pub within : n ≤ length f.values
  pub count : length ends ≡ n
  pub last : length out ≡ begin_of ends n
  pub place : ℕ
  pub inside : place ≤ length f.section
  pub most : length out ≤ 3 * place
  pub behind : (k : ℕ) (span : Span) → n ≤ k → IsExprAt f k span → place ≤ span.at
  pub rising : (k : ℕ) → k < n → begin_of ends k ≤ get_or ends k 0
  pub below : (k : ℕ) → k < n → get_or ends k 0 ≤ length out
  pub few : (k : ℕ) (span : Span) → k < n → IsExprAt f k span → get_or ends k 0 ≤ begin_of ends k + 3 * span.len
  pub none : (k : ℕ) → k < n → IsNone f k → get_or ends k 0 ≡ begin_of ends k
  pub each : (k : ℕ) (span : Span) → k < n → IsExprAt f k span → IsWrittenShortest (refs_of held numbers k) (bytes_in f.section span) (ops_of held k) (made_of ends out k)

-- so many bytes are not too many for the values before a place
record IsBehind (f : Arena) (n size : ℕ) : Type 0 where
  place : ℕ
  inside : place ≤ length f.section
  most : size ≤ 3 * place
  behind : (k : ℕ) (span : Span) → n ≤ k → IsExprAt f k span → place ≤ span.at

module _ (f : Arena) (held : HeldOps) (numbers : List ℕ) where
  pub none_put : (ends out : List ℕ) → ends ≡ [] → out ≡ [] → ExpressionsPut f held numbers 0 ends out
  none_put ends out no_ends no_bytes =
      let none : ExpressionsPut f held numbers 0 [] [] = record {
        within = omega arith;
        count = refl;
        last = refl;
        place = 0;
        inside = omega arith;
        most = omega arith;
        behind = λ k span lt is. omega arith;
        rising = λ k lt. absurd (omega arith);
        below = λ k lt. absurd (omega arith);
        few = λ k span lt is. absurd (omega arith);
        none = λ k lt is. absurd (omega arith);
        each = λ k span lt is. absurd (omega arith);
      } in
      subst (λ (z : List ℕ). ExpressionsPut f held numbers 0 z out) (sym no_ends) (subst (λ (z : List ℕ). ExpressionsPut f held numbers 0 [] z) (sym no_bytes) none)

  pub all_ends : (n : ℕ) (ends out : List ℕ) → length f.values ≤ n → ExpressionsPut f held numbers n ends out → AreEndsFor f ends
  all_ends n ends out all h =
      let same : length f.values ≡ n = let within : n ≤ length f.values = h.within in omega arith in
      let place : h.place ≤ length f.section = h.inside in
      let most : length out ≤ 3 * h.place = h.most in
      record {
        rise = record {
          each = h.count ∙ sym same;
          rising = λ k lt. h.rising k (omega arith);
          inside = λ k lt. let below : get_or ends k 0 ≤ length out = h.below k (omega arith) in omega arith;
        };
        few = λ k span is. h.few k span (let lt : k < length f.values = is.inside in omega arith) is;
        none = λ k lt other. h.none k (omega arith) other;
      }

module _ (f : Arena) (held : HeldOps) (numbers : List ℕ) (order : IsInOrder f) (n : ℕ) (ends out new : List ℕ) (lt : n < length f.values) (h : ExpressionsPut f held numbers n ends out) (p : PutsExpression f held numbers n out new) where
  long : length new ≡ length out + length p.made
  long = ap length p.behind ∙ length-append out p.made

  next_place : IsBehind f (n + 1) (length new)
  next_place =
      let size = long in
      let most : length out ≤ 3 * h.place = h.most in
      elim (expr_or_other f n lt) [
        | inl e ↦
            let s : Span = e.0 in
            let before : h.place ≤ s.at = h.behind n s (omega arith) e.1 in
            let few : length p.made ≤ 3 * s.len = p.few s e.1 in
            record {
              place = s.at + s.len;
              inside = span_inside f n s order e.1;
              most = omega (arith, size, most, before, few);
              behind = λ k span later is. span_before f n k s span order (omega arith) e.1 is;
            }
        | inr none ↦
            let empty : length p.made ≡ 0 = ap length (p.none none) in
            record { place = h.place; inside = h.inside; most = omega (arith, size, most, empty); behind = λ k span later is. h.behind k span (omega arith) is }
      ]

  -- so they are no more than three times the section's
  pub next_below : length new ≤ 3 * length f.section
  next_below =
      let b = next_place in
      let most : length new ≤ 3 * b.place = b.most in
      let inside : b.place ≤ length f.section = b.inside in
      omega arith

  -- what is true of the ends before and of the new one is true of all
  each_end : (Q : ℕ → ℕ → ℕ → Type 0) (e : ℕ) → ((k : ℕ) → k < n → Q k (begin_of ends k) (get_or ends k 0)) → Q n (begin_of ends n) e → (k : ℕ) → k < n + 1 → Q k (begin_of (ends ++ e ∷ []) k) (get_or (ends ++ e ∷ []) k 0)
  each_end Q e before own k less =
      let count : length ends ≡ n = h.count in
      let begin : begin_of (ends ++ e ∷ []) k ≡ begin_of ends k = begin_push ends e k (omega arith) in
      elim (cases_lt k n) [
        | inl earlier ↦
            let end : get_or (ends ++ e ∷ []) k 0 ≡ get_or ends k 0 = get_or_append_left ends (e ∷ []) 0 k (omega arith) in
            let first = subst (λ (z : ℕ). Q k z (get_or ends k 0)) (sym begin) (before k earlier) in
            subst (λ (z : ℕ). Q k (begin_of (ends ++ e ∷ []) k) z) (sym end) first
        | inr more ↦
            let same : k ≡ n = omega arith in
            let end : get_or (ends ++ e ∷ []) k 0 ≡ e = get_or_push ends e 0 k (omega arith) in
            let here = subst (λ (z : ℕ). Q z (begin_of ends z) e) (sym same) own in
            let first = subst (λ (z : ℕ). Q k z e) (sym begin) here in
            subst (λ (z : ℕ). Q k (begin_of (ends ++ e ∷ []) k) z) (sym end) first
      ]

  pub more_put : (others : List ℕ) (e : ℕ) → e ≡ length new → others ≡ ends ++ e ∷ [] → ExpressionsPut f held numbers (n + 1) others new
  more_put others e is pushed =
      let b = next_place in
      let size = long in
      let last : length out ≡ begin_of ends n = h.last in
      let kept : (k : ℕ) → k < n → take (get_or ends k 0 - begin_of ends k) (drop (begin_of ends k) new) ≡ made_of ends out k = λ k less. ap (λ (z : List ℕ). take (get_or ends k 0 - begin_of ends k) (drop (begin_of ends k) z)) p.behind ∙ made_more out p.made (begin_of ends k) (get_or ends k 0) (h.rising k less) (h.below k less) in
      let own : take (e - begin_of ends n) (drop (begin_of ends n) new) ≡ p.made = ap (λ (z : List ℕ). take (e - begin_of ends n) (drop (begin_of ends n) z)) p.behind ∙ made_last out p.made (begin_of ends n) e last (omega (arith, is, size, last)) in
      subst (λ (z : List ℕ). ExpressionsPut f held numbers (n + 1) z new) (sym pushed) (record {
        within = omega arith;
        count = length_push ends e ∙ ap (λ (z : ℕ). z + 1) h.count;
        last = sym (subst (λ (z : ℕ). get_or (0 ∷ (ends ++ e ∷ [])) z 0 ≡ length new) (sym (add-one n)) (get_or_push ends e 0 n h.count ∙ is));
        place = b.place;
        inside = b.inside;
        most = b.most;
        behind = b.behind;
        rising = each_end (λ k x y. x ≤ y) e h.rising (omega (arith, is, size, last));
        below = each_end (λ k x y. y ≤ length new) e (λ k less. let before : get_or ends k 0 ≤ length out = h.below k less in omega (arith, before, size)) (omega (arith, is));
        few = λ k span less at. each_end (λ i x y. (s : Span) → IsExprAt f i s → y ≤ x + 3 * s.len) e (λ i before s there. h.few i s before there) (λ s there. let few : length p.made ≤ 3 * s.len = p.few s there in omega (arith, few, is, size, last)) k less span at;
        none = λ k less no_expr. each_end (λ i x y. IsNone f i → y ≡ x) e h.none (λ other. let empty : length p.made ≡ 0 = ap length (p.none other) in omega (arith, empty, is, size, last)) k less no_expr;
        each = λ k span less at. each_end (λ i x y. (s : Span) → IsExprAt f i s → IsWrittenShortest (refs_of held numbers i) (bytes_in f.section s) (ops_of held i) (take (y - x) (drop x new))) e (λ i before s there. subst (λ (z : List ℕ). IsWrittenShortest (refs_of held numbers i) (bytes_in f.section s) (ops_of held i) z) (sym (kept i before)) (h.each i s before there)) (λ s there. subst (λ (z : List ℕ). IsWrittenShortest (refs_of held numbers n) (bytes_in f.section s) (ops_of held n) z) (sym own) (p.written s there)) k less span at;
      })

-- ONE VALUE

-- a value that was read as an expression
pub read_expr : (f g : Arena) (k : ℕ) (v : Value) (span : Span) → g ≡ f → v ≡ value_at g.values k → k < length f.values → v ≡ value.Expr span → IsExprAt f k span
read_expr f g k v span same read lt is = record { inside = lt; is = sym (read ∙ ap (λ (z : Arena). value_at z.values k) same) ∙ is }

same_span : (s t : Span) → value.Expr s ≡ value.Expr t → s ≡ t
same_span s t e = cc

-- there is one span
one_span : (f : Arena) (k : ℕ) (s t : Span) → IsExprAt f k s → IsExprAt f k t → s ≡ t
one_span f k s t a b = same_span s t (sym a.is ∙ b.is)

-- the bytes of its span, as they were lent, and its operations spell an expression
pub lent_expr : (f g : Arena) (held : HeldOps) (k : ℕ) (span : Span) (bytes : List ℕ) (ops : List Op) → HasOperations Narrow f held → IsExprAt f k span → g ≡ f → bytes ≡ bytes_in g.section span → ops ≡ ops_of held k → IsExpression Narrow (all_meant bytes ops) bytes
lent_expr f g held k span bytes ops has is same b o =
    let own : bytes ≡ bytes_in f.section span = b ∙ ap (λ (z : Arena). bytes_in z.section span) same in
    let first = subst (λ (z : List Op). IsExpression Narrow (all_meant (bytes_in f.section span) z) (bytes_in f.section span)) (sym o) (has.spelled k span is) in
    subst (λ (z : List ℕ). IsExpression Narrow (all_meant z ops) z) (sym own) first

pub expression_is_put : ShortestIsFew → (f g : Arena) (held : HeldOps) (numbers refs : List ℕ) (k : ℕ) (span : Span) (bytes : List ℕ) (ops : List Op) (old new : List ℕ) → IsInOrder f → IsExprAt f k span → IsExpression Narrow (all_meant bytes ops) bytes → All IsNarrow refs → g ≡ f → bytes ≡ bytes_in g.section span → ops ≡ ops_of held k → refs ≡ refs_of held numbers k → Adds (IsWrittenShortest refs bytes ops) old new → PutsExpression f held numbers k old new
expression_is_put few f g held numbers refs k span bytes ops old new order is spelled narrow same b o r (made, written, behind) =
    let own : bytes ≡ bytes_in f.section span = b ∙ ap (λ (z : Arena). bytes_in z.section span) same in
    let first = subst (λ (z : List ℕ). IsWrittenShortest z bytes ops made) r written in
    let second = subst (λ (z : List ℕ). IsWrittenShortest (refs_of held numbers k) z ops made) own first in
    let here = subst (λ (z : List Op). IsWrittenShortest (refs_of held numbers k) (bytes_in f.section span) z made) o second in
    let long : length made ≡ shortest_length refs (all_meant bytes ops) = written.long in
    let thrice : shortest_length refs (all_meant bytes ops) ≤ 3 * length bytes = few refs (all_meant bytes ops) bytes spelled narrow in
    let size : length bytes ≡ span.len = ap length own ∙ length_part span.at span.len f.section (span_inside f k span order is) in
    let most : length made ≤ 3 * span.len = omega (arith, long, thrice, size) in
    record {
      made = made;
      behind = behind;
      written = λ s at. subst (λ (t : Span). IsWrittenShortest (refs_of held numbers k) (bytes_in f.section t) (ops_of held k) made) (one_span f k span s is at) here;
      few = λ s at. subst (λ (t : Span). length made ≤ 3 * t.len) (one_span f k span s is at) most;
      none = λ none. absurd (none span is);
    }

pub none_is_put : (f g : Arena) (held : HeldOps) (numbers : List ℕ) (k : ℕ) (v : Value) (old : List ℕ) → g ≡ f → v ≡ value_at g.values k → ((span : Span) → v ≡ value.Expr span → ⊥) → PutsExpression f held numbers k old old
none_is_put f g held numbers k v old same read none =
    let no_expr : IsNone f k = λ span at. none span (read ∙ ap (λ (z : Arena). value_at z.values k) same ∙ at.is) in
    record {
      made = [];
      behind = sym (append-nil old);
      written = λ span at. absurd (no_expr span at);
      few = λ span at. absurd (no_expr span at);
      none = λ other. refl;
    }

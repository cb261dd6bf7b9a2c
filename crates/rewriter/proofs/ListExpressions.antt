-- The new bytes of the expressions of lists.
use Rattle.std.proofs.Common.{◌≡◌, ◌≤◌, ◌<◌, ◌+◌, ◌-◌, ◌*◌, ◌^◌, ◌++◌, ◌∙◌, ℕ, zero, suc, List, [], ◌∷◌, length, get_or, map, take, drop, cond, Bool, true, false, sym, ap, subst, refl, arith}
use Rattle.std.specs.Prelude.{filter}
use Rattle.std.specs.List.{All, AllZip}
use Rattle.std.proofs.lemmas.Bool.{true≢false}
use Rattle.std.proofs.lemmas.List.{length-append, length-take, length-drop, length_push, map-append, append-nil, get_or_append_left, get_or_push, take_more}
use Rattle.std.proofs.lemmas.List.Elements.{All-nil, All-cons, All-head, All-tail, All-from_get_or, AllZip-push, filter-append}
use Rattle.std.proofs.lemmas.List.Sums.{sum_by_more, sum_by-take-le}
use Rattle.dw_base.specs.declared.fault.Reach.TheVariants.{Narrow}
use Rattle.dw_base.specs.declared.fault.Span.{Span}
use Rattle.expr_ops.specs.declared.op.Op.{Op}
use Rattle.expr_ops.specs.Ops.{all_meant}
use Rattle.expr_ops.specs.Shortest.{IsWrittenShortest}
use Rattle.expr_ops.specs.Puts.{Adds}
use Rattle.expr_ops.proofs.NextRefs.{AreSmall}
use Rattle.expr_ops.proofs.Reaches.{narrow_wide}
use Rattle.list_model.specs.declared.contribution.Contribution.{Contribution}
use Rattle.list_model.specs.declared.entry.EntryKind.{EntryKind}
use Rattle.list_model.specs.declared.entry.EntryKind.TheVariants.{BaseAddressx, BaseAddress}
use Rattle.list_model.specs.declared.entry.RawEntry.{RawEntry}
use Rattle.list_model.specs.Contributions.{part_end, bytes_from}
use Rattle.list_model.specs.Entries.{Entry}
use Rattle.list_model.specs.Reading.{AreReadFrom}
use Rattle.loc_lists.specs.Locations.{IsExpressionSpan, IsRead, IsLocationList, is_item, items_among, bytes_in, expressions_of}
use Rattle.list_write.specs.declared.named.NewExpressions.{NewExpressions}
use Rattle.list_write.specs.Written.{pieces}
use Rattle.unit_write.specs.declared.places.Places.{Places}
use Rattle.value_links.specs.Reading.{Reading}
use Rattle.value_links.specs.ListFaults.{expression_bytes}
use Rattle.value_links.specs.World.{World, Holds}
use Rattle.rewriter.specs.inside.Numbers.{IsNewExpression}
use Rattle.rewriter.specs.inside.ListNumbers.{AreListReferences, IsReadAgain, LinksSomething, IsExpressionPut}
use Rattle.rewriter.proofs.MovedExpressions.{taken_small, shortest_thrice}
use Rattle.rewriter.proofs.NamedOperations.{operation_named}
use Rattle.rewriter.proofs.ListPieces.{EndAt, end_more, pieces_more}

-- ---- one expression

-- it is written from its operations, with their new references
pub put_expression : (world : World) (places : List Places) (u : ℕ) (bytes old new : List ℕ) (ops : List Op) (refs : List ℕ) → IsReadAgain bytes ops → AreListReferences world places u ops refs → Adds (IsWrittenShortest refs bytes ops) old new → IsExpressionPut world places u bytes old new
put_expression world places u bytes old new ops refs read are (made, written, behind) = record {
  made = made;
  behind = behind;
  few =
      let small : AreSmall refs = subst AreSmall (sym are.taken) (taken_small ops are.numbers (All-from_get_or (λ (n : ℕ). n < 2 ^ 32) are.numbers 0 are.fit)) in
      let thrice = shortest_thrice Narrow refs (all_meant bytes ops) bytes read.spelled small in
      omega (arith, thrice, written.long);
  is = λ file r holds linked. record {
    ops = ops;
    spelled = narrow_wide (all_meant bytes ops) bytes read.spelled;
    numbers = are.numbers;
    numbered = record {
      count = are.count;
      fit = All-from_get_or (λ (n : ℕ). n < 2 ^ 32) are.numbers 0 are.fit;
      each = λ k inside.
          let named = operation_named r.links u bytes ops (narrow_wide (all_meant bytes ops) bytes read.spelled) linked k inside in
          are.each k inside file r named.0 holds named.1;
    };
    written = subst (λ (z : List ℕ). IsWrittenShortest z bytes ops made) are.taken written;
  };
}

-- ---- all expressions of a list

-- the expressions of the items among some entries stand one after the other, written anew
pub record AreExpressionsPut (world : World) (places : List Places) (u : ℕ) (section : List ℕ) (raws : List RawEntry) (new : NewExpressions) : Type 0 where
  pub ends : EndAt 0 new.ends.items (length new.bytes.items)
  pub few : length new.bytes.items ≤ 3 * expression_bytes raws
  pub are : (file : List ℕ) (r : Reading) → Holds file world r → All (LinksSomething r.links u) (expressions_of section raws) → AllZip (IsNewExpression r.links places u) (expressions_of section raws) (pieces 0 new.ends.items new.bytes.items)

pub none_put : (world : World) (places : List Places) (u : ℕ) (section : List ℕ) (raws : List RawEntry) (new : NewExpressions) → new.bytes.items ≡ [] → new.ends.items ≡ [] → AreExpressionsPut world places u section (take 0 raws) new
none_put world places u section raws new bytes ends =
    let none : length new.bytes.items ≡ 0 = ap length bytes in
    record {
      ends = subst (λ (z : List ℕ). EndAt 0 z (length new.bytes.items)) (sym ends) (sym none);
      few = omega (arith, none);
      are = λ file r holds linked. subst (λ (z : List ℕ). AllZip (IsNewExpression r.links places u) [] (pieces 0 z new.bytes.items)) (sym ends) tt;
    }

pub expressions_more : (section : List ℕ) (raws : List RawEntry) (raw : RawEntry) → expressions_of section (raws ++ raw ∷ []) ≡ expressions_of section raws ++ cond (is_item raw) (bytes_in section raw.expr ∷ []) []
expressions_more section raws raw =
    ap (map (λ (x : RawEntry). bytes_in section x.expr)) (filter-append is_item raws (raw ∷ []))
    ∙ map-append (λ (x : RawEntry). bytes_in section x.expr) (filter is_item raws) (filter is_item (raw ∷ []))
    ∙ ap (λ (z : List (List ℕ)). expressions_of section raws ++ z) (by_test (is_item raw))
  where
    by_test : (b : Bool) → map (λ (x : RawEntry). bytes_in section x.expr) (cond b (raw ∷ []) []) ≡ cond b (bytes_in section raw.expr ∷ []) []
    by_test true = refl
    by_test false = refl

front_all : {X : Type 0} (P : X → Type 0) (xs : List X) (x : X) → All P (xs ++ x ∷ []) → All P xs
front_all P xs x all k d less = subst P (get_or_append_left xs (x ∷ []) d k less) (all k d (omega (arith, length_push xs x, less)))

last_all : {X : Type 0} (P : X → Type 0) (xs : List X) (x : X) → All P (xs ++ x ∷ []) → P x
last_all P xs x all = subst P (get_or_push xs x x (length xs) refl) (all (length xs) x (omega (arith, length_push xs x)))

module _ (world : World) (places : List Places) (u : ℕ) (section : List ℕ) (raws : List RawEntry) (n : ℕ) (d : RawEntry) (inside : n < length raws) (old new : NewExpressions) (put : AreExpressionsPut world places u section (take n raws) old) where
  next_raws : take (n + 1) raws ≡ take n raws ++ get_or raws n d ∷ []
  next_raws = take_more raws n d inside

  next_bytes : expression_bytes (take (n + 1) raws) ≡ expression_bytes (take n raws) + (get_or raws n d).expr.len
  next_bytes = sum_by_more (λ (raw : RawEntry). raw.expr.len) raws n d inside

  next_expressions : (b : Bool) → is_item (get_or raws n d) ≡ b → expressions_of section (take (n + 1) raws) ≡ expressions_of section (take n raws) ++ cond b (bytes_in section (get_or raws n d).expr ∷ []) []
  next_expressions b item =
      ap (expressions_of section) next_raws ∙ expressions_more section (take n raws) (get_or raws n d)
      ∙ ap (λ (z : Bool). expressions_of section (take n raws) ++ cond z (bytes_in section (get_or raws n d).expr ∷ []) []) item

  -- the next entry is no item
  pub put_none : is_item (get_or raws n d) ≡ false → AreExpressionsPut world places u section (take (n + 1) raws) old
  put_none none =
      let same : expressions_of section (take (n + 1) raws) ≡ expressions_of section (take n raws) = next_expressions false none ∙ append-nil (expressions_of section (take n raws)) in
      record {
        ends = put.ends;
        few = omega (arith, put.few, next_bytes);
        are = λ file r holds linked.
            subst (λ (z : List (List ℕ)). AllZip (IsNewExpression r.links places u) z (pieces 0 old.ends.items old.bytes.items)) (sym same)
            (put.are file r holds (subst (λ (z : List (List ℕ)). All (LinksSomething r.links u) z) same linked));
      }

  -- or it is one, whose expression is put
  pub put_more : is_item (get_or raws n d) ≡ true → IsExpressionPut world places u (bytes_in section (get_or raws n d).expr) old.bytes.items new.bytes.items → new.ends.items ≡ old.ends.items ++ length new.bytes.items ∷ [] → AreExpressionsPut world places u section (take (n + 1) raws) new
  put_more item is pushed =
      let bytes : List ℕ = bytes_in section (get_or raws n d).expr in
      let short : length bytes ≤ (get_or raws n d).expr.len = omega (arith, length-take (get_or raws n d).expr.len (drop (get_or raws n d).expr.at section)) in
      let size : length new.bytes.items ≡ length old.bytes.items + length is.made = ap length is.behind ∙ length-append old.bytes.items is.made in
      let same : expressions_of section (take (n + 1) raws) ≡ expressions_of section (take n raws) ++ bytes ∷ [] = next_expressions true item in
      let made : pieces 0 new.ends.items new.bytes.items ≡ pieces 0 old.ends.items old.bytes.items ++ is.made ∷ [] =
      ap (λ (z : List ℕ). pieces 0 z new.bytes.items) pushed ∙ ap (pieces 0 (old.ends.items ++ length new.bytes.items ∷ [])) is.behind
      ∙ pieces_more 0 old.ends.items old.bytes.items is.made (length new.bytes.items) put.ends size in
      record {
        ends = subst (λ (z : List ℕ). EndAt 0 z (length new.bytes.items)) (sym pushed) (end_more 0 old.ends.items (length old.bytes.items) (length new.bytes.items) put.ends (omega (arith, size)));
        few = omega (arith, put.few, next_bytes, size, is.few, short);
        are = λ file r holds linked.
            let all : All (LinksSomething r.links u) (expressions_of section (take n raws) ++ bytes ∷ []) = subst (λ (z : List (List ℕ)). All (LinksSomething r.links u) z) same linked in
            let front = put.are file r holds (front_all (LinksSomething r.links u) (expressions_of section (take n raws)) bytes all) in
            let last = is.is file r holds (last_all (LinksSomething r.links u) (expressions_of section (take n raws)) bytes all) in
            subst (λ (z : List (List ℕ)). AllZip (IsNewExpression r.links places u) z (pieces 0 new.ends.items new.bytes.items)) (sym same)
            (subst (λ (z : List (List ℕ)). AllZip (IsNewExpression r.links places u) (expressions_of section (take n raws) ++ bytes ∷ []) z) (sym made)
            (AllZip-push (IsNewExpression r.links places u) (expressions_of section (take n raws)) (pieces 0 old.ends.items old.bytes.items) bytes is.made front last));
      }

  -- the bytes so far fit 32 bits
  pub put_short : (out : List ℕ) → IsExpressionPut world places u (bytes_in section (get_or raws n d).expr) old.bytes.items out → expression_bytes raws ≤ 134217728 → length out < 2 ^ 32
  put_short out is few =
      let short = length-take (get_or raws n d).expr.len (drop (get_or raws n d).expr.at section) in
      let size : length out ≡ length old.bytes.items + length is.made = ap length is.behind ∙ length-append old.bytes.items is.made in
      omega (arith, put.few, next_bytes, size, is.few, short, few, sum_by-take-le (λ (raw : RawEntry). raw.expr.len) raws (n + 1))

-- ---- where expressions lie

span_inside : (kind : EntryKind) (span : Span) (expression : List ℕ) (end : ℕ) → IsExpressionSpan kind span expression end → span.at + span.len ≤ end
span_inside BaseAddressx span expression end is = omega (arith, ap (λ (z : Span). z.at) is, ap (λ (z : Span). z.len) is)
span_inside BaseAddress span expression end is = omega (arith, ap (λ (z : Span). z.at) is, ap (λ (z : Span). z.len) is)
span_inside _ span expression end is = omega (arith, is.1)

abbrev pub LiesIn : ℕ → RawEntry → Type 0
LiesIn most raw = raw.expr.at + raw.expr.len ≤ most

entries_inside : (most at : ℕ) (raws : List RawEntry) (locations : List (Entry × List ℕ)) (bytes : List ℕ) → AreReadFrom IsRead at raws locations bytes → at + length bytes ≤ most → All (LiesIn most) raws
entries_inside most at [] [] bytes read within = All-nil (LiesIn most)
entries_inside most at [] (l ∷ ls) bytes read within = absurd read
entries_inside most at (r ∷ raws) [] bytes read within = absurd read
entries_inside most at (r ∷ raws) (l ∷ ls) bytes (first, rest, here, more, whole) within =
    let size : length bytes ≡ length first + length rest = ap length whole ∙ length-append first rest in
    All-cons (LiesIn most) r raws
    (omega (arith, span_inside l.0.kind r.expr l.1 (at + length first) here.expression, size, within))
    (entries_inside most (at + length first) raws ls rest more (omega (arith, size, within)))

-- the expressions of a list that is read lie in its section
pub list_inside : (section : List ℕ) (part : Contribution) (at : ℕ) (raws : List RawEntry) → IsLocationList section part at raws → All (LiesIn (length section)) raws
list_inside section part at raws list =
    let size : length (bytes_from section part at) ≡ length list.front + length (list.end ++ list.rest) = ap length list.whole ∙ length-append list.front (list.end ++ list.rest) in
    let behind : length (list.end ++ list.rest) ≡ 1 + length list.rest = length-append list.end list.rest ∙ ap (λ (z : List ℕ). length z + length list.rest) list.ended in
    let short : length (bytes_from section part at) ≤ length section - at = omega (arith, length-take (part_end part - at) (drop at section), length-drop at section) in
    entries_inside (length section) at raws list.entries list.front list.read (omega (arith, size, behind, short))

-- ---- an expression among all

item_among : (P : List ℕ → Type 0) (b : Bool) (section : List ℕ) (raw : RawEntry) (items : List RawEntry) → All P (map (λ (z : RawEntry). bytes_in section z.expr) (cond b (raw ∷ items) items)) → ((b ≡ true → P (bytes_in section raw.expr)) × All P (map (λ (z : RawEntry). bytes_in section z.expr) items))
item_among P true section raw items all =
    (λ e. All-head P (bytes_in section raw.expr) (map (λ (z : RawEntry). bytes_in section z.expr) items) all, All-tail P (bytes_in section raw.expr) (map (λ (z : RawEntry). bytes_in section z.expr) items) all)
item_among P false section raw items all = (λ e. absurd (true≢false (sym e)), all)

pub expression_among : (P : List ℕ → Type 0) (section : List ℕ) (raws : List RawEntry) (n : ℕ) (d : RawEntry) → All P (expressions_of section raws) → n < length raws → is_item (get_or raws n d) ≡ true → P (bytes_in section (get_or raws n d).expr)
expression_among P section [] n d all less item = absurd (omega arith)
expression_among P section (raw ∷ raws) zero d all less item = (item_among P (is_item raw) section raw (items_among raws) all).0 item
expression_among P section (raw ∷ raws) (suc n) d all less item = expression_among P section raws n d (item_among P (is_item raw) section raw (items_among raws) all).1 (omega arith) item

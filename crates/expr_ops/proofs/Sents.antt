-- Where branches go.
use Rattle.std.proofs.Common.{◌≡◌, ◌≢◌, ◌≤◌, ◌<◌, ◌+◌, ◌-◌, ◌^◌, ℕ, zero, suc, List, [], ◌∷◌, ◌++◌, length, get_or, take, drop, ◌∙◌, sym, ap, refl, subst, arith, rules, inl, inr, false}
use Rattle.std.proofs.lemmas.List.{append_assoc, length-append, length-map, map-append, take-append-drop, take_all, length-take-le, drop_more, get_or-set_same, get_or-set_other, length-set}
use Rattle.std.proofs.lemmas.Bool.{cases_lt}
use Rattle.std.specs.Prelude.{IsTrue, pos, ◌+ℤ◌, slice_set}
use Rattle.spelled.specs.Spelled.{Joined}
use Rattle.spelled.proofs.Joins.{places_rise}
use Rattle.dw_base.specs.declared.fault.Fault.{Fault}
use Rattle.dw_base.specs.declared.fault.Kind.TheVariants as kind
use Rattle.expr_ops.specs.declared.op.Op.{Op}
use Rattle.expr_ops.specs.declared.start.Start.{Start}
use Rattle.expr_ops.specs.Heads.{Head}
use Rattle.expr_ops.specs.Expressions.{Operation, Segment, IsBranch, EndsAt, Arrives, IsJump, SpellsSegment, operation_of, flat, count_of, head_at}
use Rattle.expr_ops.specs.Ops.{meant, all_meant}
use Rattle.expr_ops.specs.inside.Levels.{with_jump, IsLevelRead, IsFront, IsStart, HasLevelFault, HasNoTarget, IsTarget, start_at, none_sent}
use Rattle.expr_ops.proofs.Levels.{segment_once, segment_filled, ends_once}

-- RISING PLACES

take_parts : (i n : ℕ) (gs : List Segment) → take (i + n) gs ≡ take i gs ++ take n (drop i gs)
take_parts zero n gs = let e : 0 + n ≡ n = omega arith in ap (λ k. take k gs) e
take_parts (suc i) n [] =
    let e : take n [] ≡ [] = take_all n [] (omega arith) in
    let f : take (suc i + n) [] ≡ [] = take_all (suc i + n) [] (omega arith) in
    f ∙ sym e
take_parts (suc i) n (g ∷ gs) =
    let e : suc i + n ≡ suc (i + n) = omega arith in
    ap (λ k. take k (g ∷ gs)) e ∙ ap (λ z. g ∷ z) (take_parts i n gs)

nothing : Segment
nothing = record { head = record { code = 0; a = 0; s = pos 0; block = [] }; inner = [] }

pub starts_rise : (most deep : ℕ) (bytes : List ℕ) (gs : List Segment) (i j p q : ℕ) → EndsAt (SpellsSegment most deep) gs bytes i p → EndsAt (SpellsSegment most deep) gs bytes j q → i < j → p < q
starts_rise most deep bytes gs i j p q a b lt =
    let S = SpellsSegment most deep in
    let few : j ≤ length gs = b.0 in
    let n = j - (i + 1) in
    let e : j ≡ i + suc n = omega arith in
    let d : drop i gs ≡ get_or gs i nothing ∷ drop (i + 1) gs = drop_more gs i nothing (omega arith) in
    let parts : take j gs ≡ take i gs ++ (get_or gs i nothing ∷ take n (drop (i + 1) gs)) = ap (λ k. take k gs) e ∙ take_parts i (suc n) gs ∙ ap (λ z. take i gs ++ take (suc n) z) d in
    let h : take p bytes ++ drop p bytes ≡ take q bytes ++ drop q bytes = take-append-drop p bytes ∙ sym (take-append-drop q bytes) in
    let r = places_rise S (segment_once most deep) (segment_filled most deep) (take i gs) (get_or gs i nothing) (take n (drop (i + 1) gs)) (take p bytes) (take q bytes) (drop p bytes) (drop q bytes) a.2 (subst (λ (z : List Segment). Joined S z (take q bytes)) parts b.2) h in
    omega (arith, r, length-take-le p bytes a.1, length-take-le q bytes b.1)

pub rows_rise : (most deep : ℕ) (bytes : List ℕ) (gs : List Segment) (starts : List Start) → length starts ≡ length gs → ((k : ℕ) → k < length gs → IsStart (SpellsSegment most deep) bytes gs k (start_at starts k)) → (i j : ℕ) → i < j → j < length starts → (start_at starts i).at < (start_at starts j).at
rows_rise most deep bytes gs starts each rows i j lt inside =
    starts_rise most deep bytes gs i j (start_at starts i).at (start_at starts j).at (rows i (omega arith)).from (rows j (omega arith)).from lt

-- ONE OPERATION OF MANY

pub record Split (jumps : List ℕ) (gs : List Segment) (k : ℕ) : Type 0 where
  pub before : List Operation
  pub behind : List Operation
  pub inner : ℕ
  pub now : flat jumps gs ≡ before ++ operation_of (head_at gs k) (get_or jumps k 0) inner ∷ behind
  pub then : (j : ℕ) → flat (slice_set jumps k j) gs ≡ before ++ operation_of (head_at gs k) j inner ∷ behind
  pub size : length before ≡ count_of (take k gs)

pub split : (jumps : List ℕ) (gs : List Segment) (k : ℕ) → length jumps ≡ length gs → k < length gs → Split jumps gs k
split [] [] k e lt = absurd (omega arith)
split [] (g ∷ gs) k e lt = absurd (omega arith)
split (x ∷ jumps) [] k e lt = absurd (omega arith)
split (x ∷ jumps) (g ∷ gs) zero e lt = record {
  before = [];
  behind = g.inner ++ flat jumps gs;
  inner = length g.inner;
  now = refl;
  then = λ j. refl;
  size = refl;
}
split (x ∷ jumps) (g ∷ gs) (suc k) e lt =
    let s = split jumps gs k (omega arith) (omega arith) in
    let first = operation_of g.head x (length g.inner) in
    record {
      before = first ∷ (g.inner ++ s.before);
      behind = s.behind;
      inner = s.inner;
      now = ap (λ z. first ∷ (g.inner ++ z)) s.now ∙ ap (λ z. first ∷ z) (sym (append_assoc g.inner s.before _));
      then = λ j. ap (λ z. first ∷ (g.inner ++ z)) (s.then j) ∙ ap (λ z. first ∷ z) (sym (append_assoc g.inner s.before _));
      size = let a : length (g.inner ++ s.before) ≡ length g.inner + length s.before = length-append g.inner s.before in omega (arith, s.size);
    }

pub record Parted (outer : List ℕ) (more : List Op) (before : List Operation) (o : Operation) (behind : List Operation) : Type 0 where
  pub first : List Op
  pub op : Op
  pub rest : List Op
  pub items : more ≡ first ++ op ∷ rest
  pub means_first : all_meant outer first ≡ before
  pub means : meant outer op ≡ o
  pub means_rest : all_meant outer rest ≡ behind

abbrev head_of : Operation → List Operation → Operation
head_of d [] = d
head_of d (x ∷ xs) = x

abbrev tail_of : List Operation → List Operation
tail_of [] = []
tail_of (x ∷ xs) = xs

pub part : (outer : List ℕ) (more : List Op) (before : List Operation) (o : Operation) (behind : List Operation) → all_meant outer more ≡ before ++ o ∷ behind → Parted outer more before o behind
part outer [] [] o behind e = let n : 0 ≡ length (o ∷ behind) = ap (λ z. length z) e in absurd (omega arith)
part outer [] (b ∷ before) o behind e = let n : 0 ≡ length (b ∷ (before ++ o ∷ behind)) = ap (λ z. length z) e in absurd (omega arith)
part outer (x ∷ more) [] o behind e = record {
  first = [];
  op = x;
  rest = more;
  items = refl;
  means_first = refl;
  means = ap (head_of o) e;
  means_rest = ap tail_of e;
}
part outer (x ∷ more) (b ∷ before) o behind e =
    let p = part outer more before o behind (ap tail_of e) in
    record {
      first = x ∷ p.first;
      op = p.op;
      rest = p.rest;
      items = ap (λ z. x ∷ z) p.items;
      means_first = ap (λ z. meant outer x ∷ z) p.means_first ∙ ap (λ z. z ∷ before) (ap (head_of o) e);
      means = p.means;
      means_rest = p.means_rest;
    }

not_true : IsTrue false → ⊥
not_true t = search (rules, t)

-- SENT

pub record IsSent (outer : List ℕ) (most deep : ℕ) (bytes : List ℕ) (old new : List Op) (starts : List Start) (k : ℕ) : Type 0 where
  pub segments : List Segment
  pub more : List Op
  pub jumps : List ℕ
  pub items : new ≡ old ++ more
  pub spelled : Joined (SpellsSegment most deep) segments bytes
  pub long : length jumps ≡ length segments
  pub means : all_meant outer more ≡ flat jumps segments
  pub sent : (i : ℕ) → i < k → i < length segments → IsJump (SpellsSegment most deep) segments bytes i (get_or jumps i 0)
  pub waiting : (i : ℕ) → k ≤ i → i < length segments → get_or jumps i 0 ≡ 0
  pub each : length starts ≡ length segments
  pub rows : (i : ℕ) → i < length segments → IsStart (SpellsSegment most deep) bytes segments i (start_at starts i)

pub none_long : (gs : List Segment) → length (none_sent gs) ≡ length gs
none_long [] = refl
none_long (g ∷ gs) = let e = none_long gs in omega arith

pub none_there : (gs : List Segment) (i : ℕ) → i < length gs → get_or (none_sent gs) i 0 ≡ 0
none_there [] i lt = absurd (omega arith)
none_there (g ∷ gs) zero lt = refl
none_there (g ∷ gs) (suc i) lt = none_there gs i (omega arith)

pub sent_none : (outer : List ℕ) (most deep : ℕ) (bytes : List ℕ) (old new : List Op) (starts : List Start) → IsFront outer most deep bytes old new starts (length bytes) → IsSent outer most deep bytes old new starts 0
sent_none outer most deep bytes old new starts f = record {
  segments = f.segments;
  more = f.more;
  jumps = none_sent f.segments;
  items = f.items;
  spelled = subst (λ (z : List ℕ). Joined (SpellsSegment most deep) f.segments z) (take_all (length bytes) bytes (omega arith)) f.spelled;
  long = none_long f.segments;
  means = f.means;
  sent = λ i lt _. absurd (omega arith);
  waiting = λ i _ lt. none_there f.segments i lt;
  each = f.each;
  rows = f.rows;
}

-- an operation that is no branch
pub sent_past : (outer : List ℕ) (most deep : ℕ) (bytes : List ℕ) (old new : List Op) (starts : List Start) (k : ℕ) → k < length starts → (start_at starts k).is_branch ≡ false → IsSent outer most deep bytes old new starts k → IsSent outer most deep bytes old new starts (k + 1)
sent_past outer most deep bytes old new starts k lt isnt s =
    let each = s.each in
    let row = s.rows k (omega arith) in
    let here : IsJump (SpellsSegment most deep) s.segments bytes k (get_or s.jumps k 0) = inr (λ b. absurd (not_true (subst (λ z. IsTrue z) isnt (row.branch.1 b))), s.waiting k (omega arith) (omega arith)) in
    record {
      segments = s.segments;
      more = s.more;
      jumps = s.jumps;
      items = s.items;
      spelled = s.spelled;
      long = s.long;
      means = s.means;
      sent = λ i less inside. elim (cases_lt i k) [
        | inl before ↦ s.sent i before inside
        | inr at ↦ let same : k ≡ i = omega arith in subst (λ (z : ℕ). IsJump (SpellsSegment most deep) s.segments bytes z (get_or s.jumps z 0)) same here
      ];
      waiting = λ i from inside. s.waiting i (omega arith) inside;
      each = s.each;
      rows = s.rows;
    }

arrives : (most deep : ℕ) (bytes : List ℕ) (gs : List Segment) (starts : List Start) (k count jump : ℕ) → Joined (SpellsSegment most deep) gs bytes → length starts ≡ length gs → ((i : ℕ) → i < length gs → IsStart (SpellsSegment most deep) bytes gs i (start_at starts i)) → k < length gs → count ≡ count_of gs → IsTarget starts (length bytes) count (start_at starts k) jump → (m : ℕ) × Arrives (SpellsSegment most deep) gs bytes k m × (jump ≡ count_of (take m gs))
arrives most deep bytes gs starts k count jump joined each rows lt all t =
    let S = SpellsSegment most deep in
    let row = rows k lt in
    let there : pos t.place ≡ pos (start_at starts k).end +ℤ (head_at gs k).s = t.there ∙ ap (λ z. pos (start_at starts k).end +ℤ z) row.distance in
    elim t.which [
      | inl (end, e) ↦ (
        length gs,
        record {
          from = (start_at starts k).end;
          to = t.place;
          behind = row.behind;
          there = subst (λ (z : ℕ). EndsAt S gs bytes (length gs) z) (sym end) (omega arith, omega arith, subst (λ (z : List Segment). Joined S z (take (length bytes) bytes)) (sym (take_all (length gs) gs (omega arith))) (subst (λ (z : List ℕ). Joined S gs z) (sym (take_all (length bytes) bytes (omega arith))) joined));
          distance = there;
        },
        e ∙ all ∙ ap count_of (sym (take_all (length gs) gs (omega arith))),
      )
      | inr (m, inside, at, e) ↦
          let other = rows m (omega arith) in (
            m,
            record {
              from = (start_at starts k).end;
              to = t.place;
              behind = row.behind;
              there = subst (λ (z : ℕ). EndsAt S gs bytes m z) at other.from;
              distance = there;
            },
            e ∙ other.number,
          )
    ]

pub where_to : (outer : List ℕ) (most deep : ℕ) (bytes : List ℕ) (old new : List Op) (starts : List Start) (k : ℕ) (s : IsSent outer most deep bytes old new starts k) → k < length starts → (x : Split s.jumps s.segments k) × Parted outer s.more x.before (operation_of (head_at s.segments k) (get_or s.jumps k 0) x.inner) x.behind
where_to outer most deep bytes old new starts k s lt =
    let each = s.each in
    let x = split s.jumps s.segments k s.long (omega arith) in
    (x, part outer s.more x.before _ x.behind (s.means ∙ x.now))

sent_means : (outer : List ℕ) (op : Op) (head : Head) (i j n : ℕ) → meant outer op ≡ operation_of head i n → meant outer (with_jump op j) ≡ operation_of head j n
sent_means outer op head i j n m = ap (λ (z : Operation). record { code = z.code; a = z.a; s = z.s; block = z.block; jump = j; inner = z.inner }) m

pub flat_count : (jumps : List ℕ) (gs : List Segment) → length jumps ≡ length gs → length (flat jumps gs) ≡ count_of gs
flat_count [] [] e = refl
flat_count [] (g ∷ gs) e = absurd (omega arith)
flat_count (x ∷ jumps) [] e = absurd (omega arith)
flat_count (x ∷ jumps) (g ∷ gs) e =
    let a : length (g.inner ++ flat jumps gs) ≡ length g.inner + length (flat jumps gs) = length-append g.inner (flat jumps gs) in
    let f = flat_count jumps gs (omega arith) in
    omega arith

pub sent_count : (outer : List ℕ) (most deep : ℕ) (bytes : List ℕ) (old new : List Op) (starts : List Start) (k : ℕ) (s : IsSent outer most deep bytes old new starts k) → length new ≡ length old + count_of s.segments
sent_count outer most deep bytes old new starts k s =
    let a : length new ≡ length old + length s.more = ap (λ z. length z) s.items ∙ length-append old s.more in
    let b : length s.more ≡ count_of s.segments = sym (length-map s.more (meant outer)) ∙ ap (λ z. length z) s.means ∙ flat_count s.jumps s.segments s.long in
    omega arith

-- a branch
module _ (outer : List ℕ) (most deep : ℕ) (bytes : List ℕ) (old new last : List Op) (starts : List Start) (k first count jump : ℕ) (lt : k < length starts) (s : IsSent outer most deep bytes old new starts k) where
  pub sent_on : length old ≡ first → count ≡ length new - first → IsTrue (start_at starts k).is_branch → IsTarget starts (length bytes) count (start_at starts k) jump → ((before behind : List Op) (op : Op) → new ≡ before ++ op ∷ behind → length before ≡ first + (start_at starts k).number → last ≡ before ++ with_jump op jump ∷ behind) → IsSent outer most deep bytes old last starts (k + 1)
  sent_on size all does t f =
      let each = s.each in
      let inside : k < length s.segments = omega arith in
      let row = s.rows k inside in
      let (x, p) = where_to outer most deep bytes old new starts k s lt in
      let total = sent_count outer most deep bytes old new starts k s in
      let long : length s.jumps ≡ length s.segments = s.long in
      let items : new ≡ (old ++ p.first) ++ p.op ∷ p.rest = s.items ∙ ap (λ z. old ++ z) p.items ∙ sym (append_assoc old p.first (p.op ∷ p.rest)) in
      let before : length (old ++ p.first) ≡ first + (start_at starts k).number =
      let a : length (old ++ p.first) ≡ length old + length p.first = length-append old p.first in
      let b : length p.first ≡ count_of (take k s.segments) = sym (length-map p.first (meant outer)) ∙ ap (λ z. length z) p.means_first ∙ x.size in
      omega (arith, row.number)
      in
      let made = f (old ++ p.first) p.rest p.op items before in
      let goes = arrives most deep bytes s.segments starts k count jump s.spelled s.each s.rows inside (omega arith) t in
      let here : IsJump (SpellsSegment most deep) s.segments bytes k jump = inl (row.branch.0 does, goes) in
      record {
        segments = s.segments;
        more = p.first ++ with_jump p.op jump ∷ p.rest;
        jumps = slice_set s.jumps k jump;
        items = made ∙ append_assoc old p.first (with_jump p.op jump ∷ p.rest);
        spelled = s.spelled;
        long = length-set s.jumps k jump ∙ s.long;
        means = map-append (meant outer) p.first (with_jump p.op jump ∷ p.rest) ∙ ap (λ z. z ++ all_meant outer (with_jump p.op jump ∷ p.rest)) p.means_first ∙ ap (λ z. x.before ++ z ∷ all_meant outer p.rest) (sent_means outer p.op (head_at s.segments k) _ jump x.inner p.means) ∙ ap (λ z. x.before ++ operation_of (head_at s.segments k) jump x.inner ∷ z) p.means_rest ∙ sym (x.then jump);
        sent = λ i less there. elim (cases_lt i k) [
          | inl early ↦ subst (λ (z : ℕ). IsJump (SpellsSegment most deep) s.segments bytes i z) (sym (get_or-set_other s.jumps k i jump 0 (let e : i ≢ k = omega arith in e))) (s.sent i early there)
          | inr at ↦
              let same : k ≡ i = omega arith in
              subst (λ (z : ℕ). IsJump (SpellsSegment most deep) s.segments bytes z (get_or (slice_set s.jumps k jump) z 0)) same (subst (λ (z : ℕ). IsJump (SpellsSegment most deep) s.segments bytes k z) (sym (get_or-set_same s.jumps k jump 0 (omega arith))) here)
        ];
        waiting = λ i from there. get_or-set_other s.jumps k i jump 0 (let e : i ≢ k = omega arith in e) ∙ s.waiting i (omega arith) there;
        each = s.each;
        rows = s.rows;
      }

-- ALL

pub all_sent : (outer : List ℕ) (most deep : ℕ) (bytes : List ℕ) (old new : List Op) (starts : List Start) (k : ℕ) → k ≡ length starts → length bytes ≤ most → IsSent outer most deep bytes old new starts k → IsLevelRead outer most deep bytes old new
all_sent outer most deep bytes old new starts k whole few s =
    let each = s.each in
    record {
      more = s.more;
      items = s.items;
      level = record {
        segments = s.segments;
        jumps = s.jumps;
        spelled = s.spelled;
        each = s.long;
        listed = s.means;
        jumping = λ i lt. s.sent i (omega arith) lt;
        few = λ _. few;
      };
    }

-- there is no branch
pub none_sent_read : (outer : List ℕ) (most deep : ℕ) (bytes : List ℕ) (old new : List Op) (starts : List Start) → ((k : ℕ) → k < length starts → (start_at starts k).is_branch ≡ false) → IsFront outer most deep bytes old new starts (length bytes) → IsLevelRead outer most deep bytes old new
none_sent_read outer most deep bytes old new starts isnt f =
    let s = sent_none outer most deep bytes old new starts f in
    let each = s.each in
    let not : (i : ℕ) → i < length s.segments → IsBranch (head_at s.segments i).code → ⊥ = λ i lt b. not_true (subst (λ z. IsTrue z) (isnt i (omega arith)) ((s.rows i lt).branch.1 b)) in
    record {
      more = s.more;
      items = s.items;
      level = record {
        segments = s.segments;
        jumps = s.jumps;
        spelled = s.spelled;
        each = s.long;
        listed = s.means;
        jumping = λ i lt. inr (not i lt, s.waiting i (omega arith) lt);
        few = λ b. absurd (not b.0 b.1 b.2);
      };
    }

pub long_fault : (outer : List ℕ) (most deep : ℕ) (bytes : List ℕ) (old new : List Op) (starts : List Start) (k : ℕ) (f : Fault) → k < length starts → IsTrue (start_at starts k).is_branch → most < length bytes → IsFront outer most deep bytes old new starts (length bytes) → f.kind ≡ kind.Limit → f.place ≡ 0 → HasLevelFault most deep bytes f
long_fault outer most deep bytes old new starts k f lt does long front e p =
    let s = sent_none outer most deep bytes old new starts front in
    let each = s.each in
    inr (inr (e, p, record { segments = s.segments; spelled = s.spelled; branch = (k, omega arith, (s.rows k (omega arith)).branch.0 does); long = long }))

pub astray_fault : (outer : List ℕ) (most deep : ℕ) (bytes : List ℕ) (old new : List Op) (starts : List Start) (k : ℕ) (f : Fault) → k < length starts → IsTrue (start_at starts k).is_branch → HasNoTarget starts (length bytes) (start_at starts k) → IsFront outer most deep bytes old new starts (length bytes) → f.kind ≡ kind.Branch → f.place ≡ (start_at starts k).at → HasLevelFault most deep bytes f
astray_fault outer most deep bytes old new starts k f lt does none front e p =
    let S = SpellsSegment most deep in
    let s = sent_none outer most deep bytes old new starts front in
    let each = s.each in
    let inside : k < length s.segments = omega arith in
    let row = s.rows k inside in
    let astray : (m : ℕ) → Arrives S s.segments bytes k m → ⊥ = λ m a.
    let from : a.from ≡ (start_at starts k).end = ends_once most S (segment_once most deep) (segment_filled most deep) s.segments bytes (k + 1) a.from (start_at starts k).end a.behind row.behind in
    let to : pos a.to ≡ pos (start_at starts k).end +ℤ (start_at starts k).distance = a.distance ∙ ap (λ z. pos z +ℤ (head_at s.segments k).s) from ∙ ap (λ z. pos (start_at starts k).end +ℤ z) (sym row.distance) in
    let isnt = none a.to to in
    elim (cases_lt m (length s.segments)) [
      | inl less ↦ isnt.1 m (omega arith) (ends_once most S (segment_once most deep) (segment_filled most deep) s.segments bytes m (start_at starts m).at a.to (s.rows m less).from a.there)
      | inr most_of ↦
          let few : m ≤ length s.segments = a.there.0 in
          let same : m ≡ length s.segments = omega arith in
          let whole : EndsAt S s.segments bytes (length s.segments) (length bytes) = (omega arith, omega arith, subst (λ (z : List Segment). Joined S z (take (length bytes) bytes)) (sym (take_all (length s.segments) s.segments (omega arith))) (subst (λ (z : List ℕ). Joined S s.segments z) (sym (take_all (length bytes) bytes (omega arith))) s.spelled)) in
          isnt.0 (ends_once most S (segment_once most deep) (segment_filled most deep) s.segments bytes (length s.segments) a.to (length bytes) (subst (λ (z : ℕ). EndsAt S s.segments bytes z a.to) same a.there) whole)
    ]
    in
    inr (inl (
      e,
      record {
        segments = s.segments;
        spelled = s.spelled;
        k = k;
        inside = inside;
        branch = row.branch.0 does;
        here = subst (λ (z : ℕ). EndsAt S s.segments bytes k z) (sym p) row.from;
        astray = astray;
      },
    ))

pub rows_inside : (most deep : ℕ) (bytes : List ℕ) (gs : List Segment) (starts : List Start) → length starts ≡ length gs → ((k : ℕ) → k < length gs → IsStart (SpellsSegment most deep) bytes gs k (start_at starts k)) → (i : ℕ) → i < length starts → (start_at starts i).at ≤ length bytes
rows_inside most deep bytes gs starts each rows i lt = (rows i (omega arith)).from.1

pub sent_inside : (outer : List ℕ) (most deep : ℕ) (bytes : List ℕ) (old new : List Op) (starts : List Start) (k : ℕ) (s : IsSent outer most deep bytes old new starts k) → (i : ℕ) → i < length starts → length old + (start_at starts i).number < length new
sent_inside outer most deep bytes old new starts k s i lt =
    let each = s.each in
    let inside : i < length s.segments = omega arith in
    let row = s.rows i inside in
    let x = split s.jumps s.segments i s.long inside in
    let p = part outer s.more x.before _ x.behind (s.means ∙ x.now) in
    let a : length new ≡ length old + length s.more = ap (λ z. length z) s.items ∙ length-append old s.more in
    let b : length p.first ≡ count_of (take i s.segments) = sym (length-map p.first (meant outer)) ∙ ap (λ z. length z) p.means_first ∙ x.size in
    let d : length s.more ≡ length p.first + length (p.op ∷ p.rest) = ap (λ z. length z) p.items ∙ length-append p.first (p.op ∷ p.rest) in
    omega (arith, row.number)

pub jump_few : (outer : List ℕ) (most deep : ℕ) (bytes : List ℕ) (old new : List Op) (starts : List Start) (k : ℕ) (s : IsSent outer most deep bytes old new starts k) (len count jump : ℕ) (branch : Start) → length new < 2 ^ 32 → count ≤ length new → IsTarget starts len count branch jump → jump < 2 ^ 32
jump_few outer most deep bytes old new starts k s len count jump branch few all t = elim t.which [
  | inl (e, f) ↦ omega arith
  | inr (m, inside, at, f) ↦ let n = sent_inside outer most deep bytes old new starts k s m inside in omega (arith, n, f)
]

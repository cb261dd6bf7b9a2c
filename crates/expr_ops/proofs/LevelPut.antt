-- What is written of the operations of a level spells a level again: of each expression that an entry_value holds, and so of the whole.
use Rattle.std.proofs.Common.{◌≡◌, ◌≢◌, ◌<◌, ◌≤◌, ◌+◌, ◌-◌, ◌^◌, ℕ, zero, suc, List, [], ◌∷◌, ◌++◌, length, get_or, take, drop, ◌∙◌, sym, ap, refl, subst, arith, inl, inr, Option}
use Rattle.std.proofs.lemmas.Bool.{ne_eqb, cases_lt}
use Rattle.std.proofs.lemmas.Int.{ints}
use Rattle.std.proofs.lemmas.List.{append-nil, length-append, take_at, drop_at}
use Rattle.std.proofs.lemmas.Bool.Decides.{eqb_tells}
use Rattle.std.specs.Prelude.{ℤ, pos, ◌+ℤ◌}
use Rattle.spelled.specs.Spelled.{AreBytes, Joined}
use Rattle.spelled.proofs.Parts.{bytes_append, take_sum}
use Rattle.expr_ops.specs.declared.op.Op.{Op}
use Rattle.expr_ops.specs.declared.table.Shape.TheVariants as shape
use Rattle.expr_ops.specs.declared.table.Operands.{Operands}
use Rattle.expr_ops.specs.declared.table.Operands.TheVariants as operands
use Rattle.expr_ops.specs.Table.{operands_of}
use Rattle.expr_ops.specs.Heads.{Head, SpellsHead, SpellsOperands, holding}
use Rattle.expr_ops.specs.Expressions.{Operation, Segment, IsBranch, IsEntryValue, IsLevel, IsJump, EndsAt, SpellsSegment, flat, count_of, head_at, operation_of, plain_code, kept_sign, kept_block}
use Rattle.expr_ops.specs.Puts.{PutsNumber, PutsOwn}
use Rattle.expr_ops.specs.Drafts.{op_at, with_a, has_reference}
use Rattle.expr_ops.specs.Writing.{IsRange}
use Rattle.expr_ops.proofs.HeadLaws.{some_same}
use Rattle.expr_ops.proofs.PutSpells.{entry_spelled}
use Rattle.expr_ops.proofs.HeadsKept.{read_as}
use Rattle.expr_ops.proofs.HeadsWritten.{with_s, IsRewritten, head_rewritten, operation_as}
use Rattle.expr_ops.proofs.Nested.{Nests, nests_one, segment_nests, EndsBefore, first_there}
use Rattle.expr_ops.proofs.Laid.{place_of, IsOwn, IsItem, Laid, laid_split, laid_long, laid_count, laid_inside, laid_inner}

-- NEW SEGMENTS

-- A segment that is written begins at operation k and ends where the operations behind it begin. As a branch it goes to the place of
-- an operation, counted from the first one of the level.
record IsPutSegment (most : ℕ) (places : List ℕ) (deep base count k jump : ℕ) (h : Segment) (own : List ℕ) : Type 0 where
  spelled : SpellsSegment most deep h own
  size : place_of places k + length own ≡ place_of places (k + suc (length h.inner))
  distance : IsBranch h.head.code → pos (place_of places (base + jump)) ≡ pos (place_of places (k + suc (length h.inner))) +ℤ h.head.s
  few : IsBranch h.head.code → place_of places (base + count) ≤ place_of places base + most

abbrev PutSegments : ℕ → List ℕ → ℕ → ℕ → ℕ → ℕ → List ℕ → List Segment → List ℕ → Type 0
PutSegments most places deep base count k [] [] own = own ≡ []
PutSegments most places deep base count k [] (h ∷ hs) own = ⊥
PutSegments most places deep base count k (j ∷ js) [] own = ⊥
PutSegments most places deep base count k (j ∷ js) (h ∷ hs) own =
    (first : List ℕ) × (rest : List ℕ) × IsPutSegment most places deep base count k j h first × PutSegments most places deep base count (k + suc (length h.inner)) js hs rest × (own ≡ first ++ rest)

-- new segments hold as many operations as the old, and are branches where these are
abbrev Like : List Segment → List Segment → Type 0
Like [] [] = Unit {0}
Like [] (h ∷ hs) = ⊥
Like (g ∷ gs) [] = ⊥
Like (g ∷ gs) (h ∷ hs) = (length h.inner ≡ length g.inner) × (IsBranch h.head.code → IsBranch g.head.code) × (IsBranch g.head.code → IsBranch h.head.code) × Like gs hs

like_long : (gs hs : List Segment) → Like gs hs → length hs ≡ length gs
like_long [] [] l = refl
like_long [] (h ∷ hs) l = absurd l
like_long (g ∷ gs) [] l = absurd l
like_long (g ∷ gs) (h ∷ hs) (e, f, b, l) = ap suc (like_long gs hs l)

like_count : (gs hs : List Segment) (m : ℕ) → Like gs hs → count_of (take m hs) ≡ count_of (take m gs)
like_count [] [] m l = refl
like_count [] (h ∷ hs) m l = absurd l
like_count (g ∷ gs) [] m l = absurd l
like_count (g ∷ gs) (h ∷ hs) zero l = refl
like_count (g ∷ gs) (h ∷ hs) (suc m) (e, f, b, l) = let n = like_count gs hs m l in omega (arith, e, n)

like_was : (gs hs : List Segment) (i : ℕ) → Like gs hs → IsBranch (head_at hs i).code → IsBranch (head_at gs i).code
like_was [] [] i l x = x
like_was [] (h ∷ hs) i l x = absurd l
like_was (g ∷ gs) [] i l x = absurd l
like_was (g ∷ gs) (h ∷ hs) zero (e, f, b, l) x = f x
like_was (g ∷ gs) (h ∷ hs) (suc i) (e, f, b, l) x = like_was gs hs i l x

like_stays : (gs hs : List Segment) (i : ℕ) → Like gs hs → IsBranch (head_at gs i).code → IsBranch (head_at hs i).code
like_stays [] [] i l x = x
like_stays [] (h ∷ hs) i l x = absurd l
like_stays (g ∷ gs) [] i l x = absurd l
like_stays (g ∷ gs) (h ∷ hs) zero (e, f, b, l) x = b x
like_stays (g ∷ gs) (h ∷ hs) (suc i) (e, f, b, l) x = like_stays gs hs i l x

front_and : (a b : List ℕ) (n : ℕ) → take (length a + n) (a ++ b) ≡ a ++ take n b
front_and a b n =
    take_sum (length a) n (a ++ b) ∙ ap (λ z. z ++ take n (drop (length a) (a ++ b))) (take_at a b (length a) refl) ∙ ap (λ z. a ++ take n z) (drop_at a b (length a) refl)

-- where the first m segments end
record EndsThere (most : ℕ) (places : List ℕ) (deep k : ℕ) (hs : List Segment) (own : List ℕ) (m : ℕ) : Type 0 where
  place : ℕ
  ends : EndsAt (SpellsSegment most deep) hs own m place
  is : place_of places k + place ≡ place_of places (k + count_of (take m hs))

module _ (most : ℕ) (places : List ℕ) (deep base count : ℕ) where
  put_joined : (k : ℕ) (js : List ℕ) (hs : List Segment) (own : List ℕ) → PutSegments most places deep base count k js hs own → Joined (SpellsSegment most deep) hs own
  put_joined k [] [] own p = p
  put_joined k [] (h ∷ hs) own p = absurd p
  put_joined k (j ∷ js) [] own p = absurd p
  put_joined k (j ∷ js) (h ∷ hs) own (first, rest, i, p, e) = (first, rest, i.spelled, put_joined (k + suc (length h.inner)) js hs rest p, e)

  none_ends : (k : ℕ) (hs : List Segment) (own : List ℕ) → EndsThere most places deep k hs own 0
  none_ends k hs own = record { place = 0; ends = (omega arith, omega arith, refl); is = let e : k + 0 ≡ k = omega arith in let f = ap (place_of places) e in omega (arith, f) }

  put_ends : (k : ℕ) (js : List ℕ) (hs : List Segment) (own : List ℕ) (m : ℕ) → PutSegments most places deep base count k js hs own → m ≤ length hs → EndsThere most places deep k hs own m
  put_ends k [] [] own zero p le = none_ends k [] own
  put_ends k [] [] own (suc m) p le = absurd (omega (arith, le))
  put_ends k [] (h ∷ hs) own m p le = absurd p
  put_ends k (j ∷ js) [] own m p le = absurd p
  put_ends k (j ∷ js) (h ∷ hs) own zero p le = none_ends k (h ∷ hs) own
  put_ends k (j ∷ js) (h ∷ hs) own (suc m) (first, rest, i, p, e) le =
      let t = put_ends (k + suc (length h.inner)) js hs rest m p (omega (arith, le)) in
      let (few, inside, spelled) = t.ends in
      let all : length own ≡ length first + length rest = ap length e ∙ length-append first rest in
      let front : take (length first + t.place) own ≡ first ++ take t.place rest = ap (take (length first + t.place)) e ∙ front_and first rest t.place in
      let there = t.is in
      let size = i.size in
      let same : place_of places (k + suc (length h.inner) + count_of (take m hs)) ≡ place_of places (k + suc (length h.inner + count_of (take m hs))) = ap (place_of places) (omega arith) in
      record {
        place = length first + t.place;
        ends = (le, omega (arith, all, inside), (first, take t.place rest, i.spelled, spelled, front));
        is = omega (arith, there, size, same);
      }

  put_goes : (k : ℕ) (js : List ℕ) (hs : List Segment) (own : List ℕ) (i : ℕ) → PutSegments most places deep base count k js hs own → i < length hs → IsBranch (head_at hs i).code → pos (place_of places (base + get_or js i 0)) ≡ pos (place_of places (k + count_of (take (suc i) hs))) +ℤ (head_at hs i).s
  put_goes k [] [] own i p lt b = absurd (omega (arith, lt))
  put_goes k [] (h ∷ hs) own i p lt b = absurd p
  put_goes k (j ∷ js) [] own i p lt b = absurd p
  put_goes k (j ∷ js) (h ∷ hs) own zero (first, rest, i, p, e) lt b =
      let same : k + suc (length h.inner) ≡ k + suc (length h.inner + 0) = omega arith in
      i.distance b ∙ ap (λ z. pos (place_of places z) +ℤ h.head.s) same
  put_goes k (j ∷ js) (h ∷ hs) own (suc n) (first, rest, i, p, e) lt b =
      let same : k + suc (length h.inner) + count_of (take (suc n) hs) ≡ k + suc (length h.inner + count_of (take (suc n) hs)) = omega arith in
      put_goes (k + suc (length h.inner)) js hs rest n p (omega (arith, lt)) b ∙ ap (λ z. pos (place_of places z) +ℤ (head_at hs n).s) same

  put_few : (k : ℕ) (js : List ℕ) (hs : List Segment) (own : List ℕ) (i : ℕ) → PutSegments most places deep base count k js hs own → i < length hs → IsBranch (head_at hs i).code → place_of places (base + count) ≤ place_of places base + most
  put_few k [] [] own i p lt b = absurd (omega (arith, lt))
  put_few k [] (h ∷ hs) own i p lt b = absurd p
  put_few k (j ∷ js) [] own i p lt b = absurd p
  put_few k (j ∷ js) (h ∷ hs) own zero (first, rest, i, p, e) lt b = i.few b
  put_few k (j ∷ js) (h ∷ hs) own (suc m) (first, rest, i, p, e) lt b = put_few (k + suc (length h.inner)) js hs rest m p (omega (arith, lt)) b

-- bytes that are spelled are bytes
segment_small : (most deep : ℕ) (g : Segment) (bytes : List ℕ) → SpellsSegment most deep g bytes → AreBytes bytes
segment_small most zero g bytes s = s.0.small
segment_small most (suc deep) g bytes s = s.0.small

joined_small : (most deep : ℕ) (gs : List Segment) (bytes : List ℕ) → Joined (SpellsSegment most deep) gs bytes → AreBytes bytes
joined_small most deep [] bytes e = subst (λ (z : List ℕ). AreBytes z) (sym e) (λ k lt. absurd (omega (arith, lt)))
joined_small most deep (g ∷ gs) bytes (first, rest, s, j, e) =
    subst (λ (z : List ℕ). AreBytes z) (sym e) (bytes_append first rest (segment_small most deep g first s) (joined_small most deep gs rest j))

-- ONE SEGMENT

record IsNewSegment (most : ℕ) (places : List ℕ) (deep base count k jump : ℕ) (g : Segment) (named : List Operation) (own : List ℕ) : Type 0 where
  new : Segment
  listed : named ≡ operation_of new.head jump (length new.inner) ∷ new.inner
  held : length new.inner ≡ length g.inner
  was : IsBranch new.head.code → IsBranch g.head.code
  stays : IsBranch g.head.code → IsBranch new.head.code
  put : IsPutSegment most places deep base count k jump new own

pub no_entry_plain : (code : ℕ) → code ≢ 163 → plain_code code ≢ 163
no_entry_plain code h e = elim (eqb_tells code 152) [
  | inl (t, is) ↦ let f : 153 ≡ plain_code code = sym (ap plain_code is) in absurd (omega (arith, e, f))
  | inr (t, is) ↦ h (sym (rw (ne_eqb code 152 is) refl) ∙ e)
]

branch_plain : (code : ℕ) → IsBranch code → IsBranch (plain_code code)
branch_plain code (inl e) = inl (ap plain_code e)
branch_plain code (inr e) = inr (ap plain_code e)

no_branch_entry : (code : ℕ) → code ≡ 163 → ¬ IsBranch code
no_branch_entry code e (inl f) = omega (arith, e, f)
no_branch_entry code e (inr f) = omega (arith, e, f)

plain_spells : (most deep : ℕ) (head : Head) (bytes : List ℕ) → SpellsHead head bytes → (¬ IsEntryValue head.code) → SpellsSegment most deep (record { head = head; inner = [] }) bytes
plain_spells most zero head bytes s n = (s, n, refl)
plain_spells most (suc deep) head bytes s n = (s, inr (n, refl))

-- an entry_value has nothing but bytes
entry_bare : (head : Head) (old : List ℕ) → SpellsHead head old → head.code ≡ 163 → (head.a ≡ 0) × (head.s ≡ pos 0)
entry_bare head old s e =
    let i = read_as head old s in
    let o : s.operands ≡ operands.One shape.Counted = some_same s.operands (operands.One shape.Counted) (sym i.known ∙ ap operands_of e) in
    let (p, (body, c, f), g) : SpellsOperands head.code (operands.One shape.Counted) head s.tail = subst (λ (z : Operands). SpellsOperands head.code z head s.tail) o i.spelled in
    let is = g ∙ ap (holding head.code) f in
    (ap (λ (z : Head). z.a) is, ap (λ (z : Head). z.s) is)

entry_operation : (head : Head) (jump inner : ℕ) → head.code ≡ 163 → head.a ≡ 0 → head.s ≡ pos 0 → operation_of head jump inner ≡ record { code = 163; a = 0; s = pos 0; block = []; jump = jump; inner = inner }
entry_operation head jump inner e f g =
    operation_as head jump inner 163 (pos 0) [] (ap plain_code e) (ap (λ c. kept_sign c head.s) e ∙ g) (ap (λ c. kept_block c head.block) e)
    ∙ ap (λ n. record { code = 163; a = n; s = pos 0; block = []; jump = jump; inner = inner }) f

-- what is written of an entry_value by itself
entry_puts : (slot : Option ℕ) (o : Operation) (own : List ℕ) → o.code ≡ 163 → PutsOwn slot o own → (tail : List ℕ) × PutsNumber slot o.a tail × (own ≡ 163 ∷ tail)
entry_puts slot o own e (inl (call, p)) = let no : 163 ≡ o.code = sym e in absurd (omega (arith, call, no))
entry_puts slot o own e (inr (inl (entry, p))) = p
entry_puts slot o own e (inr (inr (a, plain, p))) = absurd (plain e)

-- all segments of a level
record AreNewSegments (most : ℕ) (places : List ℕ) (deep base count k : ℕ) (js : List ℕ) (gs : List Segment) (named : List Operation) (own : List ℕ) : Type 0 where
  news : List Segment
  like : Like gs news
  put : PutSegments most places deep base count k js news own
  listed : named ≡ flat js news

flat_count : (js : List ℕ) (gs : List Segment) → length js ≡ length gs → length (flat js gs) ≡ count_of gs
flat_count [] [] e = refl
flat_count [] (g ∷ gs) e = absurd (omega (arith, e))
flat_count (j ∷ js) [] e = absurd (omega (arith, e))
flat_count (j ∷ js) (g ∷ gs) e =
    let h = flat_count js gs (omega (arith, e)) in
    let all : length (g.inner ++ flat js gs) ≡ length g.inner + length (flat js gs) = length-append g.inner (flat js gs) in
    omega (arith, h, all)

-- an operation, those that it holds, and those behind these
listed_more : (o : Operation) (held named front behind more : List Operation) → named ≡ front ++ behind → front ≡ o ∷ held → behind ≡ more → named ≡ o ∷ (held ++ more)
listed_more o held named front behind more e f g = e ∙ ap (λ z. z ++ behind) f ∙ ap (λ z. (o ∷ held) ++ z) g

-- places that count from the first of a level are as far apart
same_distance : (c to from x y : ℕ) (s : ℤ) → c + to ≡ x → c + from ≡ y → pos x ≡ pos y +ℤ s → pos to ≡ pos from +ℤ s
same_distance c to from x y s e f g = omega (arith, ints)

count_take : (gs : List Segment) (m : ℕ) → count_of (take m gs) ≤ count_of gs
count_take [] zero = omega arith
count_take [] (suc m) = omega arith
count_take (g ∷ gs) zero = omega arith
count_take (g ∷ gs) (suc m) = let h = count_take gs m in omega (arith, h)

-- a branch goes to an operation of its expression, or to the end
jump_inside : (S : Segment → List ℕ → Type 0) (gs : List Segment) (bytes : List ℕ) (i jump : ℕ) → IsJump S gs bytes i jump → jump ≤ count_of gs
jump_inside S gs bytes i jump (inl (b, (m, x, e))) = let h = count_take gs m in omega (arith, h, e)
jump_inside S gs bytes i jump (inr (b, e)) = omega (arith, e)

range_inside : (ops : List Op) (base count : ℕ) → IsRange ops base count → base ≤ length ops
range_inside ops base count (inl (e, whole)) = omega (arith, e)
range_inside ops base count (inr (e, lt, code, is, long)) = omega (arith, lt, is)

module _ (was most : ℕ) (ops : List Op) (places firsts : List ℕ) where
  abbrev pub LevelPut : ℕ → Type 0
  LevelPut deep = (base : ℕ) (os named : List Operation) (old own : List ℕ) → IsLevel was (SpellsSegment was deep) os old → Laid ops places firsts base os named own → IsRange ops base (length os) → IsLevel most (SpellsSegment most deep) named own

  abbrev SegmentPut : ℕ → Type 0
  SegmentPut deep = (base count k jump : ℕ) (g : Segment) (old : List ℕ) (named : List Operation) (own : List ℕ) → SpellsSegment was deep g old → Laid ops places firsts k (operation_of g.head jump (length g.inner) ∷ g.inner) named own → IsOwn ops base count k (get_or firsts k 0) → jump ≤ count → IsNewSegment most places deep base count k jump g named own

  module _ (low : (j : ℕ) → place_of places j < 2 ^ 63) (few : (base count k : ℕ) → IsBranch (op_at ops k).code → IsOwn ops base count k (get_or firsts k 0) → place_of places (base + count) ≤ place_of places base + most) where
    item_rewritten : (base count k jump : ℕ) (head : Head) (old : List ℕ) (n : Operation) (own : List ℕ) → SpellsHead head old → head.code ≢ 163 → IsOwn ops base count k (get_or firsts k 0) → jump ≤ count → (i : IsItem ops places firsts k (operation_of head jump 0) n own) → IsRewritten head jump (with_a n.a (operation_of head jump 0)) i.written own
    item_rewritten base count k jump head old n own s plain w goes i =
        head_rewritten head old jump i.slot n.a i.written own s plain i.refers i.puts (λ b. (i.branch b ∙ ap (with_s i.written.s) i.renamed, i.near b base count w goes)) (λ b. i.other b (no_entry_plain head.code plain) ∙ i.renamed)

    plain_put : (deep base count k jump : ℕ) (g : Segment) (old : List ℕ) (named : List Operation) (own : List ℕ) → SpellsHead g.head old → g.head.code ≢ 163 → g.inner ≡ [] → Laid ops places firsts k (operation_of g.head jump (length g.inner) ∷ g.inner) named own → IsOwn ops base count k (get_or firsts k 0) → jump ≤ count → IsNewSegment most places deep base count k jump g named own
    plain_put deep base count k jump g old named own s plain none laid w goes =
        let (n, ns, first, rest, i, (empty, nothing), list, whole) : Laid ops places firsts k (operation_of g.head jump 0 ∷ []) named own = subst (λ (z : List Operation). Laid ops places firsts k (operation_of g.head jump (length z) ∷ z) named own) none laid in
        let same : own ≡ first = whole ∙ ap (λ z. first ++ z) nothing ∙ append-nil first in
        let r = item_rewritten base count k jump g.head old n first s plain w goes i in
        let new : Segment = record { head = r.new; inner = [] } in
        let one : k + 1 ≡ k + suc 0 = omega arith in
        let size = i.size in
        let long : length own ≡ length first = ap length same in
        let there : place_of places (k + 1) ≡ place_of places (k + suc 0) = ap (place_of places) one in
        record {
          new = new;
          listed = list ∙ ap (λ z. n ∷ z) empty ∙ ap (λ (z : Operation). z ∷ []) (i.renamed ∙ r.means);
          held = sym (ap length none);
          was = r.was;
          stays = r.stays;
          put = record {
            spelled = subst (λ (z : List ℕ). SpellsSegment most deep new z) (sym same) (plain_spells most deep r.new first r.spelled r.plain);
            size = omega (arith, size, long, there);
            distance = λ b.
                sym (ap (λ z. pos (place_of places (z + jump))) w.is) ∙ i.distance (branch_plain g.head.code (r.was b)) ∙ ap (λ z. pos z +ℤ i.written.s) there ∙ ap (λ z. pos (place_of places (k + suc 0)) +ℤ z) (sym (r.sign b));
            few = λ b. few base count k (subst (λ (z : ℕ). IsBranch z) (sym i.code) (branch_plain g.head.code (r.was b))) w;
          };
        }

    entry_put : (deep : ℕ) → LevelPut deep → (base count k jump : ℕ) (g : Segment) (old : List ℕ) (named : List Operation) (own : List ℕ) → SpellsHead g.head old → g.head.code ≡ 163 → IsLevel was (SpellsSegment was deep) g.inner g.head.block → Laid ops places firsts k (operation_of g.head jump (length g.inner) ∷ g.inner) named own → IsNewSegment most places (suc deep) base count k jump g named own
    entry_put deep level base count k jump g old named own s entry l laid =
        let (n, ns, first, rest, i, below, list, whole) = laid in
        let o = operation_of g.head jump (length g.inner) in
        let code : o.code ≡ 163 = ap plain_code entry in
        let (tail, puts, written) = entry_puts i.slot i.written first (i.entry_code ∙ code) i.puts in
        let same : own ≡ 163 ∷ (tail ++ rest) = whole ∙ ap (λ z. z ++ rest) written in
        let counted = i.long code in
        let there = laid_long ops places firsts (k + 1) g.inner ns rest below in
        let long : length rest ≡ i.written.a = omega (arith, counted, there) in
        let high = low (k + 1 + length g.inner) in
        let fits : i.written.a < 2 ^ 64 = omega (arith, counted, high) in
        let held : length ns ≡ length g.inner = laid_count ops places firsts (k + 1) g.inner ns rest below in
        let inner : IsLevel most (SpellsSegment most deep) ns rest = level (k + 1) g.inner ns g.head.block rest l below (inr (k, i.inside, i.code ∙ code, refl, sym i.inner)) in
        let small : AreBytes rest = joined_small most deep inner.segments rest inner.spelled in
        let head : Head = record { code = 163; a = 0; s = pos 0; block = rest } in
        let new : Segment = record { head = head; inner = ns } in
        let spelled : SpellsHead head (163 ∷ (tail ++ rest)) = entry_spelled i.slot i.written.a tail rest long fits small puts in
        let bare = entry_bare g.head old s entry in
        let kept : n.a ≡ o.a = i.refers.0 (ap has_reference code) in
        let is : n ≡ operation_of head jump (length ns) =
        i.renamed ∙ ap (λ z. with_a z o) kept ∙ entry_operation g.head jump (length g.inner) entry bare.0 bare.1 ∙ ap (λ z. record { code = 163; a = 0; s = pos 0; block = []; jump = jump; inner = z }) (sym held) in
        let all = laid_long ops places firsts k (o ∷ g.inner) named own laid in
        let end : place_of places (k + suc (length ns)) ≡ place_of places (k + suc (length g.inner)) = ap (λ z. place_of places (k + suc z)) held in
        record {
          new = new;
          listed = list ∙ ap (λ z. z ∷ ns) is;
          held = held;
          was = λ b. absurd (no_branch_entry 163 refl b);
          stays = λ b. absurd (no_branch_entry g.head.code entry b);
          put = record {
            spelled = (subst (λ (z : List ℕ). SpellsHead head z) (sym same) spelled, inl (refl, inner));
            size = omega (arith, all, end);
            distance = λ b. absurd (no_branch_entry 163 refl b);
            few = λ b. absurd (no_branch_entry 163 refl b);
          };
        }

    segment_put : (deep : ℕ) → LevelPut deep → SegmentPut (suc deep)
    segment_put deep level base count k jump g old named own (s, inl (entry, l)) laid w goes = entry_put deep level base count k jump g old named own s entry l laid
    segment_put deep level base count k jump g old named own (s, inr (plain, none)) laid w goes = plain_put (suc deep) base count k jump g old named own s plain none laid w goes

    last_put : SegmentPut zero
    last_put base count k jump g old named own (s, plain, none) laid w goes = plain_put zero base count k jump g old named own s plain none laid w goes

    -- ALL SEGMENTS OF A LEVEL

    ends_more : (base k : ℕ) (g : Segment) (o : Operation) (os named : List Operation) (own : List ℕ) → o.inner ≡ length os → Nests os → Laid ops places firsts k (o ∷ os) named own → EndsBefore ops base k → EndsBefore ops base (k + suc (length os))
    ends_more base k g o os named own e n laid before i from lt =
        elim (cases_lt i k) [
          | inl less ↦ let h = before i from less in omega (arith, h)
          | inr more ↦
              let t = i - k in
              let is : i ≡ k + t = omega arith in
              let inside : t < suc (length os) = omega (arith, lt, is) in
              let held : (op_at ops (k + t)).inner ≡ (get_or (o ∷ os) t o).inner = laid_inner ops places firsts k (o ∷ os) named own laid t o inside in
              let h = nests_one o os e n t o inside in
              let same : (op_at ops i).inner ≡ (op_at ops (k + t)).inner = ap (λ z. (op_at ops z).inner) is in
              omega (arith, held, h, same, is)
        ]

    segments_put : (deep : ℕ) → SegmentPut deep → (base count : ℕ) → IsRange ops base count → base + count ≤ length ops → (k : ℕ) (js : List ℕ) (gs : List Segment) (old : List ℕ) (named : List Operation) (own : List ℕ) → length js ≡ length gs → Joined (SpellsSegment was deep) gs old → Laid ops places firsts k (flat js gs) named own → base ≤ k → k + count_of gs ≤ base + count → EndsBefore ops base k → ((i : ℕ) → i < length gs → get_or js i 0 ≤ count) → AreNewSegments most places deep base count k js gs named own
    segments_put deep put base count b within k [] [] old named own e j (list, whole) low high before goes = record { news = []; like = tt; put = whole; listed = list }
    segments_put deep put base count b within k [] (g ∷ gs) old named own e j laid low high before goes = absurd (omega (arith, e))
    segments_put deep put base count b within k (j ∷ js) [] old named own e i laid low high before goes = absurd (omega (arith, e))
    segments_put deep put base count b within k (j ∷ js) (g ∷ gs) old named own e (first, rest, spelled, joined, whole) laid low high before goes =
        let o = operation_of g.head j (length g.inner) in
        let s = laid_split ops places firsts k (o ∷ g.inner) (flat js gs) named own laid in
        let i = s.before.4 in
        let inside = i.inside in
        let there : get_or firsts k 0 ≡ base = first_there ops base count k (get_or firsts k 0) b low (omega (arith, high)) inside before i.first in
        let w : IsOwn ops base count k (get_or firsts k 0) = record { range = b; inside = within; low = low; high = omega (arith, high); is = there } in
        let n = put base count k j g first s.front s.first spelled s.before w (goes 0 (omega arith)) in
        let nests = segment_nests was deep g first spelled in
        let next = ends_more base k g o g.inner s.front s.first refl nests s.before before in
        let r = segments_put deep put base count b within (k + suc (length g.inner)) js gs rest s.behind s.rest (omega (arith, e)) joined s.after (omega (arith, low)) (omega (arith, high)) next (λ i lt. goes (suc i) (omega (arith, lt))) in
        record {
          news = n.new ∷ r.news;
          like = (n.held, n.was, n.stays, r.like);
          put = (s.first, s.rest, n.put, subst (λ (z : ℕ). PutSegments most places deep base count (k + suc z) js r.news s.rest) (sym n.held) r.put, s.whole);
          listed = listed_more (operation_of n.new.head j (length n.new.inner)) n.new.inner named s.front s.behind (flat js r.news) s.listed n.listed r.listed;
        }

    new_jump : (deep base count : ℕ) (S : Segment → List ℕ → Type 0) (js : List ℕ) (gs hs : List Segment) (old own : List ℕ) (i : ℕ) → Like gs hs → PutSegments most places deep base count base js hs own → i < length hs → IsJump S gs old i (get_or js i 0) → IsJump (SpellsSegment most deep) hs own i (get_or js i 0)
    new_jump deep base count S js gs hs old own i like put lt (inl (b, (m, x, e))) =
        let long = like_long gs hs like in
        let few = x.there.0 in
        let new = like_stays gs hs i like b in
        let from = put_ends most places deep base count base js hs own (i + 1) put (omega (arith, lt)) in
        let to = put_ends most places deep base count base js hs own m put (omega (arith, few, long)) in
        let goes = put_goes most places deep base count base js hs own i put lt new in
        let jump : get_or js i 0 ≡ count_of (take m hs) = e ∙ sym (like_count gs hs m like) in
        let one : suc i ≡ i + 1 = omega arith in
        let left : pos (place_of places (base + count_of (take m hs))) ≡ pos (place_of places (base + count_of (take (i + 1) hs))) +ℤ (head_at hs i).s =
        ap (λ z. pos (place_of places (base + z))) (sym jump) ∙ goes ∙ ap (λ z. pos (place_of places (base + count_of (take z hs))) +ℤ (head_at hs i).s) one in
        inl (
          new,
          (
            m,
            record {
              from = from.place;
              to = to.place;
              behind = from.ends;
              there = to.ends;
              distance = same_distance (place_of places base) to.place from.place (place_of places (base + count_of (take m hs))) (place_of places (base + count_of (take (i + 1) hs))) (head_at hs i).s to.is from.is left;
            },
            jump,
          ),
        )
    new_jump deep base count S js gs hs old own i like put lt (inr (b, e)) = inr (λ x. b (like_was gs hs i like x), e)

    level_by : (deep : ℕ) → SegmentPut deep → LevelPut deep
    level_by deep put base os named old own l laid b =
        let flats : Laid ops places firsts base (flat l.jumps l.segments) named own = subst (λ (z : List Operation). Laid ops places firsts base z named own) l.listed laid in
        let count : length os ≡ count_of l.segments = ap length l.listed ∙ flat_count l.jumps l.segments l.each in
        let within = laid_inside ops places firsts base os named own laid (range_inside ops base (length os) b) in
        let n = segments_put deep put base (length os) b within base l.jumps l.segments old named own l.each l.spelled flats (omega arith) (omega (arith, count)) (λ e from less. absurd (omega (arith, from, less))) (λ i lt. let h = jump_inside (SpellsSegment was deep) l.segments old i (get_or l.jumps i 0) (l.jumping i lt) in omega (arith, h, count)) in
        let long = like_long l.segments n.news n.like in
        let all = laid_long ops places firsts base os named own laid in
        record {
          segments = n.news;
          jumps = l.jumps;
          spelled = put_joined most places deep base (length os) base l.jumps n.news own n.put;
          each = l.each ∙ sym long;
          listed = n.listed;
          jumping = λ i lt. new_jump deep base (length os) (SpellsSegment was deep) l.jumps l.segments n.news old own i n.like n.put lt (l.jumping i (omega (arith, lt, long)));
          few = λ (i, lt, x). let h = put_few most places deep base (length os) base l.jumps n.news own i n.put lt x in omega (arith, h, all);
        }

    -- what is written of a level is one
    pub level_put : (deep : ℕ) → LevelPut deep
    level_put zero = level_by zero last_put
    level_put (suc deep) = level_by (suc deep) (segment_put deep (level_put deep))

-- The numbers of view pairs.
use Rattle.std.proofs.Common.{◌≡◌, ◌≤◌, ◌<◌, ◌+◌, ◌-◌, ◌++◌, ◌⊎◌, ◌∙◌, ℕ, List, [], ◌∷◌, length, get_or, take, drop, Option, Some, sym, ap, subst, refl, inl, inr, arith}
use Rattle.std.proofs.lemmas.List.{append_assoc, length-append, length-drop, drop_more, drop_all, drop-drop, drop_at, take_at}
use Rattle.spelled.specs.Spelled.{HasUniqueFronts, Joined}
use Rattle.spelled.proofs.Joins.{then_once}
use Rattle.leb_codec.specs.Leb.{Uleb}
use Rattle.leb_codec.proofs.Fronts.{unique_u}
use Rattle.loc_lists.specs.declared.views.ViewPair.{ViewPair}
use Rattle.loc_lists.specs.Views.{SpellsPair}
use Rattle.tidy_places.specs.Firsts.{IsLeastFound}
use Rattle.entry_arena.specs.Trees.{bytes_between, SpellsBetween}
use Rattle.value_links.specs.Reading.{ViewRead}
use Rattle.tidy_numbers.specs.Fronts.{IsLong}
use Rattle.tidy_numbers.specs.LongLists.{IsLongInRun}
use Rattle.tidy_numbers.specs.inside.NumberWalks.{EndsFrom, HoldsFrom, IsFoundFrom, IsFoundBut, IsLongPair, IsRunIn}
use Rattle.tidy_numbers.proofs.WalkedPlaces.{found_before, found_more, found_last, found_all}
use Rattle.tidy_numbers.proofs.WalkedBehind.{parted, between_end, then_parts, same_rest}
use Rattle.tidy_numbers.proofs.WalkedRows.{then_at, found_past}

-- A PAIR

same_pair : (v w : ViewPair) → v.first ≡ w.first → v.last ≡ w.last → v ≡ w
same_pair v w first last = ap (λ (z : ℕ). record { first = z; last = v.last }) first ∙ ap (λ (z : ℕ). record { first = w.first; last = z }) last

pub pair_once : HasUniqueFronts SpellsPair
pair_once v w a b x y p q e =
    let one = then_once Uleb (λ _. Uleb) unique_u (λ _. unique_u) (v.first, v.last) (w.first, w.last) a b x y p q e in
    (one.0, same_pair v w (ap (λ (z : ℕ × ℕ). z.0) one.1) (ap (λ (z : ℕ × ℕ). z.1) one.1))

module _ (pair : ViewPair) (bytes : List ℕ) (start end : ℕ) (stands : SpellsBetween (SpellsPair pair) bytes start end) where
  pub first_stands : (n : ℕ) × ((k : ℕ) × SpellsBetween (Uleb n) bytes start k)
  first_stands =
      let two = then_parts Uleb (λ _. Uleb) pair.first pair.last bytes start end stands in
      (pair.first, (two.mid, two.first))

  module _ (mid : ℕ) (first_end : (n : ℕ) → EndsFrom (Uleb n) bytes start mid) where
    both : SpellsBetween (Uleb pair.first) bytes start mid × SpellsBetween (Uleb pair.last) bytes mid end
    both = then_at Uleb (λ _. Uleb) pair.first pair.last bytes start end mid stands (first_end pair.first)

    pub last_stands : (n : ℕ) × ((k : ℕ) × SpellsBetween (Uleb n) bytes mid k)
    last_stands = (pair.last, (end, both.1))

    pub ends_pair : (last : ℕ) → ((n : ℕ) → EndsFrom (Uleb n) bytes mid last) → last ≡ end
    ends_pair last ends = ends pair.last end both.1

    pub found_pair : (before first last : Option ℕ) → IsFoundFrom before IsLong bytes start first → IsFoundFrom first IsLong bytes mid last → IsFoundFrom before IsLongPair bytes start last
    found_pair before first last found_first found_second =
        let Holds : ℕ → Type 0 = λ p. (before ≡ Some p) ⊎ HoldsFrom IsLongPair bytes start p in
        let one = found_past Uleb unique_u pair.first bytes start mid both.0 Holds IsLong (λ n. IsLong) before first (found_before (HoldsFrom IsLongPair bytes start) before) found_first in
        found_last Holds (HoldsFrom IsLong bytes mid) (HoldsFrom IsLong bytes mid) first last one (λ p there. there) (λ p there. there) found_second

-- A RUN

abbrev pub run_of : ℕ → ℕ → List ViewPair → ViewRead
run_of list start pairs = record { list = list; at = start; pairs = pairs }

module _ (bytes : List ℕ) (list : ℕ) (pair : ViewPair) (pairs : List ViewPair) (start end : ℕ) (stands : SpellsBetween (SpellsPair pair) bytes start end) where
  run_to : (p : ℕ) → IsLongInRun bytes (run_of list start (pair ∷ pairs)) p → HoldsFrom IsLongPair bytes start p ⊎ IsLongInRun bytes (run_of list end pairs) p
  run_to p r = cases r.before r.pairs r.front r.spelled r.whole r.place
    where
      cases : (before : List ViewPair) → (pair ∷ pairs) ≡ before ++ r.pair ∷ r.after → (front : List ℕ) → Joined SpellsPair before front → drop start bytes ≡ front ++ r.rest → p ≡ start + length front + r.inner → HoldsFrom IsLongPair bytes start p ⊎ IsLongInRun bytes (run_of list end pairs) p
      cases [] parts front none whole place =
          let size : length front ≡ 0 = ap length none in
          let same : r.rest ≡ drop start bytes = sym (whole ∙ ap (λ z. z ++ r.rest) none) in
          inl (r.inner, subst (λ (z : List ℕ). IsLongPair r.inner z) same r.long, omega (arith, size, place))
      cases (w ∷ ws) parts front (first, others, s, joined, is) whole place =
          let same = same_rest SpellsPair pair_once pair bytes start end stands w first (others ++ r.rest) s (whole ∙ ap (λ z. z ++ r.rest) is ∙ append_assoc first others r.rest) in
          let size : length first ≡ length (bytes_between bytes start end) = same.1 in
          let sum : length front ≡ length first + length others = ap length is ∙ length-append first others in
          let all : start + length (bytes_between bytes start end) ≡ end = between_end (SpellsPair pair) bytes start end stands in
          inr (record {
            before = ws;
            pair = r.pair;
            after = r.after;
            pairs = cc parts;
            front = others;
            rest = r.rest;
            spelled = joined;
            inner = r.inner;
            long = r.long;
            whole = sym same.2;
            place = omega (arith, size, sum, all, place);
          })

  run_here : (p : ℕ) → HoldsFrom IsLongPair bytes start p → IsLongInRun bytes (run_of list start (pair ∷ pairs)) p
  run_here p (inner, long, place) = record {
    before = [];
    pair = pair;
    after = pairs;
    pairs = refl;
    front = [];
    rest = drop start bytes;
    spelled = refl;
    inner = inner;
    long = long;
    whole = refl;
    place = omega (arith, place);
  }

  run_next : (p : ℕ) → IsLongInRun bytes (run_of list end pairs) p → IsLongInRun bytes (run_of list start (pair ∷ pairs)) p
  run_next p r =
      let first : List ℕ = bytes_between bytes start end in
      let sum : length (first ++ r.front) ≡ length first + length r.front = length-append first r.front in
      let all : start + length (bytes_between bytes start end) ≡ end = between_end (SpellsPair pair) bytes start end stands in
      let place : p ≡ end + length r.front + r.inner = r.place in
      record {
        before = pair ∷ r.before;
        pair = r.pair;
        after = r.after;
        pairs = ap (λ (z : List ViewPair). pair ∷ z) r.pairs;
        front = first ++ r.front;
        rest = r.rest;
        spelled = (first, r.front, stands.spelled, r.spelled, refl);
        inner = r.inner;
        long = r.long;
        whole = parted bytes start end stands.order ∙ ap (λ z. first ++ z) r.whole ∙ sym (append_assoc first r.front r.rest);
        place = omega (arith, sum, all, place);
      }

-- the pairs of a run stand one behind the other
pair_size : (pair : ViewPair) (bytes : List ℕ) → SpellsPair pair bytes → 0 < length bytes
pair_size pair bytes (first, second, one, two, is) =
    let some : 0 < length first = one.0.0.filled in
    let sum : length bytes ≡ length first + length second = ap length is ∙ length-append first second in
    omega arith

record Starts (bytes : List ℕ) (list : ℕ) (pair : ViewPair) (pairs : List ViewPair) (start : ℕ) : Type 0 where
  end : ℕ
  stands : SpellsBetween (SpellsPair pair) bytes start end
  more : IsRunIn bytes (run_of list end pairs)

run_starts : (bytes : List ℕ) (list : ℕ) (pair : ViewPair) (pairs : List ViewPair) (start : ℕ) → IsRunIn bytes (run_of list start (pair ∷ pairs)) → Starts bytes list pair pairs start
run_starts bytes list pair pairs start (run, rest, (first, others, spelled, joined, is), whole) =
    let parts : drop start bytes ≡ first ++ (others ++ rest) = whole ∙ ap (λ z. z ++ rest) is ∙ append_assoc first others rest in
    let some : 0 < length first = pair_size pair first spelled in
    let left : length (drop start bytes) ≡ length bytes - start = length-drop start bytes in
    let sum : length (drop start bytes) ≡ length first + length (others ++ rest) = ap length parts ∙ length-append first (others ++ rest) in
    let size : start + length first - start ≡ length first = omega arith in
    let between : bytes_between bytes start (start + length first) ≡ first = ap (λ (n : ℕ). take n (drop start bytes)) size ∙ ap (take (length first)) parts ∙ take_at first (others ++ rest) (length first) refl in
    record {
      end = start + length first;
      stands = record { order = omega arith; inside = omega arith; spelled = subst (λ (z : List ℕ). SpellsPair pair z) (sym between) spelled };
      more = (others, rest, joined, sym (drop-drop (length first) start bytes) ∙ ap (drop (length first)) parts ∙ drop_at first (others ++ rest) (length first) refl);
    }

-- Of the pairs of a run some have been looked at, up to a place.
pub record IsRunWalked (bytes : List ℕ) (run : ViewRead) (before : Option ℕ) (i here : ℕ) (found : Option ℕ) : Type 0 where
  pub rest : IsRunIn bytes (run_of run.list here (drop i run.pairs))
  pub but : IsFoundBut (λ p. (before ≡ Some p) ⊎ IsLongInRun bytes run p) (IsLongInRun bytes (run_of run.list here (drop i run.pairs))) found

module _ (bytes : List ℕ) (run : ViewRead) (before : Option ℕ) where
  -- none has been looked at
  pub run_none : (here : ℕ) → here ≡ run.at → IsRunIn bytes run → IsRunWalked bytes run before 0 here before
  run_none here same stands = record {
    rest = subst (λ (z : ℕ). IsRunIn bytes (run_of run.list z run.pairs)) (sym same) stands;
    but = subst (λ (z : ℕ). IsFoundBut (λ p. (before ≡ Some p) ⊎ IsLongInRun bytes run p) (IsLongInRun bytes (run_of run.list z run.pairs)) before) (sym same) (found_before (IsLongInRun bytes run) before);
  }

  module _ (i here : ℕ) (found : Option ℕ) (w : IsRunWalked bytes run before i here found) where
    starts : (d : ViewPair) → i < length run.pairs → Starts bytes run.list (get_or run.pairs i d) (drop (i + 1) run.pairs) here
    starts d inside = run_starts bytes run.list (get_or run.pairs i d) (drop (i + 1) run.pairs) here (subst (λ (z : List ViewPair). IsRunIn bytes (run_of run.list here z)) (drop_more run.pairs i d inside) w.rest)

    -- one more stands there
    pub run_pair : (d : ViewPair) → i < length run.pairs → (pair : ViewPair) × ((end : ℕ) × SpellsBetween (SpellsPair pair) bytes here end)
    run_pair d inside = let s = starts d inside in (get_or run.pairs i d, (s.end, s.stands))

    -- it is looked at
    pub run_more : (d : ViewPair) → i < length run.pairs → (next : ℕ) (more : Option ℕ) → ((pair : ViewPair) → EndsFrom (SpellsPair pair) bytes here next) → IsFoundFrom found IsLongPair bytes here more → IsRunWalked bytes run before (i + 1) next more
    run_more d inside next more ends least =
        let pair : ViewPair = get_or run.pairs i d in
        let others : List ViewPair = drop (i + 1) run.pairs in
        let s = starts d inside in
        let same : s.end ≡ next = sym (ends pair s.end s.stands) in
        let stands : SpellsBetween (SpellsPair pair) bytes here next = subst (λ (z : ℕ). SpellsBetween (SpellsPair pair) bytes here z) same s.stands in
        let but = subst (λ (z : List ViewPair). IsFoundBut (λ p. (before ≡ Some p) ⊎ IsLongInRun bytes run p) (IsLongInRun bytes (run_of run.list here z)) found) (drop_more run.pairs i d inside) w.but in
        record {
          rest = subst (λ (z : ℕ). IsRunIn bytes (run_of run.list z others)) same s.more;
          but = found_more (λ p. (before ≡ Some p) ⊎ IsLongInRun bytes run p) (IsLongInRun bytes (run_of run.list here (pair ∷ others))) (HoldsFrom IsLongPair bytes here) (IsLongInRun bytes (run_of run.list next others)) found more but (run_to bytes run.list pair others here next stands) (run_here bytes run.list pair others here next stands) (run_next bytes run.list pair others here next stands) least;
        }

    -- all have been looked at
    pub run_all : length run.pairs ≤ i → IsLeastFound (λ p. (before ≡ Some p) ⊎ IsLongInRun bytes run p) found
    run_all past =
        found_all (λ p. (before ≡ Some p) ⊎ IsLongInRun bytes run p) (IsLongInRun bytes (run_of run.list here (drop i run.pairs))) found w.but
        (λ p r. no_pair r.before r.pair r.after (sym (drop_all i run.pairs past) ∙ r.pairs))
      where
        no_pair : (some : List ViewPair) (pair : ViewPair) (others : List ViewPair) → [] ≡ some ++ pair ∷ others → ⊥
        no_pair [] pair others is = absurd (cc is)
        no_pair (first ∷ some) pair others is = absurd (cc is)

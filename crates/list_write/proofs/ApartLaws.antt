-- Entries with their expressions behind them: all the bytes, and those of the entries alone.
use Rattle.std.proofs.Common.{◌≡◌, ◌≤◌, ◌<◌, ◌+◌, ◌∙◌, ℕ, List, [], ◌∷◌, ◌++◌, length, get_or, map, take, drop, sym, ap, refl, subst, arith}
use Rattle.std.specs.Prelude.{filter, not, Bool, true, false}
use Rattle.std.specs.List.{sum_by}
use Rattle.std.proofs.Math.Bool.{cond}
use Rattle.std.proofs.lemmas.List.{append_assoc, append-nil, length-append, map-append, take_all, take_more, length-take-le, take-append-drop}
use Rattle.std.proofs.lemmas.List.Elements.{filter-append}
use Rattle.std.proofs.lemmas.List.Sums.{sum_by-cons, length-filter, count_by-le-length}
use Rattle.spelled.specs.Spelled.{Joined, Appends}
use Rattle.list_model.specs.declared.entry.EntryKind.{EntryKind}
use Rattle.list_model.specs.declared.entry.EntryKind.TheVariants.{BaseAddressx, StartxEndx, StartxLength, OffsetPair, DefaultLocation, BaseAddress, StartEnd, StartLength}
use Rattle.list_model.specs.declared.entry.ListKind.{ListKind}
use Rattle.list_model.specs.declared.entry.ListKind.TheVariants.{Ranges, Locations}
use Rattle.list_model.specs.Entries.{Entry}
use Rattle.list_model.specs.Items.{sets_base}
use Rattle.loc_lists.specs.Locations.{entries_of, item_expressions}
use Rattle.loc_lists.specs.Apart.{StandApart, ShortestBehind}
use Rattle.list_least.specs.Plans.{entries_bytes}
use Rattle.list_least.specs.Shortest.{ShortestEntry, ShortestList}
use Rattle.list_least.proofs.Shortest.{shortest_lists}
use Rattle.list_write.specs.Written.{HasExpressions, ShortestWith, behind_size}
use Rattle.list_write.specs.inside.Puts.{carries, ShortestExpression, PutBehind, PutApart, carried_of, carried_count, AreEntriesPut}

-- ---- one more entry

apart_more : (kind : ListKind) (locations : List (Entry × List ℕ)) (location : Entry × List ℕ) (bytes bare own behind : List ℕ) → PutApart kind locations bytes bare → ShortestEntry kind location.0 own → PutBehind (carries kind location.0.kind) location.1 behind → PutApart kind (locations ++ location ∷ []) (bytes ++ (own ++ behind)) (bare ++ own)
apart_more kind [] location bytes bare own behind (e, f) s b =
    (own, behind, [], [], s, b, (refl, refl), ap (λ z. z ++ (own ++ behind)) e ∙ ap (λ z. own ++ z) (sym (append-nil behind)), ap (λ z. z ++ own) f ∙ sym (append-nil own))
apart_more kind (l ∷ locations) location bytes bare own behind (first, mid, rest, bare_rest, t, c, so_far, e, f) s b = (
  first,
  mid,
  rest ++ (own ++ behind),
  bare_rest ++ own,
  t,
  c,
  apart_more kind locations location rest bare_rest own behind so_far s b,
  ap (λ z. z ++ (own ++ behind)) e ∙ append_assoc first (mid ++ rest) (own ++ behind) ∙ ap (λ z. first ++ z) (append_assoc mid rest (own ++ behind)),
  ap (λ z. z ++ own) f ∙ append_assoc first bare_rest own,
)

-- the expressions with those of one more entry
carried_more : (kind : ListKind) (locations : List (Entry × List ℕ)) (location : Entry × List ℕ) (has : Bool) → carries kind location.0.kind ≡ has → carried_of kind (locations ++ location ∷ []) ≡ carried_of kind locations ++ map (λ (l : Entry × List ℕ). l.1) (cond has (location ∷ []) [])
carried_more kind locations location has is =
    let test : Entry × List ℕ → Bool = λ l. carries kind l.0.kind in
    ap (map (λ (l : Entry × List ℕ). l.1)) (filter-append test locations (location ∷ []))
    ∙ map-append (λ (l : Entry × List ℕ). l.1) (filter test locations) (filter test (location ∷ []))
    ∙ ap (λ (z : Bool). carried_of kind locations ++ map (λ (l : Entry × List ℕ). l.1) (cond z (location ∷ []) [])) is

counted_more : (kind : ListKind) (entries : List Entry) (entry : Entry) (has : Bool) → carries kind entry.kind ≡ has → carried_count kind (entries ++ entry ∷ []) ≡ carried_count kind entries + length (cond has (entry ∷ []) [])
counted_more kind entries entry has is =
    let test : Entry → Bool = λ e. carries kind e.kind in
    ap length (filter-append test entries (entry ∷ [])) ∙ length-append (filter test entries) (filter test (entry ∷ []))
    ∙ ap (λ (z : Bool). carried_count kind entries + length (cond z (entry ∷ []) [])) is

-- the count up to the next entry
pub counted_next : (kind : ListKind) (entries : List Entry) (d : Entry) (i : ℕ) (has : Bool) → i < length entries → carries kind (get_or entries i d).kind ≡ has → carried_count kind (take (i + 1) entries) ≡ carried_count kind (take i entries) + cond has 1 0
counted_next kind entries d i true inside is = ap (carried_count kind) (take_more entries i d inside) ∙ counted_more kind (take i entries) (get_or entries i d) true is
counted_next kind entries d i false inside is = ap (carried_count kind) (take_more entries i d inside) ∙ counted_more kind (take i entries) (get_or entries i d) false is

pub put_none : (kind : ListKind) (expressions : List (List ℕ)) (old : List ℕ) → AreEntriesPut kind [] expressions 0 old old
put_none kind expressions old = record { locations = []; bytes = []; bare = []; of_entries = refl; of_expressions = refl; counted = refl; apart = (refl, refl); whole = sym (append-nil old) }

-- an entry that has no expression
pub put_plain : (kind : ListKind) (entries : List Entry) (entry : Entry) (expressions : List (List ℕ)) (next : ℕ) (old mid new : List ℕ) → AreEntriesPut kind entries expressions next old mid → carries kind entry.kind ≡ false → Appends (ShortestEntry kind) entry mid new → AreEntriesPut kind (entries ++ entry ∷ []) expressions next old new
put_plain kind entries entry expressions next old mid new so_far is (own, s, e) =
    let more = counted_more kind entries entry false is in
    record {
      locations = so_far.locations ++ (entry, []) ∷ [];
      bytes = so_far.bytes ++ (own ++ []);
      bare = so_far.bare ++ own;
      of_entries = map-append (λ (l : Entry × List ℕ). l.0) so_far.locations ((entry, []) ∷ []) ∙ ap (λ (z : List Entry). z ++ entry ∷ []) so_far.of_entries;
      of_expressions = carried_more kind so_far.locations (entry, []) false is ∙ append-nil (carried_of kind so_far.locations) ∙ so_far.of_expressions;
      counted = (let before : next ≡ carried_count kind entries = so_far.counted in omega (arith, before, more));
      apart = apart_more kind so_far.locations (entry, []) so_far.bytes so_far.bare own [] so_far.apart s (subst (λ (z : Bool). PutBehind z [] []) (sym is) (refl, refl));
      whole = e ∙ ap (λ z. z ++ own) so_far.whole ∙ append_assoc old so_far.bytes own ∙ ap (λ z. old ++ (so_far.bytes ++ z)) (sym (append-nil own));
    }

-- an entry that has one
pub put_carrying : (kind : ListKind) (entries : List Entry) (entry : Entry) (expressions : List (List ℕ)) (expression : List ℕ) (next : ℕ) (old mid a new : List ℕ) → AreEntriesPut kind entries expressions next old mid → carries kind entry.kind ≡ true → next < length expressions → expression ≡ get_or expressions next [] → Appends (ShortestEntry kind) entry mid a → Appends ShortestExpression expression a new → AreEntriesPut kind (entries ++ entry ∷ []) expressions (next + 1) old new
put_carrying kind entries entry expressions expression next old mid a new so_far is inside at (own, s, e) (behind, b, f) =
    let more = counted_more kind entries entry true is in
    record {
      locations = so_far.locations ++ (entry, expression) ∷ [];
      bytes = so_far.bytes ++ (own ++ behind);
      bare = so_far.bare ++ own;
      of_entries = map-append (λ (l : Entry × List ℕ). l.0) so_far.locations ((entry, expression) ∷ []) ∙ ap (λ (z : List Entry). z ++ entry ∷ []) so_far.of_entries;
      of_expressions = carried_more kind so_far.locations (entry, expression) true is ∙ ap (λ (z : List (List ℕ)). z ++ expression ∷ []) so_far.of_expressions ∙ ap (λ (z : List ℕ). take next expressions ++ z ∷ []) at ∙ sym (take_more expressions next [] inside);
      counted = (let before : next ≡ carried_count kind entries = so_far.counted in omega (arith, before, more));
      apart = apart_more kind so_far.locations (entry, expression) so_far.bytes so_far.bare own behind so_far.apart s (subst (λ (z : Bool). PutBehind z expression behind) (sym is) b);
      whole = f ∙ ap (λ z. z ++ behind) (e ∙ ap (λ z. z ++ own) so_far.whole ∙ append_assoc old so_far.bytes own) ∙ append_assoc old (so_far.bytes ++ own) behind ∙ ap (λ z. old ++ z) (append_assoc so_far.bytes own behind);
    }

-- ---- how many expressions there are

none_carried : (entries : List Entry) → carried_count Ranges entries ≡ 0
none_carried [] = refl
none_carried (entry ∷ entries) = none_carried entries

-- there are as many as the entries that have one
pub carried_all : (kind : ListKind) (entries : List Entry) (expressions : List (List ℕ)) → HasExpressions kind entries expressions → carried_count kind entries ≡ length expressions
carried_all Ranges entries expressions has = none_carried entries ∙ sym (ap length has)
carried_all Locations entries expressions has = sym has

-- those of a front are no more
counted_rises : (kind : ListKind) (entries : List Entry) (n : ℕ) → carried_count kind (take n entries) ≤ carried_count kind entries
counted_rises kind entries n =
    let test : Entry → Bool = λ e. carries kind e.kind in
    let parts : carried_count kind (take n entries ++ drop n entries) ≡ carried_count kind (take n entries) + carried_count kind (drop n entries) = ap length (filter-append test (take n entries) (drop n entries)) ∙ length-append (filter test (take n entries)) (filter test (drop n entries)) in
    let same : carried_count kind (take n entries ++ drop n entries) ≡ carried_count kind entries = ap (carried_count kind) (take-append-drop n entries) in
    omega (arith, parts, same)

-- and no more than its entries
pub counted_most : (kind : ListKind) (entries : List Entry) (n : ℕ) → n ≤ length entries → carried_count kind (take n entries) ≤ n
counted_most kind entries n within =
    let test : Entry → Bool = λ e. carries kind e.kind in
    let same = length-filter test (take n entries) in
    let few = count_by-le-length test (take n entries) in
    let size = length-take-le n entries within in
    omega (arith, same, few, size)

-- one that an entry has is among them
pub next_inside : (kind : ListKind) (entries : List Entry) (expressions : List (List ℕ)) (d : Entry) (i next : ℕ) → HasExpressions kind entries expressions → i < length entries → next ≡ carried_count kind (take i entries) → carries kind (get_or entries i d).kind ≡ true → next < length expressions
next_inside kind entries expressions d i next has inside counted is =
    let all = carried_all kind entries expressions has in
    let more = counted_next kind entries d i true inside is in
    let few = counted_rises kind entries (i + 1) in
    omega (arith, all, more, few, counted)

-- ---- the whole list

-- what stands behind an entry of a location list
shortest_behind : (kind : EntryKind) (expression bytes : List ℕ) → PutBehind (carries Locations kind) expression bytes → ShortestBehind kind expression bytes
shortest_behind BaseAddressx expression bytes b = (b, ap length b.0)
shortest_behind BaseAddress expression bytes b = (b, ap length b.0)
shortest_behind StartxEndx expression bytes b = b
shortest_behind StartxLength expression bytes b = b
shortest_behind OffsetPair expression bytes b = b
shortest_behind DefaultLocation expression bytes b = b
shortest_behind StartEnd expression bytes b = b
shortest_behind StartLength expression bytes b = b

bare_joined : (kind : ListKind) (locations : List (Entry × List ℕ)) (bytes bare : List ℕ) → PutApart kind locations bytes bare → Joined (ShortestEntry kind) (entries_of locations) bare
bare_joined kind [] bytes bare (e, f) = f
bare_joined kind (l ∷ locations) bytes bare (own, behind, rest, bare_rest, s, b, so_far, e, f) = (own, bare_rest, s, bare_joined kind locations rest bare_rest so_far, f)

-- ranges have nothing behind their entries
ranges_bare : (locations : List (Entry × List ℕ)) (bytes bare : List ℕ) → PutApart Ranges locations bytes bare → bare ≡ bytes
ranges_bare [] bytes bare (e, f) = f ∙ sym e
ranges_bare (l ∷ locations) bytes bare (own, behind, rest, bare_rest, s, b, so_far, e, f) =
    f ∙ ap (λ z. own ++ z) (ranges_bare locations rest bare_rest so_far) ∙ ap (λ z. own ++ (z ++ rest)) (sym b.0) ∙ sym e

apart_ended : (locations : List (Entry × List ℕ)) (bytes bare : List ℕ) → PutApart Locations locations bytes bare → StandApart ShortestBehind locations (bytes ++ 0 ∷ []) (bare ++ 0 ∷ [])
apart_ended [] bytes bare (e, f) = (ap (λ z. z ++ 0 ∷ []) e, ap (λ z. z ++ 0 ∷ []) (f ∙ sym e))
apart_ended (l ∷ locations) bytes bare (own, behind, rest, bare_rest, s, b, so_far, e, f) = (
  own,
  behind,
  rest ++ 0 ∷ [],
  bare_rest ++ 0 ∷ [],
  s.0,
  shortest_behind l.0.kind l.1 behind b,
  apart_ended locations rest bare_rest so_far,
  ap (λ z. z ++ 0 ∷ []) e ∙ append_assoc own (behind ++ rest) (0 ∷ []) ∙ ap (λ z. own ++ z) (append_assoc behind rest (0 ∷ [])),
  ap (λ z. z ++ 0 ∷ []) f ∙ append_assoc own bare_rest (0 ∷ []),
)

-- the entries, and the end
bare_ended : (kind : ListKind) (locations : List (Entry × List ℕ)) (entries : List Entry) (bytes bare : List ℕ) → PutApart kind locations bytes bare → entries_of locations ≡ entries → ShortestList kind entries (bare ++ 0 ∷ [])
bare_ended kind locations entries bytes bare apart is = (bare, 0 ∷ [], subst (λ (z : List Entry). Joined (ShortestEntry kind) z bare) is (bare_joined kind locations bytes bare apart), refl, refl)

shortest_with : (kind : ListKind) (locations : List (Entry × List ℕ)) (entries : List Entry) (expressions : List (List ℕ)) (bytes bare : List ℕ) → PutApart kind locations bytes bare → entries_of locations ≡ entries → carried_of kind locations ≡ expressions → ShortestWith kind entries expressions (bytes ++ 0 ∷ []) (bare ++ 0 ∷ [])
shortest_with Ranges locations entries expressions bytes bare apart is own =
    let same = ranges_bare locations bytes bare apart in
    (subst (λ z. ShortestList Ranges entries (z ++ 0 ∷ [])) same (bare_ended Ranges locations entries bytes bare apart is), ap (λ z. z ++ 0 ∷ []) same)
shortest_with Locations locations entries expressions bytes bare apart is own = (locations, is, own, apart_ended locations bytes bare apart, bare_ended Locations locations entries bytes bare apart is)

pub list_ended : (kind : ListKind) (entries : List Entry) (expressions : List (List ℕ)) (next : ℕ) (old mid new : List ℕ) → HasExpressions kind entries expressions → AreEntriesPut kind entries expressions next old mid → new ≡ mid ++ 0 ∷ [] → Appends (λ (z : List (List ℕ)) (bytes : List ℕ). (bare : List ℕ) × ShortestWith kind entries z bytes bare) expressions old new
list_ended kind entries expressions next old mid new has put e =
    let all = carried_all kind entries expressions has in
    let counted : next ≡ carried_count kind entries = put.counted in
    let own : carried_of kind put.locations ≡ expressions = put.of_expressions ∙ take_all next expressions (omega (arith, all, counted)) in
    let with : (bare : List ℕ) × ShortestWith kind entries expressions (put.bytes ++ 0 ∷ []) bare = (put.bare ++ 0 ∷ [], shortest_with kind put.locations entries expressions put.bytes put.bare put.apart put.of_entries own) in
    (put.bytes ++ 0 ∷ [], with, e ∙ ap (λ z. z ++ 0 ∷ []) put.whole ∙ append_assoc old put.bytes (0 ∷ []))

-- ---- how many bytes a list has

behind_length : (kind : EntryKind) (expression behind : List ℕ) → ShortestBehind kind expression behind → length behind ≡ cond (not (sets_base kind)) (behind_size expression) 0
behind_length BaseAddressx expression behind b = b.1
behind_length BaseAddress expression behind b = b.1
behind_length StartxEndx expression behind b = b.1
behind_length StartxLength expression behind b = b.1
behind_length OffsetPair expression behind b = b.1
behind_length DefaultLocation expression behind b = b.1
behind_length StartEnd expression behind b = b.1
behind_length StartLength expression behind b = b.1

sizes_cons : (has : Bool) (location : Entry × List ℕ) (items : List (Entry × List ℕ)) (size : ℕ) → size ≡ cond has (behind_size location.1) 0 → size + sum_by behind_size (map (λ (l : Entry × List ℕ). l.1) items) ≡ sum_by behind_size (map (λ (l : Entry × List ℕ). l.1) (cond has (location ∷ items) items))
sizes_cons true location items size is =
    let sum = sum_by-cons behind_size location.1 (map (λ (l : Entry × List ℕ). l.1) items) in
    omega (arith, is, sum)
sizes_cons false location items size is = omega (arith, is)

apart_size : (locations : List (Entry × List ℕ)) (bytes bare : List ℕ) → StandApart ShortestBehind locations bytes bare → length bytes ≡ length bare + sum_by behind_size (item_expressions locations)
apart_size [] bytes bare (e, f) = let same : length bare ≡ length bytes = ap length f in omega (arith, same)
apart_size (l ∷ locations) bytes bare (own, behind, rest, bare_rest, s, b, so_far, e, f) =
    let test : Entry × List ℕ → Bool = λ z. not (sets_base z.0.kind) in
    let before = apart_size locations rest bare_rest so_far in
    let size = sizes_cons (not (sets_base l.0.kind)) l (filter test locations) (length behind) (behind_length l.0.kind l.1 behind b) in
    let x : length bytes ≡ length own + length (behind ++ rest) = ap length e ∙ length-append own (behind ++ rest) in
    let y : length (behind ++ rest) ≡ length behind + length rest = length-append behind rest in
    let z : length bare ≡ length own + length bare_rest = ap length f ∙ length-append own bare_rest in
    omega (arith, before, size, x, y, z)

pub with_size : (kind : ListKind) (entries : List Entry) (expressions : List (List ℕ)) (bytes bare : List ℕ) → HasExpressions kind entries expressions → ShortestWith kind entries expressions bytes bare → length bytes ≡ entries_bytes entries + 1 + sum_by behind_size expressions
with_size Ranges entries expressions bytes bare has (short, same) =
    let size = shortest_lists.size Ranges entries bytes short in
    let none : sum_by behind_size expressions ≡ 0 = ap (sum_by behind_size) has in
    omega (arith, size, none)
with_size Locations entries expressions bytes bare has (locations, is, own, apart, short) =
    let size = shortest_lists.size Locations entries bare short in
    let all = apart_size locations bytes bare apart in
    let sum : sum_by behind_size (item_expressions locations) ≡ sum_by behind_size expressions = ap (sum_by behind_size) own in
    omega (arith, size, all, sum)

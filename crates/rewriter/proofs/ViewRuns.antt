-- View pairs of lists as they are to be written: with which lists they go, and how many bytes they take.
use Rattle.std.proofs.Common.{◌≡◌, ◌≢◌, ◌≤◌, ◌<◌, ◌+◌, ◌*◌, ◌^◌, ◌∙◌, ℕ, zero, suc, List, [], ◌∷◌, ◌++◌, length, map, take, drop, get_or, inl, inr, sym, ap, refl, subst, arith}
use Rattle.std.specs.List.{All, sum_by}
use Rattle.std.proofs.lemmas.Bool.{cases_lt}
use Rattle.std.proofs.lemmas.Grind.{flat_map-append}
use Rattle.std.proofs.lemmas.List.{length-map, length-take, length-drop, length-append, map-append, append-nil, take_all, get_or-map, get_or-take, get_or-drop, get_or_append_left, get_or_push, get_or_default, drop_more}
use Rattle.std.proofs.lemmas.List.Elements.{All-head, All-tail, All-get_or, All-from_get_or}
use Rattle.std.proofs.lemmas.List.Sums.{sum_by-cons, sum_by-append}
use Rattle.spelled.specs.Spelled.{Joined}
use Rattle.leb_codec.specs.Leb.{least_unsigned_len}
use Rattle.leb_codec.proofs.Lens.{least_below}
use Rattle.list_model.specs.declared.entry.ListKind.{ListKind}
use Rattle.list_model.specs.declared.entry.ListKind.TheVariants.{Ranges, Locations}
use Rattle.loc_lists.specs.declared.views.ViewPair.{ViewPair}
use Rattle.loc_lists.specs.Views.{SpellsPair}
use Rattle.list_write.specs.declared.named.NamedList.{NamedList}
use Rattle.list_write.specs.Written.{ToWrite, Run, to_write, run_of, all_runs, runs_before, run_size, pair_size, own_size, full_size}
use Rattle.list_write.specs.Written.{list_at as written_at}
use Rattle.list_arena.specs.Held.{HeldList, HeldViews}
use Rattle.value_links.specs.Reading.{ViewRead, Reading, lists_of, list_at, view_at}
use Rattle.value_links.specs.Lists.{AreViewsApart, pair_total}
use Rattle.value_links.specs.Whole.{IsReading}
use Rattle.value_links.specs.World.{World, lists_held, Holds}
use Rattle.rewriter.specs.inside.Plans.{AreViewsUpTo}
use Rattle.rewriter.specs.inside.Runs.{views_among, views_held, run_for, run_held, AreRunsWith}
use Rattle.rewriter.proofs.Links.{some_of, view_read}

-- ---- the runs of the first lists

-- the lists rise, and the runs, each of which goes with one of them, rise with these
pub record AreInOrder (lists : List HeldList) (views : List HeldViews) : Type 0 where
  pub lists_rise : (j k : ℕ) (d : HeldList) → j < k → k < length lists → (get_or lists j d).at < (get_or lists k d).at
  pub views_rise : (j k : ℕ) (d : HeldViews) → j < k → k < length views → (get_or views j d).list ≤ (get_or views k d).list
  pub among : (m : ℕ) (d : HeldViews) → m < length views → (q : ℕ) × (q < length lists) × ((e : HeldList) → (get_or lists q e).at ≡ (get_or views m d).list)

take_sum : {X : Type 0} (n m : ℕ) (xs : List X) → take (n + m) xs ≡ take n xs ++ take m (drop n xs)
take_sum zero m xs = ap (λ (z : ℕ). take z xs) (let same : zero + m ≡ m = omega arith in same)
take_sum (suc n) m [] = take_all (suc n + m) [] (omega arith) ∙ sym (take_all m [] (omega arith))
take_sum (suc n) m (x ∷ xs) = ap (λ (z : ℕ). take z (x ∷ xs)) (let same : suc n + m ≡ suc (n + m) = omega arith in same) ∙ ap (λ z. x ∷ z) (take_sum n m xs)

before_more : (lists : List ToWrite) (one : ToWrite) (k : ℕ) → k ≤ length lists → runs_before (lists ++ one ∷ []) k ≡ runs_before lists k
before_more lists one zero less = refl
before_more [] one (suc k) less = absurd (omega arith)
before_more (l ∷ lists) one (suc k) less =
    sum_by-cons (λ (list : ToWrite). length list.views) l (take k (lists ++ one ∷ []))
    ∙ ap (λ (z : ℕ). length l.views + z) (before_more lists one k (omega arith))
    ∙ sym (sum_by-cons (λ (list : ToWrite). length list.views) l (take k lists))

before_all : (lists : List ToWrite) → runs_before lists (length lists) ≡ length (all_runs lists)
before_all [] = refl
before_all (l ∷ lists) =
    sum_by-cons (λ (list : ToWrite). length list.views) l (take (length lists) lists)
    ∙ ap (λ (z : ℕ). length l.views + z) (before_all lists)
    ∙ sym (length-append l.views (all_runs lists))

module _ (lists : List HeldList) (views : List HeldViews) (order : AreInOrder lists views) where
  pub views_start : AreViewsUpTo lists views [] 0
  views_start = record { inside = omega arith; are = refl; own = λ k i d e less inside. absurd (omega arith); later = λ k m d e less least inside. absurd (omega arith) }

  module _ (named : List NamedList) (one : NamedList) (next : ℕ) (list : HeldList) (old : AreViewsUpTo lists views named next) (inside : length named < length lists) (is : list ≡ get_or lists (length named) list) (runs : AreRunsWith (drop next views) list.at one.views.items) where
    abbrev count : ℕ
    count = length one.views.items

    abbrev writes : List ToWrite
    writes = map to_write named

    new_writes : map to_write (named ++ one ∷ []) ≡ writes ++ to_write one ∷ []
    new_writes = map-append to_write named (one ∷ [])

    writes_count : length writes ≡ length named
    writes_count = length-map named to_write

    count_left : next + count ≤ length views
    count_left = omega (arith, old.inside, runs.inside, length-drop next views)

    own_count : length (to_write one).views ≡ count
    own_count = length-map one.views.items run_of

    all_are : all_runs (map to_write (named ++ one ∷ [])) ≡ map run_held (take (next + count) views)
    all_are =
        ap all_runs new_writes
        ∙ flat_map-append (λ (z : ToWrite). z.views) writes (to_write one ∷ [])
        ∙ ap (λ (z : List Run). all_runs writes ++ z) (append-nil (map run_of one.views.items))
        ∙ ap (λ (z : List Run). z ++ map run_of one.views.items) old.are
        ∙ ap (λ (z : List Run). map run_held (take next views) ++ z) runs.are
        ∙ sym (map-append run_held (take next views) (take count (drop next views)))
        ∙ sym (ap (map run_held) (take_sum next count views))

    before_is : runs_before writes (length named) ≡ next
    before_is =
        let all : runs_before writes (length writes) ≡ length (all_runs writes) = before_all writes in
        let size : length (map run_held (take next views)) ≡ length (take next views) = length-map (take next views) run_held in
        subst (λ (z : ℕ). runs_before writes z ≡ next) writes_count (omega (arith, all, ap length old.are, size, length-take next views, old.inside))

    -- a run of the new list goes with it
    run_goes : (i : ℕ) (d : HeldList) (e : HeldViews) → i < count → (get_or views (next + i) e).list ≡ (get_or lists (length named) d).at
    run_goes i d e less =
        let long : length (take count (drop next views)) ≡ count = omega (arith, length-take count (drop next views), runs.inside) in
        let goes : (get_or (take count (drop next views)) i e).list ≡ list.at = All-get_or (λ (z : HeldViews). z.list ≡ list.at) (take count (drop next views)) i e (omega (arith, long, less)) runs.same in
        let there : get_or (take count (drop next views)) i e ≡ get_or views (next + i) e = get_or-take count (drop next views) i e less ∙ get_or-drop next views i e in
        sym (ap (λ (z : HeldViews). z.list) there) ∙ goes ∙ ap (λ (z : HeldList). z.at) (is ∙ get_or_default lists (length named) list d inside)

    own_more : (k i : ℕ) (d : HeldList) (e : HeldViews) → k < length (named ++ one ∷ []) → i < length (written_at (map to_write (named ++ one ∷ [])) k).views → (get_or views (runs_before (map to_write (named ++ one ∷ [])) k + i) e).list ≡ (get_or lists k d).at
    own_more k i d e less within = subst (λ (z : List ToWrite). i < length (written_at z k).views → (get_or views (runs_before z k + i) e).list ≡ (get_or lists k d).at) (sym new_writes) by within
      where
        bound : k < length named + 1
        bound = omega (arith, less, length-append named (one ∷ []))

        by : i < length (written_at (writes ++ to_write one ∷ []) k).views → (get_or views (runs_before (writes ++ to_write one ∷ []) k + i) e).list ≡ (get_or lists k d).at
        by here = elim (cases_lt k (length named)) [
          | inl before ↦
              let known : k < length writes = omega (arith, before, writes_count) in
              let was : written_at (writes ++ to_write one ∷ []) k ≡ written_at writes k = get_or_append_left writes (to_write one ∷ []) (written_at [] 0) k known in
              let start : runs_before (writes ++ to_write one ∷ []) k ≡ runs_before writes k = before_more writes (to_write one) k (omega arith) in
              subst (λ (z : ℕ). (get_or views (z + i) e).list ≡ (get_or lists k d).at) (sym start) (old.own k i d e before (subst (λ (z : ToWrite). i < length z.views) was here))
          | inr past ↦
              let last : length named ≡ k = omega (arith, past, bound) in
              let now : written_at (writes ++ to_write one ∷ []) k ≡ to_write one = get_or_push writes (to_write one) (written_at [] 0) k (writes_count ∙ last) in
              let start : runs_before (writes ++ to_write one ∷ []) k ≡ next = before_more writes (to_write one) k (omega (arith, last, writes_count)) ∙ subst (λ (z : ℕ). runs_before writes z ≡ next) last before_is in
              let some : i < count = subst (λ (z : ℕ). i < z) own_count (subst (λ (z : ToWrite). i < length z.views) now here) in
              subst (λ (z : ℕ). (get_or views (z + i) e).list ≡ (get_or lists k d).at) (sym start) (subst (λ (z : ℕ). (get_or views (next + i) e).list ≡ (get_or lists z d).at) last (run_goes i d e some))
        ]

    -- the first run that is left goes with a list behind the new one
    left_behind : (d : HeldList) (e : HeldViews) → next + count < length views → (get_or lists (length named) d).at < (get_or views (next + count) e).list
    left_behind d e some =
        let (q, known, goes) = order.among (next + count) e some in
        let here : list.at ≡ (get_or lists (length named) d).at = ap (λ (z : HeldList). z.at) (is ∙ get_or_default lists (length named) list d inside) in
        let more : drop count (drop next views) ≡ get_or (drop next views) count e ∷ drop (count + 1) (drop next views) = drop_more (drop next views) count e (omega (arith, length-drop next views, some, old.inside)) in
        let there : get_or (drop next views) count e ≡ get_or views (next + count) e = get_or-drop next views count e in
        let apart : (get_or views (next + count) e).list ≢ list.at = λ same. runs.other (get_or (drop next views) count e) (drop (count + 1) (drop next views)) more (ap (λ (z : HeldViews). z.list) there ∙ same) in
        elim (cases_lt (length named) q) [
          | inl past ↦ (let rise : (get_or lists (length named) d).at < (get_or lists q d).at = order.lists_rise (length named) q d past known in let same : (get_or lists q d).at ≡ (get_or views (next + count) e).list = goes d in omega (arith, rise, same))
          | inr rest ↦ elim (cases_lt q (length named)) [
            | inl before ↦ (let rise : (get_or lists q d).at < (get_or views (next + count) e).list = old.later q (next + count) d e before (omega arith) some in let same : (get_or lists q d).at ≡ (get_or views (next + count) e).list = goes d in absurd (omega (arith, rise, same)))
            | inr more ↦ (let last : q ≡ length named = omega arith in absurd (apart (sym (goes d) ∙ ap (λ (z : ℕ). (get_or lists z d).at) last ∙ sym here)))
          ]
        ]

    views_later : (m : ℕ) (d : HeldList) (e : HeldViews) → next + count ≤ m → m < length views → (get_or lists (length named) d).at < (get_or views m e).list
    views_later m d e least known =
        let first = left_behind d e (omega arith) in
        elim (cases_lt (next + count) m) [
          | inl past ↦ (let rise = order.views_rise (next + count) m e past known in omega (arith, first, rise))
          | inr rest ↦ (let same : next + count ≡ m = omega arith in subst (λ (z : ℕ). (get_or lists (length named) d).at < (get_or views z e).list) same first)
        ]

    later_more : (k m : ℕ) (d : HeldList) (e : HeldViews) → k < length (named ++ one ∷ []) → next + count ≤ m → m < length views → (get_or lists k d).at < (get_or views m e).list
    later_more k m d e less least known = elim (cases_lt k (length named)) [
      | inl before ↦ old.later k m d e before (omega arith) known
      | inr past ↦ (let last : length named ≡ k = omega (arith, past, less, length-append named (one ∷ [])) in subst (λ (z : ℕ). (get_or lists z d).at < (get_or views m e).list) last (views_later m d e least known))
    ]

    -- one more list has its view pairs
    pub views_more : (new : List NamedList) → new ≡ named ++ one ∷ [] → AreViewsUpTo lists views new (next + count)
    views_more new pushed = subst (λ (z : List NamedList). AreViewsUpTo lists views z (next + count)) (sym pushed) (record { inside = count_left; are = all_are; own = own_more; later = later_more })

  -- all lists have all view pairs
  pub views_all : (named : List NamedList) (next : ℕ) → AreViewsUpTo lists views named next → length named ≡ length lists → AreViewsUpTo lists views named (length views)
  views_all named next upto count = subst (λ (z : ℕ). AreViewsUpTo lists views named z) end upto
    where
      none_left : (views_left : next < length views) → ⊥
      none_left left =
          let view : HeldViews = some_of views next left in
          let (q, known, goes) = order.among next view left in
          let list : HeldList = some_of lists q known in
          let rise : (get_or lists q list).at < (get_or views next view).list = upto.later q next list view (omega (arith, known, count)) (omega arith) left in
          let same : (get_or lists q list).at ≡ (get_or views next view).list = goes list in
          omega (arith, rise, same)

      end : next ≡ length views
      end = elim (cases_lt next (length views)) [
        | inl left ↦ absurd (none_left left)
        | inr rest ↦ omega (arith, rest, upto.inside)
      ]

-- ---- what is held

held_runs : (views : List HeldViews) → map run_for (map view_read views) ≡ map run_held views
held_runs [] = refl
held_runs (view ∷ views) = ap (λ (z : List Run). run_held view ∷ z) (held_runs views)

-- what is read of the view pairs of lists of a kind is held
among_held : {file : List ℕ} {world : World} {r : Reading} → Holds file world r → (kind : ListKind) → views_among kind r.views ≡ map view_read (views_held world kind)
among_held holds Ranges = refl
among_held holds Locations = holds.views

module _ {file : List ℕ} {world : World} {r : Reading} (holds : Holds file world r) (kind : ListKind) where
  abbrev held_lists : List HeldList
  held_lists = lists_held world kind

  abbrev held_pairs : List HeldViews
  held_pairs = views_held world kind

  abbrev pairs_read : List ViewRead
  pairs_read = views_among kind r.views

  pub pairs_count : length pairs_read ≡ length held_pairs
  pairs_count = ap length (among_held holds kind) ∙ length-map held_pairs view_read

  pub view_held : (m : ℕ) (d : HeldViews) → m < length held_pairs → view_at pairs_read m ≡ view_read (get_or held_pairs m d)
  view_held m d inside = ap (λ (z : List ViewRead). view_at z m) (among_held holds kind) ∙ get_or-map view_read held_pairs m d (view_at [] 0) inside

  list_held : (k : ℕ) (d : HeldList) → k < length held_lists → (get_or held_lists k d).at ≡ (list_at (lists_of r kind) k).at
  list_held k d inside = ((holds.lists kind).each k d (omega (arith, inside, (holds.lists kind).count))).at

  lists_order : IsReading file r → (j k : ℕ) (d : HeldList) → j < k → k < length held_lists → (get_or held_lists j d).at < (get_or held_lists k d).at
  lists_order read j k d less inside =
      let rise = (read.lists kind).rising j k less (omega (arith, inside, (holds.lists kind).count)) in
      omega (arith, rise, list_held j d (omega arith), list_held k d inside)

-- the view pairs of a kind that are read rise by their lists, which are read
apart_most : (a b : ViewRead) → AreViewsApart a b → a.list ≤ b.list
apart_most a b (inl less) = omega (arith, less)
apart_most a b (inr (same, less)) = omega (arith, same)

pairs_rise : {file : List ℕ} {r : Reading} → IsReading file r → (kind : ListKind) (j k : ℕ) → j < k → k < length (views_among kind r.views) → (view_at (views_among kind r.views) j).list ≤ (view_at (views_among kind r.views) k).list
pairs_rise read Ranges j k less inside = absurd (omega arith)
pairs_rise {file} {r} read Locations j k less inside = apart_most (view_at r.views j) (view_at r.views k) (read.views.rising j k less inside)

pairs_among : {file : List ℕ} {r : Reading} → IsReading file r → (kind : ListKind) (m : ℕ) → m < length (views_among kind r.views) → (q : ℕ) × (q < length (lists_of r kind)) × ((list_at (lists_of r kind) q).at ≡ (view_at (views_among kind r.views) m).list)
pairs_among read Ranges m inside = absurd (omega arith)
pairs_among read Locations m inside = let each = read.views.each m inside in (each.k, each.inside, each.at)

-- so what is held is in order
pub held_order : {file : List ℕ} {world : World} {r : Reading} → IsReading file r → Holds file world r → (kind : ListKind) → AreInOrder (lists_held world kind) (views_held world kind)
held_order {file} {world} {r} read holds kind = record {
  lists_rise = lists_order holds kind read;
  views_rise = λ j k d less inside.
      let there : k < length (views_among kind r.views) = omega (arith, inside, pairs_count holds kind) in
      let rise = pairs_rise read kind j k less there in
      let one = ap (λ (z : ViewRead). z.list) (view_held holds kind j d (omega arith)) in
      let other = ap (λ (z : ViewRead). z.list) (view_held holds kind k d inside) in
      omega (arith, rise, one, other);
  among = λ m d inside.
      let (q, known, goes) = pairs_among read kind m (omega (arith, inside, pairs_count holds kind)) in
      let within : q < length (lists_held world kind) = omega (arith, known, (holds.lists kind).count) in
      (q, within, λ e. list_held holds kind q e within ∙ goes ∙ ap (λ (z : ViewRead). z.list) (view_held holds kind m d inside));
}

-- what is planned for what is held is planned for what is read
module _ {file : List ℕ} {world : World} {r : Reading} (holds : Holds file world r) (kind : ListKind) (named : List NamedList) (are : AreViewsUpTo (lists_held world kind) (views_held world kind) named (length (views_held world kind))) where
  pub runs_are : all_runs (map to_write named) ≡ map run_for (views_among kind r.views)
  runs_are =
      are.are ∙ ap (map run_held) (take_all (length (views_held world kind)) (views_held world kind) (omega arith))
      ∙ sym (held_runs (views_held world kind)) ∙ ap (map run_for) (sym (among_held holds kind))

  runs_within : (lists : List ToWrite) (k i : ℕ) → k < length lists → i < length (written_at lists k).views → runs_before lists k + i < length (all_runs lists)
  runs_within [] k i known less = absurd (omega arith)
  runs_within (l ∷ lists) zero i known less = omega (arith, less, length-append l.views (all_runs lists))
  runs_within (l ∷ lists) (suc k) i known less = omega (arith, sum_by-cons (λ (list : ToWrite). length list.views) l (take k lists), length-append l.views (all_runs lists), runs_within lists k i (omega arith) less)

  pub runs_own : length named ≡ length (lists_held world kind) → (k i : ℕ) → k < length (lists_of r kind) → i < length (written_at (map to_write named) k).views → (view_at (views_among kind r.views) (runs_before (map to_write named) k + i)).list ≡ (list_at (lists_of r kind) k).at
  runs_own count k i known less =
      let writes : List ToWrite = map to_write named in
      let size : length writes ≡ length named = length-map named to_write in
      let inside : k < length named = omega (arith, known, count, (holds.lists kind).count) in
      let all : length (all_runs writes) ≡ length (views_among kind r.views) = ap length runs_are ∙ length-map (views_among kind r.views) run_for in
      let within : runs_before writes k + i < length (views_held world kind) = omega (arith, runs_within writes k i (omega (arith, inside, size)) less, all, pairs_count holds kind) in
      let view : HeldViews = some_of (views_held world kind) (runs_before writes k + i) within in
      let list : HeldList = some_of (lists_held world kind) k (omega (arith, inside, count)) in
      ap (λ (z : ViewRead). z.list) (view_held holds kind (runs_before writes k + i) view within)
      ∙ are.own k i list view inside less
      ∙ list_held holds kind k list (omega (arith, inside, count))

-- ---- sizes

pairs_most : (pairs : List ViewPair) (bytes : List ℕ) → Joined SpellsPair pairs bytes → sum_by pair_size pairs ≤ 20 * length pairs
pairs_most [] bytes none = omega arith
pairs_most (pair ∷ pairs) bytes (first, rest, (a, b, one, other, both), more, is) =
    let first_most : least_unsigned_len pair.first ≤ 10 = least_below pair.first 10 (record { some = omega arith; below = omega (arith, one.1) }) in
    let last_most : least_unsigned_len pair.last ≤ 10 = least_below pair.last 10 (record { some = omega arith; below = omega (arith, other.1) }) in
    omega (arith, sum_by-cons pair_size pair pairs, first_most, last_most, pairs_most pairs rest more)

runs_most : (views : List ViewRead) → All (λ (view : ViewRead). sum_by pair_size view.pairs ≤ 20 * length view.pairs) views → sum_by run_size (map run_for views) ≤ 20 * pair_total views
runs_most [] each = omega arith
runs_most (view ∷ views) each =
    omega (arith, sum_by-cons run_size (run_for view) (map run_for views), sum_by-cons (λ (z : ViewRead). length z.pairs) view views, All-head (λ (z : ViewRead). sum_by pair_size z.pairs ≤ 20 * length z.pairs) view views each, runs_most views (All-tail (λ (z : ViewRead). sum_by pair_size z.pairs ≤ 20 * length z.pairs) view views each))

-- the view pairs of a kind take at most twenty bytes each
among_most : {file : List ℕ} {r : Reading} → IsReading file r → (kind : ListKind) → sum_by run_size (map run_for (views_among kind r.views)) ≤ 20 * pair_total r.views
among_most read Ranges = omega arith
among_most {file} {r} read Locations = runs_most r.views (All-from_get_or (λ (z : ViewRead). sum_by pair_size z.pairs ≤ 20 * length z.pairs) r.views (view_at [] 0) (λ k inside. (let each = read.views.each k inside in pairs_most (view_at r.views k).pairs each.read.run each.read.spelled)))

-- what lists take with their view pairs
pub sizes_apart : (lists : List ToWrite) → sum_by full_size lists ≡ sum_by run_size (all_runs lists) + sum_by own_size lists
sizes_apart [] = refl
sizes_apart (l ∷ lists) = omega (arith, sum_by-cons full_size l lists, sum_by-cons own_size l lists, sum_by-append run_size l.views (all_runs lists), sizes_apart lists)

pub runs_few : {file : List ℕ} {r : Reading} → IsReading file r → (kind : ListKind) (lists : List ToWrite) → all_runs lists ≡ map run_for (views_among kind r.views) → pair_total r.views ≤ 2 ^ 24 → sum_by run_size (all_runs lists) ≤ 20 * 2 ^ 24
runs_few {file} {r} read kind lists are few =
    let most : sum_by run_size (map run_for (views_among kind r.views)) ≤ 20 * pair_total r.views = among_most read kind in
    let same : sum_by run_size (all_runs lists) ≡ sum_by run_size (map run_for (views_among kind r.views)) = ap (sum_by run_size) are in
    omega (arith, most, same, few)

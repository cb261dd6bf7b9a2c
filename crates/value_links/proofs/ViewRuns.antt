-- View pairs that are read by the places of their lists, or have a fault.
use Rattle.std.proofs.Common.{◌≡◌, ◌≤◌, ◌<◌, ◌+◌, ◌++◌, ◌∙◌, inl, inr, ℕ, suc, List, [], ◌∷◌, length, get_or, map, take, true, false, true≢false, sym, ap, subst, refl, arith}
use Rattle.std.specs.Prelude.{Result, Ok, Err, IfOk}
use Rattle.std.specs.List.{All, AllPairs, Contains, IsDistinct, sum_by}
use Rattle.std.proofs.lemmas.Bool.{cases_lt, cases_eq, cases_Bool, eq-eqb}
use Rattle.std.proofs.lemmas.Bool.Decides.{nat_tests}
use Rattle.std.proofs.lemmas.List.{get_or_append_left, get_or-map, length-map, length-append, map-append, take_more}
use Rattle.std.proofs.lemmas.List.Elements.{All-push, Contains-get_or}
use Rattle.std.proofs.lemmas.List.Sorted.{Contains-permutation, IsPermutation-sym, sum_by-IsPermutation}
use Rattle.std.proofs.lemmas.List.Sums.{get_or-le-sum_by}
use Rattle.std.proofs.lemmas.Map.Keys.{IsDistinct-IsPermutation, apart_from_distinct, IsDistinct-from_apart}
use Rattle.std.proofs.Math.Seq.{get_or-append_seam}
use Rattle.dw_base.specs.declared.fault.Kind.{Kind}
use Rattle.dw_base.specs.declared.fault.Kind.TheVariants.{Limit}
use Rattle.dw_base.specs.declared.fault.Fault.{Fault}
use Rattle.dw_base.specs.Refusals.{IsFaultOf}
use Rattle.list_model.specs.declared.contribution.Contribution.{Contribution}
use Rattle.list_model.specs.declared.entry.ListKind.TheVariants.{Locations}
use Rattle.list_model.specs.Contributions.{ContributionsTile}
use Rattle.loc_lists.specs.declared.views.ViewPair.{ViewPair}
use Rattle.loc_lists.specs.Views.{IsRunAt, FaultRun, FaultViews, view_limit}
use Rattle.list_arena.specs.Held.{HeldList, AreListsApart, HeldViews}
use Rattle.value_links.specs.declared.parts.Parts.{Parts}
use Rattle.value_links.specs.Reading.{ListSection, ListRead, ViewRead, Linkable, part_at, list_at, view_at}
use Rattle.value_links.specs.Lists.{IsNamed, AreViewsNamed, AreViewsOf, AreViewsApart, AreViewsRead, AreListsOf, pair_total}
use Rattle.value_links.specs.ListFaults.{AreViewsWanted, FaultPairs, CountedPairs, ArePairs, PairsComeBefore, pairs_at, PassesPairs, FaultOfViews}
use Rattle.value_links.specs.World.{HoldsList, HoldLists, HoldViews}
use Rattle.value_links.specs.Parts.{HoldsParts, section_held}
use Rattle.value_links.specs.inside.NamedLists.{as_read}
use Rattle.value_links.specs.inside.Views.{IsBefore, AreViewings, AreLocationsHeld, IsListFrom, raw_pairs, pairs_from, pairs_for, total_for, PassesWith, turn, AreTurned, IsRunRead, IsRunOf, run_place, AreRunsRead, IsWanted, FaultWanted}
use Rattle.value_links.proofs.ListLaws.{entries_said}
use Rattle.value_links.proofs.NamingLists.{pair_is}
use Rattle.value_links.proofs.Viewings.{same_pair, same_pair_is}
use Rattle.value_links.proofs.ViewTotals.{pairs_said, pairs_of_list, sum_map, sum_same}
use Rattle.value_links.proofs.ViewLists.{AreFollowed, IsReadAt, nth, views_list, held_apart, held_followed, list_read, have_lists, stands_with}

-- ONE RUN

-- a run that is short enough has no fault but those of its pairs
run_fault : (section : List ℕ) (part : Contribution) (at count : ℕ) (kind : Kind) (place : ℕ) → count ≤ view_limit → FaultViews section part at count kind place → FaultRun section part at count kind place
run_fault section part at count Limit place few (here, many) = absurd (omega (arith, few, many))
run_fault section part at count kind place few f = f

pairs_fault : (r : Linkable) (kind : Kind) (place : ℕ) → FaultPairs r kind place → FaultOfViews r kind place
pairs_fault r Limit place (list, at, p, count, wanted, f) = absurd f.fault
pairs_fault r kind place f = f

-- what holds of a value each, together
pub both_ok : {X Y : Type 0} (r : Result X Y) (P Q R : X → Type 0) → ((x : X) → P x → Q x → R x) → IfOk r P → IfOk r Q → IfOk r R
both_ok (Ok x) P Q R f p q = f x p q
both_ok (Err y) P Q R f p q = tt

-- the pairs of a list, where its contribution and their count are found by its number
module _ (section : ListSection) (list : HeldList) (number place count : ℕ) (part : Contribution) (same : number ≡ list.part) (is : part ≡ part_at section number) (counted : count ≡ raw_pairs list.raw) where
  pub pairs_read : (pairs : List ViewPair) → IsRunAt section.section part place pairs → length pairs ≡ count → IsRunRead section list place (record { list = list.at; at = place; pairs = pairs })
  pairs_read pairs read size = record {
    list_is = refl;
    at_is = refl;
    counted = size ∙ counted;
    read = subst (λ (z : Contribution). IsRunAt section.section z place pairs) (is ∙ ap (part_at section) same) read;
  }

  pub pairs_refused : (kind : Kind) (at : ℕ) → raw_pairs list.raw ≤ view_limit → FaultViews section.section part place count kind at → FaultRun section.section (part_at section list.part) place (raw_pairs list.raw) kind at
  pairs_refused kind at few f =
      subst (λ (z : Contribution). FaultRun section.section z place (raw_pairs list.raw) kind at) (is ∙ ap (part_at section) same)
      (subst (λ (n : ℕ). FaultRun section.section part place n kind at) counted (run_fault section.section part place count kind at (omega arith) f))

-- one more is read
pub runs_push : (section : ListSection) (lists : List HeldList) (turned : List (ℕ × ℕ)) (k place : ℕ) (d : ℕ × ℕ) (runs more : List HeldViews) (run : HeldViews) (list : HeldList) → k < length turned → more ≡ runs ++ run ∷ [] → AreRunsRead section lists (take k turned) runs → IsListFrom lists (get_or turned k d).0 list → IsRunRead section list place run → place ≡ (get_or turned k d).1 → AreRunsRead section lists (take (k + 1) turned) more
runs_push section lists turned k place d runs more run list inside e before (has, here) read there = subst (AreRunsRead section lists (take (k + 1) turned)) (sym e) (record {
  places = map-append run_place runs (run ∷ []) ∙ ap (λ (z : List (ℕ × ℕ)). z ++ run_place run ∷ []) before.places ∙ ap (λ (z : ℕ × ℕ). take k turned ++ z ∷ []) one ∙ sym (take_more turned k d inside);
  each = All-push (IsRunOf section lists) runs run before.each (list, has, subst (λ (z : ℕ). IsRunRead section list z run) (sym read.at_is) read);
})
  where
    one : run_place run ≡ get_or turned k d
    one = pair_is (run_place run) (get_or turned k d).0 (get_or turned k d).1 (read.list_is ∙ here) (read.at_is ∙ there)

-- PLACES TURNED

abbrev pairs_behind : List HeldList → ℕ × ℕ → ℕ
pairs_behind lists y = pairs_from lists y.0

module _ (viewings turned : List (ℕ × ℕ)) (are : AreTurned viewings turned) where
  pub turned_among : (y : ℕ × ℕ) → Contains turned y → Contains viewings (turn y)
  turned_among y has =
      let (k, inside, is) = Contains-permutation turned (map turn viewings) y (IsPermutation-sym (map turn viewings) turned are.moved) has in
      let size : length (map turn viewings) ≡ length viewings = length-map viewings turn in
      let there : get_or (map turn viewings) k y ≡ turn (get_or viewings k (turn y)) = get_or-map turn viewings k (turn y) y (omega arith) in
      (k, omega arith, ap turn (sym there ∙ is))

  pub among_turned : (y : ℕ × ℕ) → Contains viewings y → Contains turned (turn y)
  among_turned y (k, inside, is) =
      let size : length (map turn viewings) ≡ length viewings = length-map viewings turn in
      let there : get_or (map turn viewings) k (turn y) ≡ turn (get_or viewings k y) = get_or-map turn viewings k y (turn y) inside in
      Contains-permutation (map turn viewings) turned (turn y) are.moved (k, omega arith, there ∙ ap turn is)

  flips : (x y : ℕ × ℕ) → same_pair x y ≡ same_pair y x
  flips x y = grind (arith, nat_tests)

  differ : (x y : ℕ × ℕ) → IsBefore x y → same_pair (turn x) (turn y) ≡ false
  differ x y before = elim (cases_Bool (same_pair (turn x) (turn y))) [
    | inl same ↦
        let both : turn x ≡ turn y = same_pair_is (turn x) (turn y) same in
        let first : x.0 ≡ y.0 = ap (λ (z : ℕ × ℕ). z.1) both in
        let second : x.1 ≡ y.1 = ap (λ (z : ℕ × ℕ). z.0) both in
        elim before [ inl less ↦ absurd (omega arith) | inr more ↦ let under : x.1 < y.1 = more.1 in absurd (omega arith) ]
    | inr other ↦ other
  ]

  module _ (rising : AllPairs IsBefore viewings) where
    turned_distinct : IsDistinct same_pair turned
    turned_distinct = IsDistinct-IsPermutation same_pair flips (map turn viewings) turned are.moved (IsDistinct-from_apart same_pair (map turn viewings) (λ i j d less inside.
        let size : length (map turn viewings) ≡ length viewings = length-map viewings turn in
        let first : get_or (map turn viewings) i d ≡ turn (get_or viewings i d) = get_or-map turn viewings i d d (omega arith) in
        let second : get_or (map turn viewings) j d ≡ turn (get_or viewings j d) = get_or-map turn viewings j d d (omega arith) in
        subst (λ (z : ℕ × ℕ). same_pair z (get_or (map turn viewings) j d) ≡ false) (sym first)
        (subst (λ (z : ℕ × ℕ). same_pair (turn (get_or viewings i d)) z ≡ false) (sym second) (differ (get_or viewings i d) (get_or viewings j d) (rising i j d less (omega arith))))))

    pub turned_rise : AllPairs IsBefore turned
    turned_rise i j d less inside =
        let apart : same_pair (get_or turned i d) (get_or turned j d) ≡ false = apart_from_distinct same_pair turned i j d turned_distinct less inside in
        elim (are.order i j d less inside) [
          | inl under ↦ inl under
          | inr (same, not_behind) ↦ elim (cases_eq (get_or turned i d).1 (get_or turned j d).1) [
            | inl equal ↦
                let one : get_or turned i d ≡ get_or turned j d = pair_is (get_or turned i d) (get_or turned j d).0 (get_or turned j d).1 same equal in
                let yes : same_pair (get_or turned i d) (get_or turned j d) ≡ true = subst (λ (z : ℕ × ℕ). same_pair z (get_or turned j d) ≡ true) (sym one) (itself (get_or turned j d)) in
                absurd (true≢false (sym yes ∙ apart))
            | inr other ↦ inr (same, omega (arith, not_behind, other))
          ]
        ]
      where
        itself : (y : ℕ × ℕ) → same_pair y y ≡ true
        itself y = rw (eq-eqb y.0 y.0 refl, eq-eqb y.1 y.1 refl)

-- WHAT IS WANTED

module _ (parts : Parts) (held : List HeldList) (located : AreLocationsHeld parts held) (viewings : List (ℕ × ℕ)) (are : AreViewings located.1 viewings) (tiled : ContributionsTile (section_held parts.locations).section (section_held parts.locations).parts) where
  abbrev section : ListSection
  section = section_held parts.locations

  apart : AreListsApart held
  apart = held_apart parts held located

  few_pairs : total_for held viewings ≤ view_limit → (y : ℕ × ℕ) → Contains viewings y → (list : HeldList) → IsListFrom held y.1 list → raw_pairs list.raw ≤ view_limit
  few_pairs within y (k, inside, is) list from =
      let one : pairs_for held (get_or viewings k y) ≤ total_for held viewings = get_or-le-sum_by (pairs_for held) viewings k y inside in
      let here : pairs_for held (get_or viewings k y) ≡ pairs_for held y = ap (pairs_for held) is in
      let count : pairs_from held y.1 ≡ raw_pairs list.raw = pairs_of_list held apart y.1 list from in
      omega arith

  -- all pairs can be read that are named
  pub all_wanted : total_for held viewings ≤ view_limit → (turned : List (ℕ × ℕ)) → AreTurned viewings turned → All (IsWanted section held) turned
  all_wanted within turned turns k d inside =
      let y : ℕ × ℕ = get_or turned k d in
      let (j, j_in, is) : Contains viewings (turn y) = turned_among viewings turned turns y (Contains-get_or turned k d inside) in
      record {
        known = subst (λ (z : ℕ × ℕ). (list : HeldList) × IsListFrom held z.1 list) is (have_lists parts held located viewings are j (turn y) j_in);
        stands = stands_with parts held located viewings are tiled (turn y) (j, j_in, is);
        few = few_pairs within (turn y) (j, j_in, is);
      }

  -- whatever is read of which these are the parts
  module _ (file : List ℕ) (r : Linkable) (holds : HoldsParts file r parts) (those : AreViewings r viewings) where
    same : section ≡ r.locations
    same = holds.lists Locations

    followed : AreFollowed r.locations
    followed = subst AreFollowed same (held_followed parts held located)

    wanted : (y : ℕ × ℕ) → Contains viewings y → (list : HeldList) → IsListFrom held y.1 list → AreViewsWanted r y.1 y.0 list.part (raw_pairs list.raw)
    wanted y has list (one, here) =
        let there : IsReadAt r.locations list.part list.at list.raw = subst (λ (z : ListSection). IsReadAt z list.part list.at list.raw) same (list_read parts held located list one) in
        let (entries, said) = entries_said Locations r.locations.section (part_at r.locations list.part) list.at list.raw there.1 in
        record {
          named = those.named y has;
          read = as_read list;
          of_list = record { named = subst (IsNamed r Locations) (sym here) (inl (views_list file r holds.read followed y.1 y.0 (those.named y has))); begins = there.0; read = there.1 };
          same = here;
          holder = refl;
          entries = entries;
          said = said;
          counted = pairs_said list.raw entries said;
        }

    -- one that isn't whole
    pub wanted_fault : (turned : List (ℕ × ℕ)) → AreTurned viewings turned → (kind : Kind) (place : ℕ) → FaultWanted section held turned kind place → FaultOfViews r kind place
    wanted_fault turned turns kind place (y, has, list, from, fault) =
        pairs_fault r kind place (y.0, y.1, list.part, raw_pairs list.raw, wanted (turn y) (turned_among viewings turned turns y has) list from, subst (λ (z : ListSection). FaultRun z.section (part_at z list.part) y.1 (raw_pairs list.raw) kind place) same fault)

    -- those with which the limit is passed
    abbrev counted : ℕ × ℕ → CountedPairs
    counted y = record { list = y.1; at = y.0; count = pairs_for held y }

    are_pairs : (y : ℕ × ℕ) → Contains viewings y → ArePairs r (counted y)
    are_pairs y (k, inside, is) =
        let (list, from) = subst (λ (z : ℕ × ℕ). (list : HeldList) × IsListFrom held z.1 list) is (have_lists parts held located viewings are k y inside) in
        (list.part, subst (AreViewsWanted r y.1 y.0 list.part) (sym (pairs_of_list held apart y.1 list from)) (wanted y (k, inside, is) list from))

    module _ (rising : AllPairs IsBefore viewings) (front rest : List (ℕ × ℕ)) (last : ℕ × ℕ) (whole : viewings ≡ front ++ last ∷ rest) where
      size : length viewings ≡ length front + suc (length rest)
      size = ap length whole ∙ length-append front (last ∷ rest)

      front_is : (k : ℕ) (d : ℕ × ℕ) → k < length front → get_or viewings k d ≡ get_or front k d
      front_is k d inside = ap (λ (z : List (ℕ × ℕ)). get_or z k d) whole ∙ get_or_append_left front (last ∷ rest) d k inside

      last_is : (d : ℕ × ℕ) → get_or viewings (length front) d ≡ last
      last_is d = ap (λ (z : List (ℕ × ℕ)). get_or z (length front) d) whole ∙ get_or-append_seam front last rest d

      last_among : Contains viewings last
      last_among = (length front, omega (arith, size), last_is last)

      counted_at : (k : ℕ) (d : ℕ × ℕ) → k < length front → pairs_at (map counted front) k ≡ counted (get_or viewings k d)
      counted_at k d inside = get_or-map counted front k d (record { list = 0; at = 0; count = 0 }) inside ∙ ap counted (sym (front_is k d inside))

      count_front : length (map counted front) ≡ length front
      count_front = length-map front counted

      front_order : (j k : ℕ) → j < k → k < length (map counted front) → PairsComeBefore (pairs_at (map counted front) j) (pairs_at (map counted front) k)
      front_order j k less inside =
          let d : ℕ × ℕ = (0, 0) in
          let count : length (map counted front) ≡ length front = count_front in
          let all : length viewings ≡ length front + suc (length rest) = size in
          subst (λ (z : CountedPairs). PairsComeBefore z (pairs_at (map counted front) k)) (sym (counted_at j d (omega arith)))
          (subst (λ (z : CountedPairs). PairsComeBefore (counted (get_or viewings j d)) z) (sym (counted_at k d (omega arith))) (rising j k d less (omega arith)))

      front_each : (k : ℕ) → k < length (map counted front) → ArePairs r (pairs_at (map counted front) k) × PairsComeBefore (pairs_at (map counted front) k) (counted last)
      front_each k inside =
          let d : ℕ × ℕ = (0, 0) in
          let count : length (map counted front) ≡ length front = count_front in
          let all : length viewings ≡ length front + suc (length rest) = size in
          let before : IsBefore (get_or viewings k d) last = subst (IsBefore (get_or viewings k d)) (last_is d) (rising k (length front) d (omega arith) (omega arith)) in
          subst (λ (z : CountedPairs). ArePairs r z × PairsComeBefore z (counted last)) (sym (counted_at k d (omega arith)))
          (are_pairs (get_or viewings k d) (Contains-get_or viewings k d (omega arith)), before)

      not_both : (x y : ℕ × ℕ) → IsBefore x y → IsBefore y x → ⊥
      not_both x y (inl a) (inl b) = omega arith
      not_both x y (inl a) (inr (b, e)) = omega arith
      not_both x y (inr (a, e)) (inl b) = omega arith
      not_both x y (inr (a, e)) (inr (b, f)) = omega arith

      front_all : (list at : ℕ) → AreViewsNamed r list at → IsBefore (at, list) last → (k : ℕ) × (k < length (map counted front)) × ((pairs_at (map counted front) k).list ≡ list) × ((pairs_at (map counted front) k).at ≡ at)
      front_all list at named before =
          let (k, inside, is) = those.all list at named in
          let count : length (map counted front) ≡ length front = count_front in
          elim (cases_lt k (length front)) [
            | inl under ↦
                let here : pairs_at (map counted front) k ≡ counted (at, list) = counted_at k (at, list) under ∙ ap counted is in
                (k, omega arith, ap (λ (z : CountedPairs). z.list) here, ap (λ (z : CountedPairs). z.at) here)
            | inr over ↦ elim (cases_eq k (length front)) [
              | inl same_place ↦
                  let equal : (at, list) ≡ last = sym is ∙ ap (λ (z : ℕ). get_or viewings z (at, list)) same_place ∙ last_is (at, list) in
                  absurd (not_both last last (subst (λ (z : ℕ × ℕ). IsBefore z last) equal before) (subst (λ (z : ℕ × ℕ). IsBefore z last) equal before))
              | inr other ↦
                  let behind : IsBefore (get_or viewings (length front) (at, list)) (get_or viewings k (at, list)) = rising (length front) k (at, list) (omega (arith, over, other)) inside in
                  absurd (not_both last (at, list) (subst (λ (z : ℕ × ℕ). IsBefore z (at, list)) (last_is (at, list)) (subst (IsBefore (get_or viewings (length front) (at, list))) is behind)) before)
            ]
          ]

    pub passes_fault : AllPairs IsBefore viewings → (origin : ℕ) (fault : Fault) → PassesWith viewings held origin fault → IsFaultOf (FaultOfViews r) origin fault
    passes_fault rising origin fault p = (p.viewing.0, p.here, subst (λ (z : Kind). FaultOfViews r z p.viewing.0) (sym p.kind) passes)
      where
        total : sum_by (λ (c : CountedPairs). c.count) (map counted p.front) ≡ total_for held p.front
        total = sum_map (λ (c : CountedPairs). c.count) counted p.front

        passes : PassesPairs r p.viewing.0
        passes = record {
          last = counted p.viewing;
          wanted = are_pairs p.viewing (last_among rising p.front p.rest p.viewing p.parts);
          front = map counted p.front;
          order = front_order rising p.front p.rest p.viewing p.parts;
          each = front_each rising p.front p.rest p.viewing p.parts;
          all = front_all rising p.front p.rest p.viewing p.parts;
          within = subst (λ (n : ℕ). n ≤ view_limit) (sym total) p.within;
          past = subst (λ (n : ℕ). view_limit < n + pairs_for held p.viewing) (sym total) p.past;
          here = refl;
        }

    -- those that are read, by the places of their lists
    module _ (rising : AllPairs IsBefore viewings) (turned : List (ℕ × ℕ)) (turns : AreTurned viewings turned) (runs : List HeldViews) (all : AreRunsRead section held turned runs) where
      abbrev as_views : HeldViews → ViewRead
      as_views run = record { list = run.list; at = run.at; pairs = run.pairs }

      run_count : length runs ≡ length turned
      run_count = sym (length-map runs run_place) ∙ ap length all.places

      view_count : length (map as_views runs) ≡ length runs
      view_count = length-map runs as_views

      view_is : (k : ℕ) (x : HeldViews) → k < length runs → get_or runs k x ≡ x → view_at (map as_views runs) k ≡ as_views x
      view_is k x inside is = get_or-map as_views runs k x (record { list = 0; at = 0; pairs = [] }) inside ∙ ap as_views is

      place_is : (k : ℕ) (x : HeldViews) (d : ℕ × ℕ) → k < length runs → get_or runs k x ≡ x → get_or turned k d ≡ run_place x
      place_is k x d inside is = ap (λ (z : List (ℕ × ℕ)). get_or z k d) (sym all.places) ∙ get_or-map run_place runs k x d inside ∙ ap run_place is

      views_rise : (j k : ℕ) → j < k → k < length (map as_views runs) → AreViewsApart (view_at (map as_views runs) j) (view_at (map as_views runs) k)
      views_rise j k less inside =
          let count : length (map as_views runs) ≡ length runs = view_count in
          let same_count : length runs ≡ length turned = run_count in
          let k_in : k < length runs = omega arith in
          let j_in : j < length runs = omega arith in
          let (x, x_is) = nth runs j j_in in
          let (y, y_is) = nth runs k k_in in
          let d : ℕ × ℕ = (0, 0) in
          let before : IsBefore (get_or turned j d) (get_or turned k d) = turned_rise viewings turned turns rising j k d less (omega arith) in
          let apart_there : AreViewsApart (as_views x) (as_views y) = subst (λ (z : ℕ × ℕ). IsBefore z (run_place y)) (place_is j x d j_in x_is) (subst (IsBefore (get_or turned j d)) (place_is k y d k_in y_is) before) in
          subst (λ (z : ViewRead). AreViewsApart z (view_at (map as_views runs) k)) (sym (view_is j x j_in x_is)) (subst (AreViewsApart (as_views x)) (sym (view_is k y k_in y_is)) apart_there)

      views_all : (list at : ℕ) → AreViewsNamed r list at → (k : ℕ) × (k < length (map as_views runs)) × ((view_at (map as_views runs) k).list ≡ list) × ((view_at (map as_views runs) k).at ≡ at)
      views_all list at named =
          let (k, inside, is) : Contains turned (list, at) = among_turned viewings turned turns (at, list) (those.all list at named) in
          let count : length (map as_views runs) ≡ length runs = view_count in
          let same_count : length runs ≡ length turned = run_count in
          let k_in : k < length runs = omega arith in
          let (x, x_is) = nth runs k k_in in
          let place : run_place x ≡ (list, at) = sym (place_is k x (list, at) k_in x_is) ∙ is in
          let view : view_at (map as_views runs) k ≡ as_views x = view_is k x k_in x_is in
          (k, omega arith, ap (λ (z : ViewRead). z.list) view ∙ ap (λ (z : ℕ × ℕ). z.0) place, ap (λ (z : ViewRead). z.at) view ∙ ap (λ (z : ℕ × ℕ). z.1) place)

      module _ (lists : List ListRead) (lists_are : AreListsOf r Locations lists) (hold : HoldLists r Locations lists held) where
        run_read : (x : HeldViews) → Contains runs x → AreViewsOf r lists (as_views x)
        run_read x (k, inside, is) =
            let (list, has, read) : IsRunOf section held x = subst (IsRunOf section held) is (all.each k x inside) in
            let (j, j_in, j_is) : Contains held list = has in
            let same_count : length runs ≡ length turned = run_count in
            let held_count : length held ≡ length lists = hold.count in
            let among : Contains turned (run_place x) = (k, omega arith, place_is k x (run_place x) inside is) in
            let j_known : j < length lists = omega arith in
            let h : HoldsList r Locations (list_at lists j) list = subst (HoldsList r Locations (list_at lists j)) j_is (hold.each j list j_known) in
            let (entries, said) = entries_said Locations r.locations.section (part_at r.locations (list_at lists j).part) (list_at lists j).at (list_at lists j).raws (lists_are.each j j_known).read in
            let there : IsRunAt r.locations.section (part_at r.locations list.part) x.at x.pairs = subst (λ (z : ListSection). IsRunAt z.section (part_at z list.part) x.at x.pairs) same read.read in
            record {
              named = those.named (turn (run_place x)) (turned_among viewings turned turns (run_place x) among);
              k = j;
              inside = j_known;
              at = sym h.at ∙ sym read.list_is;
              entries = entries;
              said = said;
              counted = read.counted ∙ ap raw_pairs h.raws ∙ pairs_said (list_at lists j).raws entries said;
              read = subst (λ (z : ℕ). IsRunAt r.locations.section (part_at r.locations z) x.at x.pairs) h.part there;
            }

        pub views_read : AreViewsRead r lists (map as_views runs)
        views_read = record { rising = views_rise; each = each; all = views_all }
          where
            each : (k : ℕ) → k < length (map as_views runs) → AreViewsOf r lists (view_at (map as_views runs) k)
            each k inside =
                let count : length (map as_views runs) ≡ length runs = view_count in
                let k_in : k < length runs = omega arith in
                let (x, is) = nth runs k k_in in
                subst (AreViewsOf r lists) (sym (view_is k x k_in is)) (run_read x (k, k_in, is))

      pub views_total : total_for held viewings ≤ view_limit → pair_total (map as_views runs) ≤ view_limit
      views_total within = subst (λ (n : ℕ). n ≤ view_limit) (sym total) within
        where
          counts : All (λ (run : HeldViews). length run.pairs ≡ pairs_from held run.list) runs
          counts k d inside =
              let (list, has, read) = all.each k d inside in
              read.counted ∙ sym (pairs_of_list held apart (get_or runs k d).list list (has, sym read.list_is))

          total : pair_total (map as_views runs) ≡ total_for held viewings
          total =
              sum_map (λ (view : ViewRead). length view.pairs) as_views runs
              ∙ sum_same (λ (run : HeldViews). length run.pairs) (λ (run : HeldViews). pairs_from held run.list) runs counts
              ∙ sym (sum_map (pairs_behind held) run_place runs)
              ∙ ap (λ (z : List (ℕ × ℕ)). sum_by (pairs_behind held) z) all.places
              ∙ sum_by-IsPermutation (pairs_behind held) (map turn viewings) turned turns.moved
              ∙ sum_map (pairs_behind held) turn viewings

      pub views_are : total_for held viewings ≤ view_limit → (lists : List ListRead) → AreListsOf r Locations lists → HoldLists r Locations lists held → (views : List ViewRead) × AreViewsRead r lists views × HoldViews views runs × (pair_total views ≤ view_limit)
      views_are within lists lists_are hold = (map as_views runs, views_read lists lists_are hold, refl, views_total within)

-- The slot whose number is that of a place of the unit counts the slots that stand before the place.
use Rattle.std.proofs.Common.{◌≡◌, ◌≤◌, ◌<◌, ◌+◌, ◌-◌, ℕ, zero, suc, List, [], ◌++◌, length, get_or, take, sum, ◌∙◌, sym, ap, refl, subst, arith, inl, inr, ltb, true, false}
use Rattle.std.specs.Prelude.{slice_range}
use Rattle.std.specs.List.Sorted.{IsNonDecreasingBy, IsPartitionPoint}
use Rattle.std.proofs.lemmas.Bool.{cases_lt}
use Rattle.std.proofs.lemmas.Bool.Decides.{nat_tests}
use Rattle.std.proofs.lemmas.List.{get_or_default, get_or-map, take-append-le}
use Rattle.leb_codec.specs.Layout.{SlotForm}
use Rattle.expr_ops.specs.Expressions.{Operation}
use Rattle.entry_arena.specs.declared.entry.Entry.{Entry}
use Rattle.entry_arena.specs.declared.entry.ChainEnd.{ChainEnd}
use Rattle.entry_arena.specs.declared.entry.Target.{Target}
use Rattle.entry_arena.specs.declared.entry.Target.TheVariants.{Entry as TheEntry, ChainEnd as TheEnd}
use Rattle.entry_arena.specs.Arena.{Arena, entry_at, chain_end_at}
use Rattle.entry_arena.specs.Order.{IsInOrder}
use Rattle.entry_read.specs.declared.head.UnitHead.{UnitHead}
use Rattle.entry_read.specs.Slots.{slots_before, AreValuesBefore, IsPlaceRow}
use Rattle.entry_read.specs.Units.{HeadAndForest}
use Rattle.value_links.specs.Linked.{IsTargetAt}
use Rattle.unit_slots.specs.inside.Rows.{AreSpots, IsThere, entry_places}
use Rattle.unit_slots.proofs.RowAims.{slots_up}

-- entries stand in the order of their places
places_rise : (f : Arena) → IsInOrder f → IsNonDecreasingBy (λ (e : Entry). e.at) f.entries
places_rise f order i j d le inside = elim (cases_lt i j) [
  | inl less ↦
      let first : get_or f.entries i d ≡ entry_at f.entries i = get_or_default f.entries i d (entry_at [] 0) (omega arith) in
      let last : get_or f.entries j d ≡ entry_at f.entries j = get_or_default f.entries j d (entry_at [] 0) inside in
      let rise : (entry_at f.entries i).at + (entry_at f.entries i).len ≤ (entry_at f.entries j).at = order.entered.rising i j less inside in
      omega (arith, ap (λ (e : Entry). e.at) first, ap (λ (e : Entry). e.at) last)
  | inr most ↦
      let same : j ≡ i = omega arith in
      let places : (get_or f.entries j d).at ≡ (get_or f.entries i d).at = ap (λ (k : ℕ). (get_or f.entries k d).at) same in
      omega arith
]

-- the entries before a place are the first so many
pub record AreBefore (f : Arena) (place count : ℕ) : Type 0 where
  pub inside : count ≤ length f.entries
  pub before : (id : ℕ) → id < count → (entry_at f.entries id).at < place
  pub behind : (id : ℕ) → count ≤ id → id < length f.entries → place ≤ (entry_at f.entries id).at

are_before : (f : Arena) (place count : ℕ) → count ≤ length f.entries → IsPartitionPoint (λ (e : Entry). ltb e.at place ≡ true) (λ (e : Entry). ltb e.at place ≡ false) f.entries count → AreBefore f place count
are_before f place count inside point = record {
  inside = inside;
  before = λ id lt.
      let here : ltb (entry_at f.entries id).at place ≡ true = point.0 id (entry_at [] 0) (omega arith) lt in
      grind (arith, nat_tests);
  behind = λ id le lt.
      let here : ltb (entry_at f.entries id).at place ≡ false = point.1 id (entry_at [] 0) le lt in
      grind (arith, nat_tests);
}

module _ (f : Arena) (order : IsInOrder f) where
  -- an entry that begins before a thing of the unit ends before it
  ends_before : (target : Target) (place b : ℕ) → IsTargetAt f target place → b < length f.entries → (entry_at f.entries b).at < place → (entry_at f.entries b).at + (entry_at f.entries b).len ≤ place
  ends_before (TheEntry id) place b (inside, is) lt less = elim (cases_lt b id) [
    | inl first ↦ let rise : (entry_at f.entries b).at + (entry_at f.entries b).len ≤ (entry_at f.entries id).at = order.entered.rising b id first inside in omega (arith, is)
    | inr most ↦
        let fall : (entry_at f.entries id).at ≤ (entry_at f.entries b).at = places_rise f order id b (entry_at [] 0) (omega arith) lt in
        omega (arith, is)
  ]
  ends_before (TheEnd id) place b (i, inside, is) lt less =
      let at : (chain_end_at f.ends i).at ≡ place = ap (λ (e : ChainEnd). e.at) is in
      elim (order.apart b i lt inside) [
        | inl early ↦ omega (arith, at)
        | inr late ↦ omega (arith, at)
      ]

  some_entry : (target : Target) (place : ℕ) → IsTargetAt f target place → 0 < length f.entries
  some_entry (TheEntry id) place (inside, is) = omega (arith, inside)
  some_entry (TheEnd id) place (i, inside, is) = let owned = order.ended.owned i inside in omega (arith, owned)

  firsts_rise : (i more : ℕ) → i + more < length f.entries → (entry_at f.entries i).first ≤ (entry_at f.entries (i + more)).first
  firsts_rise i zero inside =
      let same : (entry_at f.entries (i + 0)).first ≡ (entry_at f.entries i).first = ap (λ (k : ℕ). (entry_at f.entries k).first) (let e : i + 0 ≡ i = omega arith in e) in
      omega arith
  firsts_rise i (suc more) inside =
      let rest : (entry_at f.entries i).first ≤ (entry_at f.entries (i + more)).first = firsts_rise i more (omega arith) in
      let next : (entry_at f.entries (i + more + 1)).first ≡ (entry_at f.entries (i + more)).first + (entry_at f.entries (i + more)).count = order.valued.adjacent (i + more) (omega arith) in
      let same : (entry_at f.entries (i + more + 1)).first ≡ (entry_at f.entries (i + suc more)).first = ap (λ (k : ℕ). (entry_at f.entries k).first) (let e : i + more + 1 ≡ i + suc more = omega arith in e) in
      omega arith

  -- the values of an entry end before those of a later one begin
  firsts_after : (i j : ℕ) → i < j → j < length f.entries → (entry_at f.entries i).first + (entry_at f.entries i).count ≤ (entry_at f.entries j).first
  firsts_after i j less inside =
      let next : (entry_at f.entries (i + 1)).first ≡ (entry_at f.entries i).first + (entry_at f.entries i).count = order.valued.adjacent i (omega arith) in
      let rise : (entry_at f.entries (i + 1)).first ≤ (entry_at f.entries (i + 1 + (j - (i + 1)))).first = firsts_rise (i + 1) (j - (i + 1)) (omega arith) in
      let same : (entry_at f.entries (i + 1 + (j - (i + 1)))).first ≡ (entry_at f.entries j).first = ap (λ (k : ℕ). (entry_at f.entries k).first) (let e : i + 1 + (j - (i + 1)) ≡ j = omega arith in e) in
      omega arith

  place_is : (id : ℕ) → id < length f.entries → get_or (entry_places f) id 0 ≡ (entry_at f.entries id).at
  place_is id inside = get_or-map (λ (e : Entry). e.at) f.entries id (entry_at [] 0) 0 inside

  module _ (place count : ℕ) (h : AreBefore f place count) where
    -- the values of the entries before a place
    pub record ValuesOf (values : ℕ) : Type 0 where
      pub next : count < length f.entries → values ≡ (entry_at f.entries count).first
      pub last : count ≡ length f.entries → values ≡ length f.values

    values_before : (values : ℕ) → ValuesOf values → AreValuesBefore f (entry_places f) place values
    values_before values are = elim (cases_lt count (length f.entries)) [
      | inl more ↦
          let is : values ≡ (entry_at f.entries count).first = are.next more in
          let all : (entry_at f.entries count).first + (entry_at f.entries count).count ≤ length f.values = order.valued.inside count more in
          record {
            few = omega arith;
            before = λ id inside less.
                let at : get_or (entry_places f) id 0 ≡ (entry_at f.entries id).at = place_is id inside in
                elim (cases_lt id count) [
                  | inl first ↦ let after = firsts_after id count first more in omega arith
                  | inr most ↦ let past = h.behind id most inside in absurd (omega arith)
                ];
            behind = λ id inside past.
                let at : get_or (entry_places f) id 0 ≡ (entry_at f.entries id).at = place_is id inside in
                elim (cases_lt id count) [
                  | inl first ↦ let less = h.before id first in absurd (omega arith)
                  | inr most ↦
                      let rise : (entry_at f.entries count).first ≤ (entry_at f.entries (count + (id - count))).first = firsts_rise count (id - count) (omega arith) in
                      let same : (entry_at f.entries (count + (id - count))).first ≡ (entry_at f.entries id).first = ap (λ (k : ℕ). (entry_at f.entries k).first) (let e : count + (id - count) ≡ id = omega arith in e) in
                      omega arith
                ];
          }
      | inr most ↦
          let few : count ≤ length f.entries = h.inside in
          let is : values ≡ length f.values = are.last (omega arith) in
          record {
            few = omega arith;
            before = λ id inside less. let own = order.valued.inside id inside in omega arith;
            behind = λ id inside past.
                let at : get_or (entry_places f) id 0 ≡ (entry_at f.entries id).at = place_is id inside in
                let less = h.before id (omega arith) in
                absurd (omega arith);
          }
    ]

-- the sizes of the first slots are the same where others follow
front_sum : (own listed : List ℕ) (to : ℕ) → to ≤ length own → sum (slice_range (own ++ listed) 0 to) ≡ sum (take to own)
front_sum own listed to few = ap (λ (n : ℕ). sum (take n (own ++ listed))) (let e : to - 0 ≡ to = omega arith in e) ∙ ap sum (take-append-le to own listed few)

module _ (unit : HeadAndForest) (ops : ℕ → List Operation) (own starts totals : List ℕ) (spots : AreSpots unit ops own starts totals) (order : IsInOrder unit.forest) (count : ℕ) where
  -- how many values stand before the first so many entries' end
  some_values : count ≤ length unit.forest.entries → (values : ℕ) × (values ≤ length unit.forest.values) × (get_or starts count 0 ≡ slots_before unit.forest ops values) × (count < length unit.forest.entries → values ≡ (entry_at unit.forest.entries count).first) × (count ≡ length unit.forest.entries → values ≡ length unit.forest.values)
  some_values inside = elim (cases_lt count (length unit.forest.entries)) [
    | inl more ↦
        let all : (entry_at unit.forest.entries count).first + (entry_at unit.forest.entries count).count ≤ length unit.forest.values = order.valued.inside count more in
        ((entry_at unit.forest.entries count).first, omega arith, spots.begin.each count more, (λ lt. refl), (λ same. absurd (omega arith)))
    | inr most ↦
        let same : count ≡ length unit.forest.entries = omega arith in
        (length unit.forest.values, omega arith, ap (λ (k : ℕ). get_or starts k 0) same ∙ spots.begin.last, (λ lt. absurd (omega arith)), (λ e. refl))
  ]

  -- no more slots are counted than there are
  start_inside : count ≤ length unit.forest.entries → get_or starts count 0 ≤ length own
  start_inside inside =
      let v = some_values inside in
      let up : slots_before unit.forest ops v.0 ≤ slots_before unit.forest ops (length unit.forest.values) = slots_up unit.forest ops v.0 (length unit.forest.values) v.1 in
      let is : get_or starts count 0 ≡ slots_before unit.forest ops v.0 = v.2 in
      let whole : length own ≡ slots_before unit.forest ops (length unit.forest.values) = spots.begin.whole in
      omega arith

  module _ (n : ℕ) (there : IsThere unit n) (h : AreBefore unit.forest (unit.head.at + n) count) where
    -- the slots before a place have no more bytes than stand before it
    sum_fits : sum (take (get_or starts count 0) own) ≤ n
    sum_fits = by count refl
      where
        by : (c : ℕ) → c ≡ count → sum (take (get_or starts count 0) own) ≤ n
        by zero is =
            let some : 0 < length unit.forest.entries = some_entry unit.forest order there.0 (unit.head.at + n) there.1 in
            let first : (entry_at unit.forest.entries 0).first ≡ 0 = order.valued.first some in
            let start : get_or starts 0 0 ≡ slots_before unit.forest ops (entry_at unit.forest.entries 0).first = spots.begin.each 0 some in
            let none : get_or starts count 0 ≡ 0 = ap (λ (k : ℕ). get_or starts k 0) (sym is) ∙ start ∙ ap (slots_before unit.forest ops) first in
            let nothing : sum (take (get_or starts count 0) own) ≡ 0 = ap (λ (k : ℕ). sum (take k own)) none in
            omega arith
        by (suc b) is =
            let few : count ≤ length unit.forest.entries = h.inside in
            let inside : b < length unit.forest.entries = omega (arith, is) in
            let room : unit.head.at + sum (take (get_or starts (suc b) 0) own) ≤ (entry_at unit.forest.entries b).at + (entry_at unit.forest.entries b).len = spots.begin.room b inside in
            let ends : (entry_at unit.forest.entries b).at + (entry_at unit.forest.entries b).len ≤ unit.head.at + n = ends_before unit.forest order there.0 (unit.head.at + n) b there.1 inside (h.before b (omega (arith, is))) in
            let same : sum (take (get_or starts (suc b) 0) own) ≡ sum (take (get_or starts count 0) own) = ap (λ (k : ℕ). sum (take (get_or starts k 0) own)) is in
            omega arith

    place_row : (listed : List ℕ) (form : SlotForm) (fixed to : ℕ) → to ≡ get_or starts count 0 → fixed ≡ n - get_or totals to 0 → IsPlaceRow unit.forest ops (entry_places unit.forest) (own ++ listed) unit.head.at (unit.head.at + n) form (record { form = form; fixed = fixed; from = 0; to = to })
    place_row listed form fixed to is fixed_is =
        let inside : get_or starts count 0 ≤ length own = start_inside h.inside in
        let v = some_values h.inside in
        let total : get_or totals to 0 ≡ sum (take to own) = spots.sums.each to (omega (arith, is)) in
        let fits : sum (take (get_or starts count 0) own) ≤ n = sum_fits in
        let same : sum (take to own) ≡ sum (take (get_or starts count 0) own) = ap (λ (k : ℕ). sum (take k own)) is in
        let front : sum (slice_range (own ++ listed) 0 to) ≡ sum (take to own) = front_sum own listed to (omega (arith, is)) in
        record {
          form_is = refl;
          from = refl;
          values = v.0;
          before = values_before unit.forest order (unit.head.at + n) count h v.0 (record { next = v.3; last = v.4 });
          to = is ∙ v.2;
          number = omega arith;
        }

-- what a search among the entries of a unit finds
pub record IsFound (unit : HeadAndForest) (n count : ℕ) : Type 0 where
  pub order : IsInOrder unit.forest
  pub before : AreBefore unit.forest (unit.head.at + n) count

pub is_found : (unit : HeadAndForest) (forest : Arena) (entries : List Entry) (head : UnitHead) (n count : ℕ) → forest ≡ unit.forest → entries ≡ forest.entries → head ≡ unit.head → IsInOrder forest → count ≤ length entries → (IsNonDecreasingBy (λ (e : Entry). e.at) entries → IsPartitionPoint (λ (e : Entry). ltb e.at (head.at + n) ≡ true) (λ (e : Entry). ltb e.at (head.at + n) ≡ false) entries count) → IsFound unit n count
is_found unit forest entries head n count forest_is entries_are head_is order bound parted =
    let same : entries ≡ unit.forest.entries = entries_are ∙ ap (λ (f : Arena). f.entries) forest_is in
    let in_order : IsInOrder unit.forest = subst IsInOrder forest_is order in
    let rise : IsNonDecreasingBy (λ (e : Entry). e.at) entries = subst (IsNonDecreasingBy (λ (e : Entry). e.at)) (sym same) (places_rise unit.forest in_order) in
    let point = subst (λ (h : UnitHead). IsPartitionPoint (λ (e : Entry). ltb e.at (h.at + n) ≡ true) (λ (e : Entry). ltb e.at (h.at + n) ≡ false) entries count) head_is (parted rise) in
    record {
      order = in_order;
      before = are_before unit.forest (unit.head.at + n) count (subst (λ (z : List Entry). count ≤ length z) same bound) (subst (λ (z : List Entry). IsPartitionPoint (λ (e : Entry). ltb e.at (unit.head.at + n) ≡ true) (λ (e : Entry). ltb e.at (unit.head.at + n) ≡ false) z count) same point);
    }

module _ (unit : HeadAndForest) (ops : ℕ → List Operation) (own starts totals : List ℕ) (spots : AreSpots unit ops own starts totals) (n count : ℕ) (found : IsFound unit n count) (start : ℕ) (read : start ≡ get_or starts count start) where
  start_is : start ≡ get_or starts count 0
  start_is =
      let few : count ≤ length unit.forest.entries = found.before.inside in
      let counted : length starts ≡ suc (length unit.forest.entries) = spots.begin.counted in
      read ∙ get_or_default starts count start 0 (omega arith)

  pub slot_inside : start ≤ length own
  slot_inside =
      let inside = start_inside unit ops own starts totals spots found.order count found.before.inside in
      let is = start_is in
      omega (arith, inside, is)

  pub slot_summed : start < length totals
  slot_summed =
      let inside = slot_inside in
      let counted : length totals ≡ suc (length own) = spots.sums.counted in
      omega (arith, inside)

  module _ (total : ℕ) (total_read : total ≡ get_or totals start total) where
    total_is : total ≡ get_or totals start 0
    total_is = total_read ∙ get_or_default totals start total 0 slot_summed

    pub slot_fits : IsThere unit n → total ≤ n
    slot_fits there =
        let fits : sum (take (get_or starts count 0) own) ≤ n = sum_fits unit ops own starts totals spots found.order count n there found.before in
        let each : get_or totals start 0 ≡ sum (take start own) = spots.sums.each start slot_inside in
        let same : sum (take start own) ≡ sum (take (get_or starts count 0) own) = ap (λ (k : ℕ). sum (take k own)) start_is in
        let is = total_is in
        omega (arith, is)

    pub slot_row : IsThere unit n → (listed : List ℕ) (form : SlotForm) → IsPlaceRow unit.forest ops (entry_places unit.forest) (own ++ listed) unit.head.at (unit.head.at + n) form (record { form = form; fixed = n - total; from = 0; to = start })
    slot_row there listed form = place_row unit ops own starts totals spots found.order count n there found.before listed form (n - total) start start_is (ap (λ (z : ℕ). n - z) total_is)

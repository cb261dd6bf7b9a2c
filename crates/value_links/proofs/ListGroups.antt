-- Namings in their order, cut into those of one list after the other.
use Rattle.std.proofs.Common.{◌≡◌, ◌≢◌, ◌≤◌, ◌<◌, ◌+◌, ◌-◌, ◌∙◌, ◌++◌, inl, inr, ℕ, List, [], ◌∷◌, length, get_or, take, drop, map, sym, ap, subst, arith}
use Rattle.std.specs.List.{All, Contains}
use Rattle.std.proofs.lemmas.Bool.{cases_lt}
use Rattle.std.proofs.lemmas.List.{length-take-le, length-drop, get_or-take, get_or-drop, get_or_default, map-append, take_all}
use Rattle.std.proofs.lemmas.List.Elements.{All-push, All-take, All-drop, Contains-get_or, Contains-append_left, Contains-push, Contains-push_cases}
use Rattle.std.proofs.lemmas.List.Quantifiers.{all_pairs_push}
use Rattle.std.proofs.lemmas.List.Sums.{sum_by_push}
use Rattle.dw_base.specs.declared.fault.Reach.{Reach}
use Rattle.list_model.specs.declared.context.Context.{Context}
use Rattle.list_model.specs.declared.entry.ListKind.{ListKind}
use Rattle.list_model.specs.declared.entry.RawEntry.{RawEntry}
use Rattle.list_arena.specs.Held.{HeldList}
use Rattle.value_links.specs.declared.lists.ListTotals.{ListTotals}
use Rattle.value_links.specs.Reading.{ListSection, ListRead}
use Rattle.value_links.specs.ListFaults.{list_total, expression_bytes}
use Rattle.value_links.specs.inside.Namings.{first_naming, IsNotBehind, AreInOrder}
use Rattle.value_links.specs.inside.NamedLists.{AreNamingsAt, IsReadBy, as_read, IsReadAmong, AreCounted, AreFew, IsNextTotal, AreReadUpTo, IsNext}

abbrev none : ℕ × ℕ
none = (0, 0)

-- ELEMENTS OF PARTS

has_front : (xs : List (ℕ × ℕ)) (n : ℕ) (y : ℕ × ℕ) → n ≤ length xs → Contains (take n xs) y → (k : ℕ) × (k < n) × (get_or xs k none ≡ y)
has_front xs n y fits (k, inside, e) =
    let size : length (take n xs) ≡ n = length-take-le n xs fits in
    (k, omega arith, sym (get_or-take n xs k none (omega arith)) ∙ get_or_default (take n xs) k none y inside ∙ e)

front_has : (xs : List (ℕ × ℕ)) (n k : ℕ) → n ≤ length xs → k < n → Contains (take n xs) (get_or xs k none)
front_has xs n k fits less =
    let size : length (take n xs) ≡ n = length-take-le n xs fits in
    subst (Contains (take n xs)) (get_or-take n xs k none less) (Contains-get_or (take n xs) k none (omega arith))

has_back : (xs : List (ℕ × ℕ)) (n : ℕ) (y : ℕ × ℕ) → Contains (drop n xs) y → (k : ℕ) × (n ≤ k) × (k < length xs) × (get_or xs k none ≡ y)
has_back xs n y (k, inside, e) =
    let size : length (drop n xs) ≡ length xs - n = length-drop n xs in
    (n + k, omega arith, omega arith, sym (get_or-drop n xs k none) ∙ get_or_default (drop n xs) k none y inside ∙ e)

back_has : (xs : List (ℕ × ℕ)) (n k : ℕ) → n ≤ k → k < length xs → Contains (drop n xs) (get_or xs k none)
back_has xs n k from inside =
    let size : length (drop n xs) ≡ length xs - n = length-drop n xs in
    let same : n + (k - n) ≡ k = omega arith in
    subst (Contains (drop n xs)) (get_or-drop n xs (k - n) none ∙ ap (λ (z : ℕ). get_or xs z none) same) (Contains-get_or (drop n xs) (k - n) none (omega arith))

in_order_front : (n : ℕ) (xs : List (ℕ × ℕ)) → AreInOrder xs → AreInOrder (take n xs)
in_order_front n xs order i j d less inside = elim (cases_lt n (length xs)) [
  | inl under ↦
      let size : length (take n xs) ≡ n = length-take-le n xs (omega arith) in
      rw (get_or-take n xs i d (omega arith), get_or-take n xs j d (omega arith)) (order i j d less (omega arith))
  | inr over ↦
      let same : take n xs ≡ xs = take_all n xs (omega arith) in
      subst (λ (z : List (ℕ × ℕ)). IsNotBehind (get_or z i d) (get_or z j d)) (sym same) (order i j d less (subst (λ (z : List (ℕ × ℕ)). j < length z) same inside))
]

in_order_back : (n : ℕ) (xs : List (ℕ × ℕ)) → AreInOrder xs → AreInOrder (drop n xs)
in_order_back n xs order i j d less inside =
    let size : length (drop n xs) ≡ length xs - n = length-drop n xs in
    rw (get_or-drop n xs i d, get_or-drop n xs j d) (order (n + i) (n + j) d (omega arith) (omega arith))

-- WHAT LISTS HAVE TOGETHER

-- one list more
total_more : (measure : List RawEntry → ℕ) (lists : List HeldList) (list : HeldList) → list_total measure (map as_read (lists ++ list ∷ [])) ≡ list_total measure (map as_read lists) + measure list.raw
total_more measure lists list = ap (list_total measure) (map-append as_read lists (list ∷ [])) ∙ sum_by_push (λ (l : ListRead). measure l.raws) (map as_read lists) (as_read list)

counted_more : (before : ListTotals) (lists : List HeldList) (list : HeldList) (now next_now : ListTotals) → AreCounted before (map as_read lists) now → (reach : Reach) → IsNextTotal reach now list.raw next_now → AreCounted before (map as_read (lists ++ list ∷ [])) next_now
counted_more before lists list now next_now counted reach total =
    let more : list_total length (map as_read (lists ++ list ∷ [])) ≡ list_total length (map as_read lists) + length list.raw = total_more length lists list in
    let longer : list_total expression_bytes (map as_read (lists ++ list ∷ [])) ≡ list_total expression_bytes (map as_read lists) + expression_bytes list.raw = total_more expression_bytes lists list in
    let entries : now.entries ≡ before.entries + list_total length (map as_read lists) = counted.entries in
    let bytes : now.bytes ≡ before.bytes + list_total expression_bytes (map as_read lists) = counted.bytes in
    let up : next_now.entries ≡ now.entries + length list.raw = total.entries in
    let over : next_now.bytes ≡ now.bytes + expression_bytes list.raw = total.bytes in
    record { entries = omega arith; bytes = omega arith }

-- ONE LIST'S NAMINGS

module _ (namings : List (ℕ × ℕ)) (order : AreInOrder namings) (from : ℕ) (inside : from < length namings) (named : List (ℕ × ℕ)) (next : IsNext namings from named) where
  abbrev count : ℕ
  count = length named

  rises : (i j : ℕ) → i ≤ j → j < length namings → (get_or namings i none).0 ≤ (get_or namings j none).0
  rises i j up within = elim (cases_lt i j) [
    | inl less ↦ elim (order i j none less within) [ inl under ↦ omega arith | inr (same, _) ↦ omega arith ]
    | inr other ↦ let same : i ≡ j = omega arith in subst (λ (z : ℕ). (get_or namings i none).0 ≤ (get_or namings z none).0) same (omega arith)
  ]

  size : length (drop from namings) ≡ length namings - from
  size = length-drop from namings

  fits : from + count ≤ length namings
  fits = let within : count ≤ length (drop from namings) = next.group.inside in let s = size in omega arith

  first : (first_naming (drop from namings)) ≡ get_or namings from none
  first = let same : from + 0 ≡ from = omega arith in get_or-drop from namings 0 none ∙ ap (λ (z : ℕ). get_or namings z none) same

  -- those of the list have its place
  same_place : (k : ℕ) → from ≤ k → k < from + count → (get_or namings k none).0 ≡ (get_or namings from none).0
  same_place k up within =
      let here : Contains (take count (drop from namings)) (get_or (drop from namings) (k - from) none) = front_has (drop from namings) count (k - from) next.group.inside (omega arith) in
      let is : get_or (drop from namings) (k - from) none ≡ get_or namings k none = let back : from + (k - from) ≡ k = omega arith in get_or-drop from namings (k - from) none ∙ ap (λ (z : ℕ). get_or namings z none) back in
      let (i, i_in, e) = here in
      let placed : (get_or (take count (drop from namings)) i (get_or (drop from namings) (k - from) none)).0 ≡ (first_naming (drop from namings)).0 = next.group.same i (get_or (drop from namings) (k - from) none) i_in in
      ap (λ (z : ℕ × ℕ). z.0) (sym is ∙ sym e) ∙ placed ∙ ap (λ (z : ℕ × ℕ). z.0) first

  -- and those behind them a later one
  later_place : (k : ℕ) → from + count ≤ k → k < length namings → (get_or namings from none).0 < (get_or namings k none).0
  later_place k up within =
      let s = size in
      let other : (get_or (drop from namings) count none).0 ≢ (first_naming (drop from namings)).0 = next.group.other (omega arith) in
      let apart : (get_or namings (from + count) none).0 ≢ (get_or namings from none).0 = λ e. other (ap (λ (z : ℕ × ℕ). z.0) (get_or-drop from namings count none) ∙ e ∙ sym (ap (λ (z : ℕ × ℕ). z.0) first)) in
      let behind : (get_or namings from none).0 ≤ (get_or namings (from + count) none).0 = rises from (from + count) (omega arith) (omega arith) in
      let more : (get_or namings (from + count) none).0 ≤ (get_or namings k none).0 = rises (from + count) k up within in
      omega (arith, apart)

  -- the elements of the part
  named_has : (k : ℕ) → from ≤ k → k < from + count → Contains named (get_or namings k none)
  named_has k up within =
      let back : from + (k - from) ≡ k = omega arith in
      let is : get_or (drop from namings) (k - from) none ≡ get_or namings k none = get_or-drop from namings (k - from) none ∙ ap (λ (z : ℕ). get_or namings z none) back in
      subst (λ (z : List (ℕ × ℕ)). Contains z (get_or namings k none)) (sym next.is) (subst (Contains (take count (drop from namings))) is (front_has (drop from namings) count (k - from) next.group.inside (omega arith)))

  has_named : (y : ℕ × ℕ) → Contains named y → (k : ℕ) × (from ≤ k) × (k < from + count) × (get_or namings k none ≡ y)
  has_named y has =
      let (i, i_in, e) = has_front (drop from namings) count y next.group.inside (subst (λ (z : List (ℕ × ℕ)). Contains z y) next.is has) in
      (from + i, omega arith, omega arith, sym (get_or-drop from namings i none) ∙ e)

  pub first_is : first_naming named ≡ get_or namings from none
  first_is =
      let some : 0 < count = next.group.some in
      ap first_naming next.is ∙ get_or-take count (drop from namings) 0 none some ∙ first

  pub named_order : AreInOrder named
  named_order = subst AreInOrder (sym next.is) (in_order_front count (drop from namings) (in_order_back from namings order))

  pub named_here : (y : ℕ × ℕ) → Contains named y → y.0 ≡ (first_naming named).0
  named_here y has =
      let (k, up, within, e) = has_named y has in
      ap (λ (z : ℕ × ℕ). z.0) (sym e) ∙ same_place k up within ∙ ap (λ (z : ℕ × ℕ). z.0) (sym first_is)

  pub named_all : (P : ℕ × ℕ → Type 0) → All P namings → All P named
  named_all P all = subst (All P) (sym next.is) (All-take P count (drop from namings) (All-drop P from namings all))

  -- these are all of the list, where those before have lower places
  pub namings_at : ((y : ℕ × ℕ) → Contains (take from namings) y → y.0 < (first_naming named).0) → AreNamingsAt namings (first_naming named).0 named
  namings_at before = record {
    some = next.group.some;
    order = named_order;
    here = named_here;
    among = λ y has.
        let (k, up, within, e) = has_named y has in
        let f = fits in
        subst (Contains namings) e (Contains-get_or namings k none (omega arith));
    all = all_here;
  }
    where
      all_here : (y : ℕ × ℕ) → Contains namings y → y.0 ≡ (first_naming named).0 → Contains named y
      all_here y (k, k_in, e) same =
          let is : get_or namings k none ≡ y = get_or_default namings k none y k_in ∙ e in
          let placed : (get_or namings k none).0 ≡ (get_or namings from none).0 = ap (λ (z : ℕ × ℕ). z.0) is ∙ same ∙ ap (λ (z : ℕ × ℕ). z.0) first_is in
          elim (cases_lt k from) [
            | inl under ↦
                let low : (get_or namings k none).0 < (first_naming named).0 = before (get_or namings k none) (front_has namings from k (omega arith) under) in
                let f : (first_naming named).0 ≡ (get_or namings from none).0 = ap (λ (z : ℕ × ℕ). z.0) first_is in
                absurd (omega arith)
            | inr over ↦ elim (cases_lt k (from + count)) [
              | inl within ↦ subst (Contains named) is (named_has k (omega arith) within)
              | inr beyond ↦ let more : (get_or namings from none).0 < (get_or namings k none).0 = later_place k (omega arith) k_in in absurd (omega arith)
            ]
          ]

  -- and none from there on has a lower place
  pub namings_behind : (y : ℕ × ℕ) → Contains (drop from namings) y → (first_naming named).0 ≤ y.0
  namings_behind y has =
      let (k, k_from, k_in, e) = has_back namings from y has in
      let up : (get_or namings from none).0 ≤ (get_or namings k none).0 = rises from k k_from k_in in
      subst (λ (z : ℕ × ℕ). (first_naming named).0 ≤ z.0) e (subst (λ (z : ℕ × ℕ). z.0 ≤ (get_or namings k none).0) (sym first_is) up)

  -- ALL LISTS UP TO THEM

  module _ (of : ListKind) (section : ListSection) (addr : List ℕ) (contexts : List Context) (reach : Reach) (before : ListTotals) (lists : List HeldList) (now : ListTotals) (up : AreReadUpTo of section addr contexts namings reach before from lists now) where
    pub lists_before : (list : HeldList) → Contains lists list → list.at < (first_naming named).0
    lists_before list has =
        let ahead : list.at < (get_or namings from none).0 = up.ahead (get_or namings from none) list (back_has namings from from (omega arith) inside) has in
        subst (λ (z : ℕ × ℕ). list.at < z.0) (sym first_is) ahead

    pub namings_before : (y : ℕ × ℕ) → Contains (take from namings) y → y.0 < (first_naming named).0
    namings_before y has =
        let (list, has_list, same) = up.done y has in
        subst (λ (z : ℕ). z < (first_naming named).0) same (lists_before list has_list)

    module _ (list : HeldList) (read : IsReadBy of section addr contexts named list) (next_now : ListTotals) (total : IsNextTotal reach now list.raw next_now) where
      done_more : (y : ℕ × ℕ) → Contains (take (from + count) namings) y → (l : HeldList) × Contains (lists ++ list ∷ []) l × (l.at ≡ y.0)
      done_more y has =
          let f = fits in
          let (k, k_in, e) = has_front namings (from + count) y f has in
          elim (cases_lt k from) [
            | inl under ↦
                let (l, l_has, same) = up.done y (subst (Contains (take from namings)) e (front_has namings from k (omega arith) under)) in
                (l, Contains-append_left lists (list ∷ []) l l_has, same)
            | inr over ↦ (list, Contains-push lists list, read.at ∙ ap (λ (z : ℕ × ℕ). z.0) first_is ∙ sym (same_place k (omega arith) k_in) ∙ ap (λ (z : ℕ × ℕ). z.0) e)
          ]

      ahead_more : (y : ℕ × ℕ) (l : HeldList) → Contains (drop (from + count) namings) y → Contains (lists ++ list ∷ []) l → l.at < y.0
      ahead_more y l has l_has =
          let (k, k_from, k_in, e) = has_back namings (from + count) y has in
          let later : (get_or namings from none).0 < (get_or namings k none).0 = later_place k k_from k_in in
          let here : list.at ≡ (get_or namings from none).0 = read.at ∙ ap (λ (z : ℕ × ℕ). z.0) first_is in
          let placed : (get_or namings k none).0 ≡ y.0 = ap (λ (z : ℕ × ℕ). z.0) e in
          elim (Contains-push_cases lists list l l_has) [
            | inl old ↦ up.ahead y l (subst (Contains (drop from namings)) e (back_has namings from k (omega arith) k_in)) old
            | inr same ↦ subst (λ (z : HeldList). z.at < y.0) same (omega arith)
          ]

      pub one_more : AreReadUpTo of section addr contexts namings reach before (from + count) (lists ++ list ∷ []) next_now
      one_more = record {
        inside = fits;
        counted = counted_more before lists list now next_now up.counted reach total;
        few = total.few;
        each = All-push (IsReadAmong of section addr contexts namings) lists list up.each (named, subst (λ (z : ℕ). AreNamingsAt namings z named) (sym read.at) (namings_at namings_before), read);
        rising = all_pairs_push (λ (x y : HeldList). x.at < y.at) lists list up.rising (λ k d k_in. subst (λ (z : ℕ). (get_or lists k d).at < z) (sym read.at) (lists_before (get_or lists k d) (Contains-get_or lists k d k_in)));
        done = done_more;
        ahead = ahead_more;
      }

-- none are read at first
pub none_read : (of : ListKind) (section : ListSection) (addr : List ℕ) (contexts : List Context) (namings : List (ℕ × ℕ)) (reach : Reach) (before : ListTotals) (lists : List HeldList) → AreFew reach before → lists ≡ [] → AreReadUpTo of section addr contexts namings reach before 0 lists before
none_read of section addr contexts namings reach before lists few e = subst (λ (z : List HeldList). AreReadUpTo of section addr contexts namings reach before 0 z before) (sym e) (record {
  inside = omega arith;
  counted = record { entries = omega arith; bytes = omega arith };
  few = few;
  each = λ k d inside. absurd (omega arith);
  rising = λ i j d less inside. absurd (omega arith);
  done = λ y has. absurd (omega (arith, has.1));
  ahead = λ y list has l_has. absurd (omega (arith, l_has.1));
})

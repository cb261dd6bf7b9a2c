-- The runs of an item, from those of what is behind it.
use Rattle.std.proofs.Common.{◌≡◌, ◌<◌, ◌≤◌, ◌+◌, ◌-◌, ◌^◌, ◌⊎◌, ◌++◌, ◌∙◌, ℕ, zero, suc, List, [], length, take, drop, sym, ap, refl, subst, arith, inl, inr}
use Rattle.std.proofs.lemmas.Bool.{cases_lt}
use Rattle.std.proofs.lemmas.List.{get_or-take, get_or-drop, length-take, length-drop, length-append, take_rest, get_or_append_left, get_or-append-add}
use Rattle.leb_codec.specs.LineCosts.{IsLeastCost}
use Rattle.list_model.specs.declared.context.Context.{Context}
use Rattle.list_model.specs.Items.{Bounds}
use Rattle.list_model.specs.Costs.{ItemWithin}
use Rattle.list_least.specs.declared.costs.Costs.{Costs}
use Rattle.list_least.specs.declared.costs.Piece.{Piece}
use Rattle.list_least.specs.declared.runs.Run.{Run}
use Rattle.list_least.specs.Tails.{run_at, GoDown, StartAtTop, IsIn, IsLess, AreLeft}
use Rattle.list_least.specs.inside.Search.{AreCosts, IsPiece, BeginFrom, ItemFirst, AreLeftBehind, IsLeftBetween, IsPushed, AddsDown, IsAbove, IsBehindTo, IsLoweredTo, IsLowered}
use Rattle.list_least.proofs.Pushing.{keeps, goes_down, begins_from, has_some, has_first, keeps_small, item_less}
use Rattle.list_least.proofs.Covering.{run_small}

length_take : (n : ℕ) (runs : List Run) → n ≤ length runs → length (take n runs) ≡ n
length_take n runs le = omega (arith, length-take n runs, le)

-- the first runs of some
pub front_at : (runs : List Run) (n i : ℕ) → i < n → run_at (take n runs) i ≡ run_at runs i
front_at runs n i lt = get_or-take n runs i (record { upto = 0; gain = 0 }) lt

pub front_in : (runs : List Run) (n i base : ℕ) → n < length runs → (run_at runs n).upto < base → IsIn (take n runs) i base → IsIn runs i base
front_in runs n i base lt low inside =
    let size : length (take n runs) ≡ n = length_take n runs (omega (arith, lt)) in
    let l : i < n = omega (arith, size, inside.inside) in
    record {
      inside = omega (arith, l, lt);
      upto = omega (arith, inside.upto, ap (λ (z : Run). z.upto) (front_at runs n i l));
      beyond = λ more. elim (cases_lt (i + 1) n) [
        | inl next ↦ omega (arith, inside.beyond (omega (arith, next, size)), ap (λ (z : Run). z.upto) (front_at runs n (i + 1) next))
        | inr end ↦ let e : i + 1 ≡ n = omega (arith, end, l) in omega (arith, low, ap (λ (z : ℕ). (run_at runs z).upto) e)
      ];
    }

later : (runs : List Run) → GoDown runs → (i more : ℕ) → i + 1 + more < length runs → (run_at runs (i + 1 + more)).upto < (run_at runs i).upto
later runs down i zero lt = let e : i + 1 + 0 ≡ i + 1 = omega arith in subst (λ (z : ℕ). (run_at runs z).upto < (run_at runs i).upto) (sym e) (down i (omega (arith, lt)))
later runs down i (suc more) lt =
    let e : i + 1 + suc more ≡ i + 1 + more + 1 = omega arith in
    omega (arith, ap (λ (z : ℕ). (run_at runs z).upto) e, down (i + 1 + more) (omega (arith, lt)), later runs down i more (omega (arith, lt)))

pub goes_low : (runs : List Run) → GoDown runs → (i j : ℕ) → i < j → j < length runs → (run_at runs j).upto < (run_at runs i).upto
goes_low runs down i j less lt =
    let e : j ≡ i + 1 + (j - (i + 1)) = omega (arith, less) in
    let x : (run_at runs (i + 1 + (j - (i + 1)))).upto < (run_at runs i).upto = later runs down i (j - (i + 1)) (omega (arith, e, lt)) in
    subst (λ (z : ℕ). (run_at runs z).upto < (run_at runs i).upto) (sym e) x

-- the runs whose bases an item needs none of
starts : (costs : Costs) (most : ℕ) (old new : List Run) (from : ℕ) → StartAtTop old → GoDown old → from < length old → new ≡ take from old → ((j : ℕ) → j < length old → (run_at old j).gain ≤ most) →
    ((addr : List ℕ) (context : Context) (item : Bounds) → AreCosts addr context item costs → (j base : ℕ) → j < from → base < 2 ^ 64 → IsIn old j base → IsLeastCost (ItemWithin addr context base item) costs.free) → IsBehindTo costs most old from new
starts costs most old new from top down lt e gains free =
    let size : length (take from old) ≡ from = length_take from old (omega (arith, lt)) in
    let low : (j : ℕ) → j < from → (run_at old from).upto < (run_at old j).upto = λ j less. goes_low old down j from less lt in
    let done : IsBehindTo costs most old from (take from old) = record {
      bottom = (run_at old from).upto + 1;
      above = record { inner = λ l. refl; last = λ z. absurd (omega (arith, z, lt)) };
      down = λ i l. omega (arith, down i (omega (arith, l, size, lt)), ap (λ (z : Run). z.upto) (front_at old from i (omega (arith, l, size))), ap (λ (z : Run). z.upto) (front_at old from (i + 1) (omega (arith, l, size))));
      from = λ i l. omega (arith, low i (omega (arith, l, size)), ap (λ (z : Run). z.upto) (front_at old from i (omega (arith, l, size))));
      none = λ z. ap (λ n. take n old) z;
      top = λ some. record { some = omega (arith, size, some); first = omega (arith, top.first, ap (λ (z : Run). z.upto) (front_at old from 0 some)) };
      small = λ i l. omega (arith, gains i (omega (arith, l, size, lt)), ap (λ (z : Run). z.gain) (front_at old from i (omega (arith, l, size))));
      left_behind = λ addr context item items ps under are left i base inside bottom.
          let l : i < from = omega (arith, inside.inside, size) in
          let here : IsIn old i base = front_in old from i base lt (omega (arith, bottom)) inside in
          let fits : base < 2 ^ 64 = omega (arith, here.upto, run_small old top down i here.inside) in
          let same : (run_at old i).gain + (costs.free - costs.free) ≡ (run_at (take from old) i).gain = omega (arith, ap (λ (z : Run). z.gain) (front_at old from i l)) in
          subst (λ (z : ℕ). IsLess (ItemFirst addr context base item items ps) (under + costs.free) z) same (item_less addr context base item items ps costs.free costs.free (run_at old i).gain under (omega arith) (free addr context item are i base l fits here) (left i base here));
    } in
    subst (IsBehindTo costs most old from) (sym e) done

pub starts_seen : (costs : Costs) (most : ℕ) (old seen new : List Run) (from : ℕ) → seen ≡ old → StartAtTop old → GoDown old → from < length seen → new ≡ take from old → ((j : ℕ) → j < length old → (run_at old j).gain ≤ most) →
    ((addr : List ℕ) (context : Context) (item : Bounds) → AreCosts addr context item costs → (j base : ℕ) → j < from → base < 2 ^ 64 → IsIn seen j base → IsLeastCost (ItemWithin addr context base item) costs.free) → IsBehindTo costs most old (from + 0) new
starts_seen costs most old seen new from s top down lt e gains free =
    let z : from ≡ from + 0 = omega arith in
    subst (λ (n : ℕ). IsBehindTo costs most old n new) z (
    starts costs most old new from top down (omega (arith, lt, ap length s)) e gains (λ addr context item are j base less fits inside. free addr context item are j base less fits (subst (λ (r : List Run). IsIn r j base) (sym s) inside)))

-- still at the greatest address
still_top : (old cur new : List Run) (i : ℕ) → StartAtTop old → (i ≡ 0 → cur ≡ []) → (0 < i → StartAtTop cur) → 0 < length new → ((cur ≡ []) × ((run_at new 0).upto ≡ (run_at old i).upto)) ⊎ ((0 < length cur) × ((run_at new 0).upto ≡ (run_at cur 0).upto)) → StartAtTop new
still_top old cur new zero top none at some (inl (e, is)) = record { some = some; first = omega (arith, top.first, is) }
still_top old cur new zero top none at some (inr (one, is)) = absurd (omega (arith, one, ap length (none refl)))
still_top old cur new (suc i) top none at some (inl (e, is)) = let s = at (omega arith) in absurd (omega (arith, s.some, ap length e))
still_top old cur new (suc i) top none at some (inr (one, is)) = let s = at (omega arith) in record { some = some; first = omega (arith, s.first, is) }

module _ (costs : Costs) (most : ℕ) (old : List Run) (i lowest : ℕ) (cur new : List Run) (to : IsBehindTo costs most old i cur) (lt : i < length old) (top : StartAtTop old) (gains : (j : ℕ) → j < length old → (run_at old j).gain ≤ most) (above : IsAbove old (i + 1) lowest) where
  bottom_is : to.bottom ≡ (run_at old i).upto + 1
  bottom_is = to.above.inner lt

  pub begins : BeginFrom cur ((run_at old i).upto + 1)
  begins = subst (BeginFrom cur) bottom_is to.from

  between : (addr : List ℕ) (context : Context) (items : List Bounds) (ps : List ℕ) (under : ℕ) → AreLeft addr context items ps under old → IsLeftBetween addr context items ps under (run_at old i).upto lowest (run_at old i).gain
  between addr context items ps under all base from upto = all i base (record { inside = lt; upto = upto; beyond = λ more. omega (arith, above.inner more, from) })

  pub goes_on : AddsDown costs (run_at old i).gain (run_at old i).upto lowest cur new → IsBehindTo costs most old (i + 1) new
  goes_on adds = record {
    bottom = lowest;
    above = above;
    down = adds.down;
    from = adds.from;
    none = λ z. absurd (omega (arith, z));
    top = λ more. still_top old cur new i top to.none to.top adds.some adds.first;
    small = λ j inside. elim (adds.small j inside) [ inl x ↦ omega (arith, x, gains i lt) | inr (k, l, same) ↦ omega (arith, to.small k l, same) ];
    left_behind = λ addr context item items ps under are all.
        adds.left_behind addr context item items ps under are (between addr context items ps under all) (subst (AreLeftBehind addr context item items ps (under + costs.free) cur) bottom_is (to.left_behind addr context item items ps under are all));
  }

-- ---- the runs that are near an item

pub rest_is : (runs none rest : List Run) (from : ℕ) → none ≡ [] → rest ≡ none ++ take (length runs - from) (drop from runs) → rest ≡ drop from runs
rest_is runs none rest from e f = f ∙ ap (λ z. z ++ take (length runs - from) (drop from runs)) e ∙ take_rest runs from

pub near_run : (runs seen : List Run) (from i : ℕ) → seen ≡ drop from runs → run_at seen i ≡ run_at runs (from + i)
near_run runs seen from i e = ap (λ z. run_at z i) e ∙ get_or-drop from runs i (record { upto = 0; gain = 0 })

pub near_count : (runs seen : List Run) (from : ℕ) → seen ≡ drop from runs → length seen ≡ length runs - from
near_count runs seen from e = ap length e ∙ length-drop from runs

pub near_down : (runs seen : List Run) (from : ℕ) → seen ≡ drop from runs → GoDown runs → GoDown seen
near_down runs seen from e down i lt =
    let k : from + i + 1 ≡ from + (i + 1) = omega arith in
    omega (arith, down (from + i) (omega (arith, lt, near_count runs seen from e)), ap (λ (z : Run). z.upto) (near_run runs seen from i e), ap (λ (z : Run). z.upto) (near_run runs seen from (i + 1) e), ap (λ (z : ℕ). (run_at runs z).upto) k)

pub near_above : (runs seen : List Run) (from i lowest : ℕ) → seen ≡ drop from runs → i < length seen → IsAbove seen (i + 1) lowest → IsAbove runs (from + i + 1) lowest
near_above runs seen from i lowest e lt above =
    let k : from + i + 1 ≡ from + (i + 1) = omega arith in
    record {
      inner = λ more. omega (arith, above.inner (omega (arith, more, near_count runs seen from e)), ap (λ (z : Run). z.upto) (near_run runs seen from (i + 1) e), ap (λ (z : ℕ). (run_at runs z).upto) k);
      last = λ end. omega (arith, above.last (omega (arith, end, near_count runs seen from e, lt)));
    }

-- ---- the runs that are far from an item

pub far_is : (seen cur new : List Run) (until : ℕ) → new ≡ cur ++ take (length seen - until) (drop until seen) → new ≡ cur ++ drop until seen
far_is seen cur new until e = e ∙ ap (λ z. cur ++ z) (take_rest seen until)

module _ (costs : Costs) (most : ℕ) (old seen cur new : List Run) (from until : ℕ) (near : seen ≡ drop from old) (to : IsBehindTo costs most old (from + until) cur) (order : from ≤ length old) (inside : until ≤ length seen) (e : new ≡ cur ++ drop until seen) (top : StartAtTop old) (down : GoDown old) (gains : (j : ℕ) → j < length old → (run_at old j).gain ≤ most)
    (free : (addr : List ℕ) (context : Context) (item : Bounds) → AreCosts addr context item costs → (j base : ℕ) → until ≤ j → IsIn seen j base → IsLeastCost (ItemWithin addr context base item) costs.free) where
  grown : length new ≡ length cur + (length old - (from + until))
  grown = omega (arith, ap length e ∙ length-append cur (drop until seen), length-drop until seen, near_count old seen from near)

  bounded : from + until ≤ length old
  bounded = omega (arith, inside, near_count old seen from near, order)

  kept : (i : ℕ) → i < length cur → run_at new i ≡ run_at cur i
  kept i lt = ap (λ z. run_at z i) e ∙ get_or_append_left cur (drop until seen) (record { upto = 0; gain = 0 }) i lt

  far : (i k : ℕ) → i ≡ length cur + k → run_at new i ≡ run_at old (from + (until + k))
  far i k is = ap (run_at new) is ∙ ap (λ z. run_at z (length cur + k)) e ∙ get_or-append-add cur (drop until seen) k (record { upto = 0; gain = 0 }) ∙ get_or-drop until seen k (record { upto = 0; gain = 0 }) ∙ near_run old seen from (until + k) near

  -- the first of these runs begins below what is known
  meets : (i : ℕ) → i < length new → length cur ≤ i → (run_at new i).upto < to.bottom
  meets i lt ge =
      let more : from + until < length old = omega (arith, lt, ge, grown) in
      let k : ℕ = i - length cur in
      let is : run_at new i ≡ run_at old (from + (until + k)) = far i k (omega (arith, ge)) in
      let low : (run_at old (from + (until + k))).upto ≤ (run_at old (from + until)).upto = elim (cases_lt 0 k) [
        | inl some ↦ omega (arith, goes_low old down (from + until) (from + (until + k)) (omega (arith, some)) (omega (arith, lt, grown)))
        | inr none ↦ let z : from + (until + k) ≡ from + until = omega (arith, none) in omega (arith, ap (λ (n : ℕ). (run_at old n).upto) z)
      ] in
      omega (arith, to.above.inner more, low, ap (λ (z : Run). z.upto) is)

  joined_down : GoDown new
  joined_down i lt = elim (cases_lt (i + 1) (length cur)) [
    | inl more ↦ omega (arith, to.down i more, ap (λ (z : Run). z.upto) (kept i (omega (arith, more))), ap (λ (z : Run). z.upto) (kept (i + 1) more))
    | inr end ↦ elim (cases_lt i (length cur)) [
      | inl last ↦ omega (arith, meets (i + 1) lt end, to.from i last, ap (λ (z : Run). z.upto) (kept i last))
      | inr past ↦
          let k : ℕ = i - length cur in
          let n : from + (until + (k + 1)) ≡ from + (until + k) + 1 = omega arith in
          omega (arith, down (from + (until + k)) (omega (arith, lt, grown, past)), ap (λ (z : Run). z.upto) (far i k (omega (arith, past))), ap (λ (z : Run). z.upto) (far (i + 1) (k + 1) (omega (arith, past))), ap (λ (z : ℕ). (run_at old z).upto) n)
    ]
  ]

  joined_top : StartAtTop new
  joined_top = elim (cases_lt 0 (from + until)) [
    | inl some ↦ let t = to.top some in record { some = omega (arith, grown, t.some); first = omega (arith, t.first, ap (λ (z : Run). z.upto) (kept 0 t.some)) }
    | inr none ↦
        let z : length cur ≡ 0 = ap length (to.none (omega (arith, none))) in
        let n : from + (until + 0) ≡ 0 = omega (arith, none) in
        record { some = omega (arith, grown, z, none, top.some); first = omega (arith, top.first, ap (λ (r : Run). r.upto) (far 0 0 (omega (arith, z))), ap (λ (m : ℕ). (run_at old m).upto) n) }
  ]

  joined_small : (i : ℕ) → i < length new → (run_at new i).gain ≤ most + 17
  joined_small i lt = elim (cases_lt i (length cur)) [
    | inl less ↦ omega (arith, to.small i less, ap (λ (z : Run). z.gain) (kept i less))
    | inr ge ↦ let k : ℕ = i - length cur in omega (arith, gains (from + (until + k)) (omega (arith, lt, grown, ge)), ap (λ (z : Run). z.gain) (far i k (omega (arith, ge))))
  ]

  -- a base of a run from before, and of one that is appended
  in_kept : (i base : ℕ) → i < length cur → IsIn new i base → IsIn cur i base
  in_kept i base lt here = record {
    inside = lt;
    upto = omega (arith, here.upto, ap (λ (z : Run). z.upto) (kept i lt));
    beyond = λ more. omega (arith, here.beyond (omega (arith, more, grown)), ap (λ (z : Run). z.upto) (kept (i + 1) more));
  }

  known : (i base : ℕ) → i < length cur → IsIn new i base → to.bottom ≤ base
  known i base lt here = elim (cases_lt (i + 1) (length cur)) [
    | inl more ↦ omega (arith, to.from (i + 1) more, here.beyond (omega (arith, more, grown)), ap (λ (z : Run). z.upto) (kept (i + 1) more))
    | inr end ↦ elim (cases_lt (from + until) (length old)) [
      | inl some ↦
          let n : i + 1 ≡ length cur + 0 = omega (arith, end, lt) in
          let z : from + (until + 0) ≡ from + until = omega arith in
          omega (arith, here.beyond (omega (arith, n, grown, some)), to.above.inner some, ap (λ (r : Run). r.upto) (far (i + 1) 0 n), ap (λ (m : ℕ). (run_at old m).upto) z)
      | inr none ↦ omega (arith, to.above.last (omega (arith, none, bounded)))
    ]
  ]

  in_far : (i k base : ℕ) → i ≡ length cur + k → IsIn new i base → IsIn old (from + (until + k)) base
  in_far i k base is here =
      let n : from + (until + (k + 1)) ≡ from + (until + k) + 1 = omega arith in
      record {
        inside = omega (arith, here.inside, grown, is);
        upto = omega (arith, here.upto, ap (λ (z : Run). z.upto) (far i k is));
        beyond = λ more. omega (arith, here.beyond (omega (arith, more, grown, is)), ap (λ (z : Run). z.upto) (far (i + 1) (k + 1) (omega (arith, is))), ap (λ (z : ℕ). (run_at old z).upto) n);
      }

  in_seen : (j base : ℕ) → IsIn old (from + j) base → IsIn seen j base
  in_seen j base here =
      let n : from + (j + 1) ≡ from + j + 1 = omega arith in
      record {
        inside = omega (arith, here.inside, near_count old seen from near);
        upto = omega (arith, here.upto, ap (λ (z : Run). z.upto) (near_run old seen from j near));
        beyond = λ more. omega (arith, here.beyond (omega (arith, more, near_count old seen from near)), ap (λ (z : Run). z.upto) (near_run old seen from (j + 1) near), ap (λ (z : ℕ). (run_at old z).upto) n);
      }

  joined_left : (addr : List ℕ) (context : Context) (item : Bounds) (items : List Bounds) (ps : List ℕ) (under : ℕ) → AreCosts addr context item costs → AreLeft addr context items ps under old → AreLeftBehind addr context item items ps (under + costs.free) new 0
  joined_left addr context item items ps under are left i base here low = elim (cases_lt i (length cur)) [
    | inl lt ↦ subst (λ (z : Run). IsLess (ItemFirst addr context base item items ps) (under + costs.free) z.gain) (sym (kept i lt)) (to.left_behind addr context item items ps under are left i base (in_kept i base lt here) (known i base lt here))
    | inr ge ↦
        let k : ℕ = i - length cur in
        let is : i ≡ length cur + k = omega (arith, ge) in
        let there : IsIn old (from + (until + k)) base = in_far i k base is here in
        let cost = free addr context item are (until + k) base (omega arith) (in_seen (until + k) base there) in
        let same : (run_at old (from + (until + k))).gain + (costs.free - costs.free) ≡ (run_at new i).gain = omega (arith, ap (λ (z : Run). z.gain) (far i k is)) in
        subst (IsLess (ItemFirst addr context base item items ps) (under + costs.free)) same (item_less addr context base item items ps costs.free costs.free (run_at old (from + (until + k))).gain under (omega arith) cost (left (from + (until + k)) base there))
  ]

  pub joined : StartAtTop new × GoDown new × ((i : ℕ) → i < length new → (run_at new i).gain ≤ most + 17)
      × ((addr : List ℕ) (context : Context) (item : Bounds) (items : List Bounds) (ps : List ℕ) (under : ℕ) → AreCosts addr context item costs → AreLeft addr context items ps under old → AreLeftBehind addr context item items ps (under + costs.free) new 0)
  joined = (joined_top, joined_down, joined_small, joined_left)

-- ---- runs that are lowered

pub lowers : (by : ℕ) (old new : List Run) → StartAtTop old → new ≡ [] → IsLoweredTo by old 0 new
lowers by old new top e =
    let none : (i : ℕ) → i < length new → ⊥ = λ i lt. absurd (omega (arith, lt, ap length e)) in
    record {
      bottom = 2 ^ 64;
      above = record { inner = λ lt. sym top.first; last = λ z. absurd (omega (arith, z, top.some)) };
      down = λ i lt. absurd (none i (omega (arith, lt)));
      from = λ i lt. absurd (none i lt);
      none = λ z. e;
      top = λ lt. absurd (omega (arith, lt));
      small = λ i lt. absurd (none i lt);
      each = λ i base inside from. absurd (none i inside.inside);
    }

pub lowers_on : (by : ℕ) (old : List Run) (i lowest gain : ℕ) (cur new : List Run) → IsLoweredTo by old i cur → i < length old → StartAtTop old → IsAbove old (i + 1) lowest → lowest ≤ (run_at old i).upto → gain ≡ (run_at old i).gain - by → IsPushed cur (record { upto = (run_at old i).upto; gain = gain }) new → IsLoweredTo by old (i + 1) new
lowers_on by old i lowest gain cur new to lt top above order e pushed =
    let run : Run = record { upto = (run_at old i).upto; gain = gain } in
    let begins : BeginFrom cur ((run_at old i).upto + 1) = subst (BeginFrom cur) (to.above.inner lt) to.from in
    record {
      bottom = lowest;
      above = above;
      down = goes_down cur new run (run_at old i).upto refl begins to.down pushed;
      from = begins_from cur new run (run_at old i).upto lowest refl order begins pushed;
      none = λ z. absurd (omega (arith, z));
      top = λ more. still_top old cur new i top to.none to.top (has_some cur new run pushed) (has_first cur new run (run_at old i).upto refl pushed);
      small = keeps_small (λ g. (k : ℕ) × (k < length old) × (g ≡ (run_at old k).gain - by)) cur new run pushed to.small (i, lt, e);
      each = keeps (λ base g. (k : ℕ) × IsIn old k base × (g ≡ (run_at old k).gain - by)) cur new run (run_at old i).upto lowest refl begins pushed
          (λ j base inside from. to.each j base inside (omega (arith, from, to.above.inner lt)))
          (λ base from upto. (i, record { inside = lt; upto = upto; beyond = λ more. omega (arith, above.inner more, from) }, e));
    }

pub lowered : (by : ℕ) (old : List Run) (i : ℕ) (new : List Run) → StartAtTop old → i ≡ length old → IsLoweredTo by old i new → IsLowered by old new
lowered by old i new top e to = record {
  down = to.down;
  top = to.top (omega (arith, e, top.some));
  small = to.small;
  each = λ j base inside. to.each j base inside (omega (arith, to.above.last e));
}

pub not_lowered : (by : ℕ) (old : List Run) → by ≡ 0 → StartAtTop old → GoDown old → IsLowered by old old
not_lowered by old e top down = record {
  down = down;
  top = top;
  small = λ j lt. (j, lt, omega (arith, e));
  each = λ j base inside. (j, inside, omega (arith, e));
}

pub free_before : (costs : Costs) (runs : List Run) (i : ℕ) (high : Piece) → GoDown runs → i < length runs → high.bottom ≤ (run_at runs i).upto → high.cost ≡ costs.free → ((addr : List ℕ) (context : Context) (item : Bounds) → AreCosts addr context item costs → IsPiece addr context item 18446744073709551615 high) →
    (addr : List ℕ) (context : Context) (item : Bounds) → AreCosts addr context item costs → (j base : ℕ) → j < i → base < 2 ^ 64 → IsIn runs j base → IsLeastCost (ItemWithin addr context base item) costs.free
free_before costs runs i high down lt low e piece addr context item are j base less fits inside =
    let above : (run_at runs i).upto < base = elim (cases_lt (j + 1) i) [
      | inl l ↦ omega (arith, goes_low runs down (j + 1) i l lt, inside.beyond (omega (arith, less, lt)))
      | inr ge ↦ let k : j + 1 ≡ i = omega (arith, ge, less) in omega (arith, inside.beyond (omega (arith, k, lt)), ap (λ (z : ℕ). (run_at runs z).upto) k)
    ] in
    subst (IsLeastCost (ItemWithin addr context base item)) e ((piece addr context item are).cost base (omega (arith, above, low)) (omega (arith, fits)))

pub lowered_seen : (by : ℕ) (old seen : List Run) (i : ℕ) (new : List Run) → seen ≡ old → StartAtTop old → i ≡ length seen → IsLoweredTo by seen i new → IsLowered by old new
lowered_seen by old seen i new s top e to =
    subst (λ (z : List Run). IsLowered by z new) s (lowered by seen i new (subst StartAtTop (sym s) top) e to)

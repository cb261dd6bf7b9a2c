-- View pairs that are read have no fault: each is whole in its contribution, and all together are no more than those that are read.
use Rattle.std.proofs.Common.{◌≡◌, ◌≤◌, ◌<◌, ◌+◌, ◌∙◌, ◌++◌, inl, inr, ℕ, zero, suc, List, [], ◌∷◌, length, get_or, sym, ap, subst, arith}
use Rattle.std.specs.List.{Contains, sum_by}
use Rattle.std.proofs.lemmas.List.{get_or_default}
use Rattle.std.proofs.lemmas.List.Elements.{Contains-append_left, Contains-append_right, Contains-append_cases}
use Rattle.std.proofs.lemmas.List.Sums.{sum_by-cons, sum_by-append}
use Rattle.dw_base.specs.declared.fault.Kind.{Kind}
use Rattle.dw_base.specs.declared.fault.Kind.TheVariants.{Limit}
use Rattle.list_model.specs.declared.contribution.Contribution.{Contribution}
use Rattle.list_model.specs.declared.entry.ListKind.TheVariants.{Locations}
use Rattle.list_model.specs.Entries.{AreSaid}
use Rattle.list_model.proofs.WalkLaws.{one_saying}
use Rattle.loc_lists.specs.Views.{IsRunAt, FaultRun, view_limit}
use Rattle.loc_lists.proofs.ViewLaws.{runs_whole}
use Rattle.value_links.specs.Reading.{ListRead, ViewRead, Reading, part_at, list_at, view_at}
use Rattle.value_links.specs.Lists.{pair_count, pair_total}
use Rattle.value_links.specs.Whole.{IsReading}
use Rattle.value_links.specs.ListFaults.{AreViewsWanted, FaultPairs, CountedPairs, ArePairs, PairsComeBefore, pairs_at, PassesPairs, FaultOfViews}
use Rattle.value_links.proofs.ListsOnce.{list_same}

-- SUMS

-- a list is cut at one of its items
record IsCut {Y : Type 0} (ys : List Y) (y : Y) : Type 0 where
  before : List Y
  after : List Y
  is : ys ≡ before ++ y ∷ after

cut_at : {Y : Type 0} (ys : List Y) (y : Y) → Contains ys y → IsCut ys y
cut_at [] y (i, inside, is) = absurd (omega arith)
cut_at (z ∷ ys) y (zero, inside, is) = record { before = []; after = ys; is = ap (λ w. w ∷ ys) is }
cut_at {Y} (z ∷ ys) y (suc i, inside, is) =
    let rest = cut_at ys y (i, omega arith, is) in
    record { before = z ∷ rest.before; after = rest.after; is = ap (λ (w : List Y). z ∷ w) rest.is }

-- where each of some items has one of its own among others that is no less, their sum is no more
module _ {X Y : Type 0} (d : X) (Fits : X → Y → Type 0) (f : X → ℕ) (g : Y → ℕ) (less : (x : X) (y : Y) → Fits x y → f x ≤ g y) where
  abbrev Own : List X → Type 0
  Own xs = (j k : ℕ) → j < k → k < length xs → (y : Y) → Fits (get_or xs j d) y → Fits (get_or xs k d) y → ⊥

  abbrev Has : List Y → X → Type 0
  Has ys x = (y : Y) × Contains ys y × Fits x y

  -- what fits another item is left when one that fits this is taken out
  left : (x z : X) (ys : List Y) (y : Y) (cut : IsCut ys y) → Fits x y → ((w : Y) → Fits x w → Fits z w → ⊥) → Has ys z → Has (cut.before ++ cut.after) z
  left x z ys y cut here apart (w, has, there) = elim (Contains-append_cases cut.before (y ∷ cut.after) w (subst (λ (l : List Y). Contains l w) cut.is has)) [
    | inl front ↦ (w, Contains-append_left cut.before cut.after w front, there)
    | inr rest ↦ (w, Contains-append_right cut.before cut.after w (behind rest), there)
  ]
    where
      behind : Contains (y ∷ cut.after) w → Contains cut.after w
      behind (zero, inside, is) = absurd (apart w (subst (λ (v : Y). Fits x v) is here) there)
      behind (suc i, inside, is) = (i, omega arith, is)

  pub sums_within : (xs : List X) (ys : List Y) → Own xs → ((k : ℕ) → k < length xs → Has ys (get_or xs k d)) → sum_by f xs ≤ sum_by g ys
  sums_within [] ys own each = omega arith
  sums_within (x ∷ xs) ys own each =
      let (y, has, here) = each 0 (omega arith) in
      let cut = cut_at ys y has in
      let one : f x ≤ g y = less x y here in
      let others : sum_by f xs ≤ sum_by g (cut.before ++ cut.after) = sums_within xs (cut.before ++ cut.after) (λ j k under inside. own (suc j) (suc k) (omega arith) (omega arith)) (λ k inside. left x (get_or xs k d) ys y cut here (own 0 (suc k) (omega arith) (omega arith)) (each (suc k) (omega arith))) in
      let sum : sum_by f (x ∷ xs) ≡ f x + sum_by f xs = sum_by-cons f x xs in
      let whole : sum_by g ys ≡ sum_by g cut.before + sum_by g (y ∷ cut.after) = ap (λ (l : List Y). sum_by g l) cut.is ∙ sum_by-append g cut.before (y ∷ cut.after) in
      let first : sum_by g (y ∷ cut.after) ≡ g y + sum_by g cut.after = sum_by-cons g y cut.after in
      let parts : sum_by g (cut.before ++ cut.after) ≡ sum_by g cut.before + sum_by g cut.after = sum_by-append g cut.before cut.after in
      omega arith

-- COUNTED PAIRS

-- counted pairs are this run
record IsRunOf (c : CountedPairs) (view : ViewRead) : Type 0 where
  goes : view.list ≡ c.list
  stands : view.at ≡ c.at
  size : c.count ≤ length view.pairs

counted_apart : (a b : CountedPairs) → PairsComeBefore a b → (view : ViewRead) → IsRunOf a view → IsRunOf b view → ⊥
counted_apart a b (inl less) view p q =
    let here : view.at ≡ a.at = p.stands in
    let there : view.at ≡ b.at = q.stands in
    absurd (omega arith)
counted_apart a b (inr (same, less)) view p q =
    let here : view.list ≡ a.list = p.goes in
    let there : view.list ≡ b.list = q.goes in
    absurd (omega arith)

module _ (file : List ℕ) (r : Reading) (read : IsReading file r) where
  -- view pairs that are wanted are those of a run that is read
  record IsRunRead (list place p count : ℕ) : Type 0 where
    k : ℕ
    inside : k < length r.views
    goes : (view_at r.views k).list ≡ list
    stands : (view_at r.views k).at ≡ place
    counted : length (view_at r.views k).pairs ≡ count
    run : IsRunAt r.links.locations.section (part_at r.links.locations p) place (view_at r.views k).pairs

  run_read : (list place p count : ℕ) → AreViewsWanted r.links list place p count → IsRunRead list place p count
  run_read list place p count w =
      let section : List ℕ = r.links.locations.section in
      let (k, inside, goes, stands) = read.views.all list place w.named in
      let view : ViewRead = view_at r.views k in
      let v = read.views.each k inside in
      let one : ListRead = list_at r.location_lists v.k in
      let same : one ≡ w.read = list_same file r.links read.links Locations one w.read ((read.lists Locations).each v.k v.inside) w.of_list (v.at ∙ goes ∙ sym w.same) in
      let said : AreSaid Locations w.read.raws v.entries = subst (λ (z : ListRead). AreSaid Locations z.raws v.entries) same v.said in
      let part : one.part ≡ p = ap (λ (z : ListRead). z.part) same ∙ sym w.holder in
      let moved : IsRunAt section (part_at r.links.locations p) view.at view.pairs = subst (λ (n : ℕ). IsRunAt section (part_at r.links.locations n) view.at view.pairs) part v.read in
      record {
        k = k;
        inside = inside;
        goes = goes;
        stands = stands;
        counted = v.counted ∙ ap pair_count (one_saying Locations w.read.raws v.entries w.entries said w.said) ∙ sym w.counted;
        run = subst (λ (n : ℕ). IsRunAt section (part_at r.links.locations p) n view.pairs) stands moved;
      }

  no_pair_fault : (kind : Kind) (place : ℕ) → FaultPairs r.links kind place → ⊥
  no_pair_fault kind place (list, here, p, count, wanted, f) =
      let section : List ℕ = r.links.locations.section in
      let part : Contribution = part_at r.links.locations p in
      let h = run_read list here p count wanted in
      runs_whole section part here (view_at r.views h.k).pairs h.run (kind, place, subst (λ (n : ℕ). FaultRun section part here n kind place) (sym h.counted) f)

  counted_read : (c : CountedPairs) → ArePairs r.links c → (view : ViewRead) × Contains r.views view × IsRunOf c view
  counted_read c (p, wanted) =
      let h = run_read c.list c.at p c.count wanted in
      let view : ViewRead = view_at r.views h.k in
      let size : length view.pairs ≡ c.count = h.counted in
      (view, (h.k, h.inside, sym (get_or_default r.views h.k (record { list = 0; at = 0; pairs = [] }) view h.inside)), record { goes = h.goes; stands = h.stands; size = omega arith })

  module _ (place : ℕ) (f : PassesPairs r.links place) where
    -- those that pass the limit, and those before them
    abbrev counted : List CountedPairs
    counted = f.last ∷ f.front

    apart : (j k : ℕ) → j < k → k < length counted → (view : ViewRead) → IsRunOf (pairs_at counted j) view → IsRunOf (pairs_at counted k) view → ⊥
    apart j zero less inside view p q = absurd (omega arith)
    apart zero (suc k) less inside view p q = counted_apart (pairs_at f.front k) f.last (f.each k (omega arith)).1 view q p
    apart (suc j) (suc k) less inside view p q = counted_apart (pairs_at f.front j) (pairs_at f.front k) (f.order j k (omega arith) (omega arith)) view p q

    each_read : (k : ℕ) → k < length counted → (view : ViewRead) × Contains r.views view × IsRunOf (pairs_at counted k) view
    each_read zero inside = counted_read f.last f.wanted
    each_read (suc k) inside = counted_read (pairs_at f.front k) (f.each k (omega arith)).0

    all_within : f.last.count + sum_by (λ (c : CountedPairs). c.count) f.front ≤ pair_total r.views
    all_within =
        let within : sum_by (λ (c : CountedPairs). c.count) counted ≤ pair_total r.views = sums_within (record { list = 0; at = 0; count = 0 }) IsRunOf (λ (c : CountedPairs). c.count) (λ (view : ViewRead). length view.pairs) (λ c view is. is.size) counted r.views apart each_read in
        let whole : sum_by (λ (c : CountedPairs). c.count) counted ≡ f.last.count + sum_by (λ (c : CountedPairs). c.count) f.front = sum_by-cons (λ (c : CountedPairs). c.count) f.last f.front in
        omega arith

  no_pairs_passed : (place : ℕ) → pair_total r.views ≤ view_limit → PassesPairs r.links place → ⊥
  no_pairs_passed place few f =
      let all : f.last.count + sum_by (λ (c : CountedPairs). c.count) f.front ≤ pair_total r.views = all_within place f in
      let past : view_limit < sum_by (λ (c : CountedPairs). c.count) f.front + f.last.count = f.past in
      absurd (omega arith)

  pub views_faultless : pair_total r.views ≤ view_limit → (kind : Kind) (place : ℕ) → FaultOfViews r.links kind place → ⊥
  views_faultless few Limit place f = no_pairs_passed place few f
  views_faultless few kind place f = no_pair_fault kind place f

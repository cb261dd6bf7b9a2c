-- The view pairs of a file are read in one way, and one run of them stands at a place for a list.
use Rattle.std.proofs.Common.{◌≡◌, ◌<◌, ◌∙◌, inl, inr, ℕ, List, [], length, sym, ap, subst, arith}
use Rattle.std.specs.List.{Contains}
use Rattle.std.proofs.lemmas.Bool.{cases_lt}
use Rattle.std.proofs.lemmas.List.{get_or_default}
use Rattle.list_model.specs.declared.entry.ListKind.TheVariants.{Locations}
use Rattle.list_model.specs.Entries.{AreSaid}
use Rattle.list_model.proofs.WalkLaws.{one_saying}
use Rattle.loc_lists.specs.declared.views.ViewPair.{ViewPair}
use Rattle.loc_lists.specs.Views.{IsRunAt}
use Rattle.loc_lists.proofs.ViewLaws.{one_run}
use Rattle.value_links.specs.Reading.{ListRead, ViewRead, Linkable, part_at, list_at, view_at}
use Rattle.value_links.specs.Lists.{pair_count, AreViewsOf, AreViewsApart, AreViewsRead}
use Rattle.value_links.proofs.ListsOnce.{same_members}

-- RUNS THAT RISE

not_apart : (x y : ViewRead) → AreViewsApart x y → x.list ≡ y.list → x.at ≡ y.at → ⊥
not_apart x y (inl less) list place = absurd (omega arith)
not_apart x y (inr (same, less)) list place = absurd (omega arith)

never_both : (x y : ViewRead) → AreViewsApart x y → AreViewsApart y x → ⊥
never_both x y (inl less) (inl more) = absurd (omega arith)
never_both x y (inl less) (inr (same, more)) = absurd (omega arith)
never_both x y (inr (same, less)) (inl more) = absurd (omega arith)
never_both x y (inr (same, less)) (inr (also, more)) = absurd (omega arith)

module _ (views : List ViewRead) (rising : (j k : ℕ) → j < k → k < length views → AreViewsApart (view_at views j) (view_at views k)) where
  run_number : (j k : ℕ) → j < length views → k < length views → (view_at views j).list ≡ (view_at views k).list → (view_at views j).at ≡ (view_at views k).at → j ≡ k
  run_number j k j_in k_in list place = elim (cases_lt j k) [
    | inl less ↦ absurd (not_apart (view_at views j) (view_at views k) (rising j k less k_in) list place)
    | inr rest ↦ elim (cases_lt k j) [
      | inl less ↦ absurd (not_apart (view_at views k) (view_at views j) (rising k j less j_in) (sym list) (sym place))
      | inr more ↦ omega arith
    ]
  ]

  -- so the pairs at a place that go with a list are one run
  pub pairs_once : (list place : ℕ) (a b : List ViewPair) → Contains views (record { list = list; at = place; pairs = a }) → Contains views (record { list = list; at = place; pairs = b }) → a ≡ b
  pairs_once list place a b (i, i_in, i_is) (j, j_in, j_is) =
      let none : ViewRead = record { list = 0; at = 0; pairs = [] } in
      let first : view_at views i ≡ record { list = list; at = place; pairs = a } = get_or_default views i none (record { list = list; at = place; pairs = a }) i_in ∙ i_is in
      let second : view_at views j ≡ record { list = list; at = place; pairs = b } = get_or_default views j none (record { list = list; at = place; pairs = b }) j_in ∙ j_is in
      let lists : (view_at views i).list ≡ (view_at views j).list = ap (λ (z : ViewRead). z.list) first ∙ sym (ap (λ (z : ViewRead). z.list) second) in
      let places : (view_at views i).at ≡ (view_at views j).at = ap (λ (z : ViewRead). z.at) first ∙ sym (ap (λ (z : ViewRead). z.at) second) in
      let number : i ≡ j = run_number i j i_in j_in lists places in
      sym (ap (λ (z : ViewRead). z.pairs) first) ∙ ap (λ (n : ℕ). (view_at views n).pairs) number ∙ ap (λ (z : ViewRead). z.pairs) second

-- RUNS THAT ARE READ

module _ (r : Linkable) (lists : List ListRead) (rising : (j k : ℕ) → j < k → k < length lists → (list_at lists j).at < (list_at lists k).at) where
  list_number : (j k : ℕ) → j < length lists → k < length lists → (list_at lists j).at ≡ (list_at lists k).at → j ≡ k
  list_number j k j_in k_in same = elim (cases_lt j k) [
    | inl less ↦ let apart : (list_at lists j).at < (list_at lists k).at = rising j k less k_in in absurd (omega arith)
    | inr rest ↦ elim (cases_lt k j) [
      | inl less ↦ let apart : (list_at lists k).at < (list_at lists j).at = rising k j less j_in in absurd (omega arith)
      | inr more ↦ omega arith
    ]
  ]

  run_once : (a b : ViewRead) → AreViewsOf r lists a → AreViewsOf r lists b → a.list ≡ b.list → a.at ≡ b.at → a ≡ b
  run_once a b p q list place =
      let section : List ℕ = r.locations.section in
      let number : p.k ≡ q.k = list_number p.k q.k p.inside q.inside (p.at ∙ list ∙ sym q.at) in
      let said : AreSaid Locations (list_at lists q.k).raws p.entries = subst (λ (n : ℕ). AreSaid Locations (list_at lists n).raws p.entries) number p.said in
      let count : length a.pairs ≡ length b.pairs = p.counted ∙ ap pair_count (one_saying Locations (list_at lists q.k).raws p.entries q.entries said q.said) ∙ sym q.counted in
      let moved : IsRunAt section (part_at r.locations (list_at lists q.k).part) a.at a.pairs = subst (λ (n : ℕ). IsRunAt section (part_at r.locations (list_at lists n).part) a.at a.pairs) number p.read in
      let here : IsRunAt section (part_at r.locations (list_at lists q.k).part) b.at a.pairs = subst (λ (n : ℕ). IsRunAt section (part_at r.locations (list_at lists q.k).part) n a.pairs) place moved in
      let pairs : a.pairs ≡ b.pairs = one_run section (part_at r.locations (list_at lists q.k).part) b.at a.pairs b.pairs here q.read count in
      ap (λ (z : ℕ). record { list = z; at = a.at; pairs = a.pairs }) list
      ∙ ap (λ (z : ℕ). record { list = b.list; at = z; pairs = a.pairs }) place
      ∙ ap (λ (z : List ViewPair). record { list = b.list; at = b.at; pairs = z }) pairs

  pub views_once : (xs ys : List ViewRead) → AreViewsRead r lists xs → AreViewsRead r lists ys → xs ≡ ys
  views_once xs ys p q = same_members (record { list = 0; at = 0; pairs = [] }) AreViewsApart never_both xs ys p.rising q.rising (has xs ys p q) (has ys xs q p)
    where
      has : (xs ys : List ViewRead) → AreViewsRead r lists xs → AreViewsRead r lists ys → (k : ℕ) → k < length xs → (j : ℕ) × (j < length ys) × (view_at ys j ≡ view_at xs k)
      has xs ys p q k inside =
          let here = p.each k inside in
          let (j, j_in, list, place) = q.all (view_at xs k).list (view_at xs k).at here.named in
          (j, j_in, run_once (view_at ys j) (view_at xs k) (q.each j j_in) here list place)

-- A section of lists that is written anew: where its contributions and its lists stand, and how long it is.
use Rattle.std.proofs.Common.{◌≡◌, ◌≤◌, ◌<◌, ◌+◌, ◌*◌, ◌^◌, ◌∙◌, ◌⊎◌, ℕ, suc, List, [], ◌∷◌, length, inl, inr, sym, ap, refl, subst, arith}
use Rattle.std.specs.List.{All}
use Rattle.std.specs.Prelude.{slice_index_or}
use Rattle.std.proofs.lemmas.List.{nil_from_length, length-map}
use Rattle.std.proofs.lemmas.List.Elements.{All-weaker, All-get_or, All-from_get_or}
use Rattle.std.proofs.lemmas.List.Sums.{sum_by-cons}
use Rattle.dw_base.specs.declared.classes.Classes.{Classes}
use Rattle.list_model.specs.declared.contribution.Contribution.{Contribution}
use Rattle.list_model.specs.declared.entry.ListKind.{ListKind}
use Rattle.list_model.specs.Contributions.{offsets_at, part_end, HoldsList, IsContribution, ContributionsTile}
use Rattle.list_model.proofs.Tiling.{each_part}
use Rattle.list_write.specs.declared.image.Moved.{Moved}
use Rattle.list_write.specs.Written.{Run, part_at, moved_at, runs_before}
use Rattle.list_write.specs.Written.{list_at as written_at}
use Rattle.unit_write.specs.declared.places.Places.{Places}
use Rattle.value_links.specs.Sections.{debug_lists}
use Rattle.list_arena.specs.Held.{HeldList, HeldViews}
use Rattle.value_links.specs.Reading.{ListRead, ViewRead, Reading, of_kind, lists_of, list_at, view_at}
use Rattle.value_links.specs.Lists.{AreViewsApart}
use Rattle.value_links.specs.ListFaults.{entry_total}
use Rattle.value_links.specs.Whole.{IsReading}
use Rattle.value_links.specs.World.{World, lists_held, Holds}
use Rattle.list_model.specs.declared.entry.ListKind.TheVariants.{Locations}
use Rattle.rewriter.specs.declared.new_places.ListPlaces.{ListPlaces}
use Rattle.rewriter.specs.inside.Lists.{AreListsWritten}
use Rattle.rewriter.specs.declared.new_places.MovedViews.{MovedViews}
use Rattle.rewriter.specs.inside.NewPlaces.{moved_views_at, AreMovedViews}
use Rattle.rewriter.specs.inside.Runs.{views_among, run_for}
use Rattle.rewriter.specs.inside.Held.{AreListPlaces, AreViewPlaces}
use Rattle.rewriter.proofs.RunsAnew.{find_run}
use Rattle.rewriter.proofs.Links.{some_of, view_read}
use Rattle.rewriter.proofs.ViewRuns.{view_held, pairs_count}

-- contributions without bytes are none, and none have no bytes
no_parts : (section : List ℕ) (parts : List Contribution) → length section ≡ 0 → ContributionsTile section parts → length parts ≡ 0
no_parts section [] none tile = refl
no_parts section (part ∷ parts) none tile =
    let inside = tile.1.whole.inside in
    absurd (omega (arith, inside, none))

parts_empty : (section : List ℕ) (parts : List Contribution) → length parts ≡ 0 → ContributionsTile section parts → length section ≡ 0
parts_empty section [] none tile = sym tile
parts_empty section (part ∷ parts) none tile = absurd (omega (arith, none))

-- where a contribution stands
part_inside : (section : List ℕ) (part : Contribution) → IsContribution section part → (offsets_at part.at ≤ part_end part) × (part_end part ≤ length section)
part_inside section part is =
    let fits = is.fits in
    let ends = is.ends in
    let inside = is.whole.inside in
    (omega (arith, fits), omega (arith, ends, inside))

-- lists that have at most twice the entries of others, one by one, have at most twice as many together
pub totals_double : (old new : List ListRead) → length new ≡ length old → ((k : ℕ) → k < length old → length (list_at new k).raws ≤ 2 * length (list_at old k).raws) → entry_total new ≤ 2 * entry_total old
totals_double [] [] count each = omega arith
totals_double [] (l ∷ new) count each = absurd (omega (arith, count))
totals_double (k ∷ old) [] count each = absurd (omega (arith, count))
totals_double (k ∷ old) (l ∷ new) count each =
    let was : entry_total (k ∷ old) ≡ length k.raws + entry_total old = sum_by-cons (λ (list : ListRead). length list.raws) k old in
    let now : entry_total (l ∷ new) ≡ length l.raws + entry_total new = sum_by-cons (λ (list : ListRead). length list.raws) l new in
    let here : length l.raws ≤ 2 * length k.raws = each 0 (omega arith) in
    let rest : entry_total new ≤ 2 * entry_total old = totals_double old new (omega (arith, count)) (λ n inside. each (suc n) (omega (arith, inside))) in
    omega (arith, was, now, here, rest)

module _ {classes : Classes} {file : List ℕ} {r : Reading} {placed : List Places} {kind : ListKind} {section : List ℕ} {parts : List Contribution} {moved views : List Moved} (read : IsReading file r) (written : AreListsWritten classes r placed kind section parts moved views) where
  -- a file without the section gets no bytes for it
  pub lists_for : debug_lists file kind ≡ [] → section ≡ []
  lists_for none =
      let old = read.links.lists kind in
      let empty : length (of_kind r.links kind).section ≡ 0 = ap (λ (z : List ℕ). length z) (old.bytes_are ∙ none) in
      let no : length (of_kind r.links kind).parts ≡ 0 = no_parts (of_kind r.links kind).section (of_kind r.links kind).parts empty old.tiled in
      let count = written.written.parts_count in
      nil_from_length section (parts_empty section parts (omega (arith, no, count)) written.written.tiled)

  all_parts : All (IsContribution section) parts
  all_parts = each_part section parts 0 (length section) written.written.tiled

  part_below : (part : Contribution) → IsContribution section part → offsets_at part.at < 2 ^ 32
  part_below part is =
      let inside = part_inside section part is in
      let low = inside.0 in
      let high = inside.1 in
      let fits = written.written.fits in
      omega (arith, low, high, fits)

  place_below : (k at : ℕ) → k < length (lists_of r kind) → HoldsList (part_at parts (written_at written.lists k).part) at → at < 2 ^ 32
  place_below k at inside stands =
      let w = written.written in
      let plan = written.each k inside in
      let p : ℕ = (written_at written.lists k).part in
      let same : p ≡ (list_at (lists_of r kind) k).part = plan.part in
      let known = ((read.lists kind).each k inside).begins.0 in
      let parts_count = w.parts_count in
      let there : IsContribution section (part_at parts p) = All-get_or (IsContribution section) parts p (record { at = 0; len = 0; slots = 0 }) (omega (arith, same, known, parts_count)) all_parts in
      let high = (part_inside section (part_at parts p) there).1 in
      let before = stands.before in
      let fits = w.fits in
      omega (arith, high, before, fits)

  list_below : (k : ℕ) → k < length (lists_of r kind) → (moved_at moved k).new < 2 ^ 32
  list_below k inside =
      let plan = written.each k inside in
      place_below k (moved_at moved k).new inside (written.written.each k (let count = written.count in omega (arith, count, inside)) plan.entries plan.picked).holds

  -- there are as many runs of view pairs as are read, and they fit too
  pub views_counted : length views ≡ length (views_among kind r.views)
  views_counted = written.written.views_count ∙ ap (λ (z : List Run). length z) written.runs ∙ length-map (views_among kind r.views) run_for

  pub view_below : (n : ℕ) → n < length views → (moved_at views n).new < 2 ^ 32
  view_below n inside =
      let count = written.count in
      let all = written.written.views_count in
      let (k, i, is) = find_run written.lists n (omega (arith, inside, all)) in
      let known = is.known in
      let stands = written.written.views_each k i is.known is.inside in
      subst (λ (z : ℕ). (moved_at views z).new < 2 ^ 32) (sym is.number) (place_below k (moved_at views (runs_before written.lists k + i)).new (omega (arith, known, count)) stands.holds)

  module _ (world : World) (holds : Holds file world r) (places : ListPlaces) (parts_are : places.parts.items ≡ parts) (moved_are : places.lists.items ≡ moved) where
    list_from : (k : ℕ) (d : HeldList) → k < length (lists_held world kind) → (moved_at moved k).old ≡ (slice_index_or (lists_held world kind) k d).at
    list_from k d inside =
        let count = (holds.lists kind).count in
        let known : k < length (lists_of r kind) = omega (arith, count, inside) in
        let all = written.count in
        written.written.from k (omega (arith, all, known)) ∙ (written.each k known).at ∙ sym ((holds.lists kind).each k d known).at

    lists_rise : (j k : ℕ) → j < k → k < length moved → (moved_at moved j).old < (moved_at moved k).old
    lists_rise j k less inside =
        let count = written.written.count in
        let all = written.count in
        let known : k < length (lists_of r kind) = omega (arith, count, all, inside) in
        let j_known : j < length (lists_of r kind) = omega (arith, known, less) in
        let here : (moved_at moved j).old ≡ (list_at (lists_of r kind) j).at = written.written.from j (omega (arith, all, j_known)) ∙ (written.each j j_known).at in
        let there : (moved_at moved k).old ≡ (list_at (lists_of r kind) k).at = written.written.from k (omega (arith, all, known)) ∙ (written.each k known).at in
        let rise = (read.lists kind).rising j k less known in
        omega (arith, here, there, rise)

    pub list_places : AreListPlaces world kind places
    list_places = record {
      parts = ap (λ (z : List Contribution). length z) parts_are ∙ written.written.parts_count ∙ sym (ap (λ (z : List Contribution). length z) (holds.contributions kind));
      parts_fit = subst (λ (z : List Contribution). All (λ (part : Contribution). offsets_at part.at < 2 ^ 32) z) (sym parts_are) (All-weaker (IsContribution section) (λ (part : Contribution). offsets_at part.at < 2 ^ 32) part_below parts all_parts);
      lists = ap (λ (z : List Moved). length z) moved_are ∙ written.written.count ∙ written.count ∙ sym (holds.lists kind).count;
      from = λ k d inside. ap (λ (z : List Moved). (moved_at z k).old) moved_are ∙ list_from k d inside;
      rising = subst (λ (z : List Moved). (j k : ℕ) → j < k → k < length z → (moved_at z j).old < (moved_at z k).old) (sym moved_are) lists_rise;
      lists_fit = subst (λ (z : List Moved). All (λ (list : Moved). list.new < 2 ^ 32) z) (sym moved_are) (All-from_get_or (λ (list : Moved). list.new < 2 ^ 32) moved (record { old = 0; new = 0 }) (λ k inside. (
          let count = written.written.count in
          let all = written.count in
          list_below k (omega (arith, count, all, inside))
          )));
    }

-- ---- view pairs

module _ {classes : Classes} {file : List ℕ} {r : Reading} {placed : List Places} {section : List ℕ} {parts : List Contribution} {moved views : List Moved} (read : IsReading file r) (written : AreListsWritten classes r placed Locations section parts moved views) (world : World) (holds : Holds file world r) where
  -- there are as many new places as runs that are held
  pub views_held_count : length views ≡ length world.views
  views_held_count = views_counted read written ∙ pairs_count holds Locations

  module _ (places : List MovedViews) (are : AreMovedViews world.views views places) where
    -- a run with its new place, and as it is read
    pub moved_from_read : (k : ℕ) → k < length r.views → ((moved_views_at places k).list ≡ (view_at r.views k).list) × ((moved_views_at places k).old ≡ (view_at r.views k).at) × ((moved_views_at places k).new ≡ (moved_at views k).new)
    moved_from_read k inside =
        let count = pairs_count holds Locations in
        let known : k < length world.views = omega (arith, inside, count) in
        let view : HeldViews = some_of world.views k known in
        let is = are.each k view known in
        let held : view_at r.views k ≡ view_read (slice_index_or world.views k view) = view_held holds Locations k view known in
        (ap (λ (z : MovedViews). z.list) is ∙ sym (ap (λ (z : ViewRead). z.list) held), ap (λ (z : MovedViews). z.old) is ∙ sym (ap (λ (z : ViewRead). z.at) held), ap (λ (z : MovedViews). z.new) is)

    still_apart : (a b : ViewRead) (c d : MovedViews) → c.list ≡ a.list → c.old ≡ a.at → d.list ≡ b.list → d.old ≡ b.at → AreViewsApart a b → (c.list < d.list) ⊎ ((c.list ≡ d.list) × (c.old < d.old))
    still_apart a b c d c_list c_at d_list d_at (inl less) = inl (omega (arith, c_list, d_list, less))
    still_apart a b c d c_list c_at d_list d_at (inr (same, less)) = inr (c_list ∙ same ∙ sym d_list, omega (arith, c_at, d_at, less))

    pub view_places : AreViewPlaces world places
    view_places = record {
      count = are.count;
      each = λ k d known. (let is = are.each k d known in (ap (λ (z : MovedViews). z.list) is, ap (λ (z : MovedViews). z.old) is));
      rising = λ j k less inside.
          let count = pairs_count holds Locations in
          let all = are.count in
          let known : k < length r.views = omega (arith, inside, count, all) in
          let one = moved_from_read j (omega (arith, less, known)) in
          let other = moved_from_read k known in
          still_apart (view_at r.views j) (view_at r.views k) (moved_views_at places j) (moved_views_at places k) one.0 one.1 other.0 other.1 (read.views.rising j k less known);
      fit = All-from_get_or (λ (views : MovedViews). views.new < 2 ^ 32) places (moved_views_at [] 0) (λ k inside. (
          let all = are.count in
          let count = pairs_count holds Locations in
          let counted = views_held_count in
          let here = moved_from_read k (omega (arith, inside, all, count)) in
          let below = view_below read written k (omega (arith, inside, all, counted)) in
          let same = here.2 in
          omega (arith, same, below)
          ));
    }

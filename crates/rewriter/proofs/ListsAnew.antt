-- What is read of the lists of a kind that were written anew.
use Rattle.std.proofs.Common.{◌≡◌, ◌<◌, ◌+◌, ◌++◌, ◌∙◌, ℕ, zero, suc, List, [], ◌∷◌, length, get_or, map, true, inl, inr, sym, ap, refl, subst, arith}
use Rattle.std.specs.Prelude.{filter, flat_map, nat_eq, slice_index}
use Rattle.std.specs.List.{All, Contains, sum_by}
use Rattle.std.proofs.lemmas.Bool.{cases_lt, eqb-true, eq-eqb}
use Rattle.std.proofs.lemmas.List.{nil_from_length, length-map, get_or-map}
use Rattle.std.proofs.lemmas.List.Elements.{All-from_get_or}
use Rattle.std.proofs.lemmas.Slice.Zip.{AllZip-long}
use Rattle.dw_base.specs.declared.classes.Classes.{Classes}
use Rattle.list_model.specs.declared.contribution.Contribution.{Contribution}
use Rattle.list_model.specs.declared.entry.ListKind.{ListKind}
use Rattle.list_model.specs.declared.entry.ListKind.TheVariants.{Ranges, Locations}
use Rattle.list_model.specs.declared.entry.RawEntry.{RawEntry}
use Rattle.list_model.specs.Contributions.{lists_at, part_end, HoldsList, bytes_from}
use Rattle.list_model.specs.Entries.{Entry, AreSaid}
use Rattle.list_model.proofs.WalkLaws.{one_saying}
use Rattle.loc_lists.specs.declared.views.ViewPair.{ViewPair}
use Rattle.loc_lists.specs.Laws.{LocationsWritten}
use Rattle.loc_lists.specs.Views.{SpellsPair, ShortestPair, IsRunAt}
use Rattle.spelled.specs.Spelled.{Joined}
use Rattle.list_least.specs.Plans.{entries_bytes}
use Rattle.list_least.specs.Shortest.{ShortestList}
use Rattle.list_least.proofs.Shortest.{shortest_lists}
use Rattle.list_write.specs.declared.image.Moved.{Moved}
use Rattle.list_write.specs.Written.{ToWrite, Run, moved_at, run_at, behind_size, own_size, all_runs, runs_before, run_stretches, stretches, ShortestWith, Follow}
use Rattle.list_write.specs.Written.{part_at as new_part_at, list_at as written_at}
use Rattle.range_lists.specs.Laws.{RangesWritten}
use Rattle.unit_write.specs.declared.places.Places.{Places}
use Rattle.value_links.specs.Reading.{ListSection, ListRead, ViewRead, Linkable, Reading, of_kind, lists_of, list_at, view_at, part_at}
use Rattle.value_links.specs.Lists.{IsListOf, expressions_in, owner_unit, pair_count}
use Rattle.value_links.specs.ListPlaces.{SlotNames}
use Rattle.written_files.specs.Classes.{AreBare}
use Rattle.written_files.specs.TidyLists.{IsWhole, RunsStand, views_with, Fill, IsFilled}
use Rattle.value_links.specs.Whole.{IsReading}
use Rattle.rewriter.specs.declared.new_places.ListPlaces.{ListPlaces}
use Rattle.rewriter.specs.inside.Numbers.{IsNewExpression}
use Rattle.rewriter.specs.inside.ListsAnew.{IsListAnew, AreListsAnew}
use Rattle.rewriter.specs.inside.Lists.{AreNewExpressions, AreListsWritten}
use Rattle.rewriter.specs.inside.Runs.{views_among, run_for}
use Rattle.rewriter.specs.inside.ViewsKept.{IsRunHere, IsRunKept, AreViewsKept}
use Rattle.rewriter.proofs.ApartLaws.{apart_any, apart_spelled, apart_size}
use Rattle.rewriter.proofs.PickedLists.{choose, filter_is}
use Rattle.rewriter.proofs.MovedLists.{number_once}
use Rattle.rewriter.proofs.PlannedLists.{said_count, list_said}
use Rattle.rewriter.proofs.RunsAnew.{moved_runs, thin, group, new_views, HasNumber, views_found, views_rise, found_run, numbered_run, came_from, run_found, runs_anew, group_stands}

-- ---- one list

-- location lists alone have expressions
abbrev HaveOnlyLocations : ListKind → List (List ℕ) → Type 0
HaveOnlyLocations Ranges expressions = expressions ≡ []
HaveOnlyLocations Locations expressions = Unit {0}

made_for : (r : Linkable) (places : List Places) (kind : ListKind) (list : ListRead) (made : List (List ℕ)) → AreNewExpressions r places kind list made → HaveOnlyLocations kind made
made_for r places Ranges list made new = nil_from_length made (AllZip-long (IsNewExpression r places (owner_unit r new.owner)) [] made new.each)
made_for r places Locations list made new = tt

-- the new expressions are those that are read
read_made : (r : Linkable) (places : List Places) (kind : ListKind) (list : ListRead) (section : List ℕ) (raws : List RawEntry) (made : List (List ℕ)) → expressions_in kind section raws ≡ made → AreNewExpressions r places kind list made → AreNewExpressions r places kind list (expressions_in kind section raws)
read_made r places kind list section raws made same new = subst (λ (z : List (List ℕ)). AreNewExpressions r places kind list z) (sym same) new

-- A list that stands at a place is read there, with its entries and its expressions, and its bytes have none too many.
record IsReadBack (kind : ListKind) (section : List ℕ) (part : Contribution) (at : ℕ) (entries : List Entry) (expressions : List (List ℕ)) (bytes bare : List ℕ) : Type 0 where
  raws : List RawEntry
  read : IsListOf kind section part at raws
  said : AreSaid kind raws entries
  carried : expressions_in kind section raws ≡ expressions
  whole : IsWhole kind raws bytes
  without : AreBare kind bytes bare
  shortest : ShortestList kind entries bare
  size : length bytes ≡ entries_bytes entries + 1 + sum_by behind_size expressions

read_back : RangesWritten → LocationsWritten → (kind : ListKind) (section : List ℕ) (part : Contribution) (at : ℕ) (entries : List Entry) (expressions : List (List ℕ)) (bytes bare rest : List ℕ) → HaveOnlyLocations kind expressions → ShortestWith kind entries expressions bytes bare → bytes_from section part at ≡ bytes ++ rest → IsReadBack kind section part at entries expressions bytes bare
read_back ranges locations Ranges section part at entries expressions bytes bare rest none (shortest, same) stands =
    let spelled = shortest_lists.spelled Ranges entries bytes shortest in
    let (raws, read, said) = ranges section part at entries bytes rest stands spelled in
    let size : length bytes ≡ entries_bytes entries + 1 = shortest_lists.size Ranges entries bytes shortest in
    let no_more : sum_by behind_size expressions ≡ 0 = ap (sum_by behind_size) none in
    record {
      raws = raws;
      read = read;
      said = said;
      carried = sym none;
      whole = (entries, said, spelled);
      without = sym same;
      shortest = subst (λ (z : List ℕ). ShortestList Ranges entries z) (sym same) shortest;
      size = omega (arith, size, no_more);
    }
read_back ranges locations Locations section part at entries expressions bytes bare rest none (found, entries_are, expressions_are, apart, shortest) stands =
    let any = apart_any found bytes bare apart in
    let (raws, read, told) = locations section part at found bytes rest stands (apart_spelled found bytes bare any) in
    let bare_size : length bare ≡ entries_bytes entries + 1 = shortest_lists.size Locations entries bare shortest in
    let size = apart_size found bytes bare apart in
    let behind = ap (sum_by behind_size) expressions_are in
    record {
      raws = raws;
      read = read;
      said = subst (λ (z : List Entry). AreSaid Locations raws z) entries_are told.said;
      carried = told.expressions ∙ expressions_are;
      whole = (found, bare, told.said, apart);
      without = (found, any);
      shortest = shortest;
      size = omega (arith, bare_size, size, behind);
    }

-- ---- view pairs

-- what follows one after the other does so in two parts
follow_apart : (one other : List (ℕ × ℕ)) (from to : ℕ) → Follow (one ++ other) from to → (middle : ℕ) × Follow one from middle × Follow other middle to
follow_apart [] other from to follow = (from, refl, follow)
follow_apart ((at, size) ∷ one) other from to (here, more) = let (middle, front, back) = follow_apart one other (from + size) to more in (middle, (here, front), back)

follow_one : (f : ℕ → List (ℕ × ℕ)) (ks : List ℕ) (k from to : ℕ) → Contains ks k → Follow (flat_map f ks) from to → (start : ℕ) × (end : ℕ) × Follow (f k) start end
follow_one f [] k from to (i, less, is) follow = absurd (omega arith)
follow_one f (x ∷ ks) k from to (zero, less, is) follow =
    let (middle, front, back) = follow_apart (f x) (flat_map f ks) from to follow in
    (from, middle, subst (λ (z : ℕ). Follow (f z) from middle) is front)
follow_one f (x ∷ ks) k from to (suc i, less, is) follow =
    let (middle, front, back) = follow_apart (f x) (flat_map f ks) from to follow in
    follow_one f ks k middle to (i, omega arith, is) back

shortest_spelled : (pairs : List ViewPair) (bytes : List ℕ) → Joined ShortestPair pairs bytes → Joined SpellsPair pairs bytes
shortest_spelled [] bytes none = none
shortest_spelled (pair ∷ pairs) bytes (first, rest, shortest, more, is) = (first, rest, shortest.0, shortest_spelled pairs rest more, is)

-- a run has as many pairs as the entries of its list ask
counted_pairs : {file : List ℕ} {r : Reading} → IsReading file r → (kind : ListKind) (n : ℕ) → n < length (views_among kind r.views) → (q : ℕ) × (q < length (lists_of r kind)) × ((list_at (lists_of r kind) q).at ≡ (view_at (views_among kind r.views) n).list) × ((entries : List Entry) × AreSaid kind (list_at (lists_of r kind) q).raws entries × (length (view_at (views_among kind r.views) n).pairs ≡ pair_count entries))
counted_pairs read Ranges n inside = absurd (omega arith)
counted_pairs read Locations n inside = let each = read.views.each n inside in (each.k, each.inside, each.at, (each.entries, each.said, each.counted))

pairs_with : (kind : ListKind) (views : List ViewRead) (list : ListRead) (group : List ViewRead) → (kind ≡ Ranges → group ≡ []) → filter (λ (run : ViewRead). nat_eq run.list list.at) views ≡ group → views_with kind views list ≡ group
pairs_with Ranges views list group none is = sym (none refl)
pairs_with Locations views list group none is = is

-- ranges are filled whatever view pairs there are
abbrev pub HasViews : ListKind → List ViewRead → List ViewRead → Type 0
HasViews Ranges made views = Unit {0}
HasViews Locations made views = views ≡ made

filled_with : (kind : ListKind) (made views : List ViewRead) → HasViews kind made views → (section : List ℕ) (part : Contribution) (lists : List ListRead) (from : ℕ) → Fill kind made section part lists from → Fill kind views section part lists from
filled_with Ranges made views has section part [] from filled = filled
filled_with Ranges made views has section part (list ∷ lists) from (runs, (bytes, rest, whole, stands, more)) = (runs, (bytes, rest, whole, stands, filled_with Ranges made views has section part lists (list.at + length bytes) more))
filled_with Locations made views has section part lists from filled = subst (λ (z : List ViewRead). Fill Locations z section part lists from) (sym has) filled

-- ---- all lists

-- the section that is written
abbrev section_of : List ℕ → List Contribution → ListSection
section_of section parts = record { section = section; parts = parts }

-- A list stands in the new section where it was moved to, with no byte more than it was to have.
record StandsAnew (kind : ListKind) (section : List ℕ) (parts : List Contribution) (place : Moved) (written : ToWrite) (new : ListRead) : Type 0 where
  at : new.at ≡ place.new
  part : new.part ≡ written.part
  bytes : List ℕ
  rest : List ℕ
  whole : IsWhole kind new.raws bytes
  stands : bytes_from section (new_part_at parts written.part) place.new ≡ bytes ++ rest
  size : length bytes ≡ own_size written

module _ {classes : Classes} (ranges : RangesWritten) (locations : LocationsWritten) (file : List ℕ) (r : Reading) (read : IsReading file r) (places : List Places) (kind : ListKind) (section : List ℕ) (parts : List Contribution) (moved views : List Moved) (w : AreListsWritten classes r places kind section parts moved views) where
  abbrev olds : List ListRead
  olds = lists_of r kind

  abbrev old_section : ListSection
  old_section = of_kind r.links kind

  -- what is true of the list with a number
  abbrev IsNew : ℕ → ListRead → Type 0
  IsNew k new = IsListAnew classes r places kind (section_of section parts) (list_at olds k) new × StandsAnew kind section parts (moved_at moved k) (written_at w.lists k) new

  new_list : (k : ℕ) → k < length olds → (new : ListRead) × IsNew k new
  new_list k inside =
      let plan = w.each k inside in
      let made = w.expressions k inside in
      let expressions : List (List ℕ) = (written_at w.lists k).expressions in
      let place : ℕ = (moved_at moved k).new in
      let number : ℕ = (written_at w.lists k).part in
      let there = w.written.each k (omega (arith, inside, w.count)) plan.entries plan.picked in
      let got = read_back ranges locations kind section (new_part_at parts number) place plan.entries expressions there.bytes there.bare there.rest (made_for r.links places kind (list_at olds k) expressions made) there.shortest there.whole in
      let known : number < length parts = omega (arith, ((read.lists kind).each k inside).begins.0, plan.part, w.written.parts_count) in (
        record { at = place; part = number; raws = got.raws },
        (
          record {
            part = plan.part;
            begins = (known, there.holds);
            read = got.read;
            entries = plan.entries;
            said = got.said;
            few = omega (arith, said_count kind got.raws plan.entries got.said, plan.few);
            same = plan.same;
            expressions = read_made r.links places kind (list_at olds k) section got.raws expressions got.carried made;
            bytes = there.bytes;
            rest = there.rest;
            stands = there.whole;
            whole = got.whole;
            bare = there.bare;
            without = got.without;
            least = plan.least there.bare got.shortest;
          },
          record {
            at = refl;
            part = refl;
            bytes = there.bytes;
            rest = there.rest;
            whole = got.whole;
            stands = there.whole;
            size = omega (arith, got.size, plan.size);
          },
        ),
      )

  module _ (lists : List ListRead) (count : length lists ≡ length olds) (are : (k : ℕ) (d : ListRead) → k < length olds → IsNew k (get_or lists k d)) where
    at_of : (k : ℕ) → k < length olds → (list_at lists k).at ≡ (moved_at moved k).new
    at_of k inside = (are k (list_at [] 0) inside).1.at

    slot_anew : (p i k : ℕ) → k < length olds → SlotNames old_section p i (list_at olds k).at → SlotNames (section_of section parts) p i (list_at lists k).at
    slot_anew p i k inside (slot, some) =
        let told = w.written.told p i k slot.known slot.counted (omega (arith, inside, w.count)) ((w.each k inside).at ∙ slot.tells) in (
          record {
            known = omega (arith, slot.known, w.written.parts_count);
            counted = omega (arith, slot.counted, w.written.slots p slot.known);
            tells = at_of k inside ∙ told;
          },
          ((list_at lists k).part, (are k (list_at [] 0) inside).0.begins),
        )

    are_anew : (new_places : ListPlaces) → new_places.parts.items ≡ parts → new_places.lists.items ≡ moved → AreListsAnew classes r places kind (section_of section parts) lists new_places
    are_anew new_places parts_are lists_are = record {
      tiled = w.written.tiled;
      parts_are = sym parts_are;
      parts = w.written.parts_count;
      slots = w.written.slots;
      count = count;
      moves = ap length lists_are ∙ w.written.count ∙ w.count;
      from = λ k inside. ap (λ (z : List Moved). (moved_at z k).old) lists_are ∙ w.written.from k (omega (arith, inside, w.count)) ∙ (w.each k inside).at;
      to = λ k inside. ap (λ (z : List Moved). (moved_at z k).new) lists_are ∙ sym (at_of k inside);
      rising = λ j k less inside. omega (arith, at_of j (omega (arith, count)), at_of k (omega (arith, count)), w.written.rising j k less (omega (arith, inside, count, w.count)));
      each = λ k inside. (are k (list_at [] 0) inside).0;
      named = slot_anew;
    }

    known_at : (k : ℕ) → k < length w.lists → k < length olds
    known_at k inside = omega (arith, inside, w.count)

    -- VIEW PAIRS

    -- before each list its view pairs follow each other
    runs_follow : (k : ℕ) → k < length w.lists → (from : ℕ) × Follow (run_stretches views (runs_before w.lists k) (written_at w.lists k).views) from (moved_at moved k).new
    runs_follow k inside =
        let p : ℕ = (written_at w.lists k).part in
        let known : p < length old_section.parts = omega (arith, (w.each k (known_at k inside)).part, ((read.lists kind).each k (known_at k inside)).begins.0) in
        let (numbers, are, follow) = w.written.filled p known in
        let (from, to, here) = follow_one (stretches moved views w.lists) numbers k (lists_at (new_part_at parts p)) (part_end (new_part_at parts p)) (are.all k inside refl) follow in
        let (middle, runs, own) = follow_apart (run_stretches views (runs_before w.lists k) (written_at w.lists k).views) (((moved_at moved k).new, own_size (written_at w.lists k)) ∷ []) from to here in
        (from, subst (λ (z : ℕ). Follow (run_stretches views (runs_before w.lists k) (written_at w.lists k).views) from z) (sym own.0) runs)

    -- all runs of a list have as many pairs
    all_count : length (all_runs w.lists) ≡ length (views_among kind r.views)
    all_count = ap length w.runs ∙ length-map (views_among kind r.views) run_for

    run_is : (n : ℕ) → n < length (views_among kind r.views) → run_at (all_runs w.lists) n ≡ run_for (view_at (views_among kind r.views) n)
    run_is n inside = ap (λ (z : List Run). run_at z n) w.runs ∙ get_or-map run_for (views_among kind r.views) n (view_at [] 0) (run_at [] 0) inside

    run_counted : (k i : ℕ) → k < length w.lists → i < length (written_at w.lists k).views → (entries : List Entry) → AreSaid kind (list_at olds k).raws entries → length (run_at (written_at w.lists k).views i).pairs ≡ pair_count entries
    run_counted k i inside less entries said =
        let n : ℕ = runs_before w.lists k + i in
        let found = run_found w.lists n k i (record { known = inside; inside = less; number = refl }) in
        let known : n < length (views_among kind r.views) = omega (arith, found.0, all_count) in
        let (q, q_in, at, (others, says, counted)) = counted_pairs read kind n known in
        let same : q ≡ k = number_once (λ (z : ℕ). (list_at olds z).at) (length olds) (read.lists kind).rising q k q_in (known_at k inside) (at ∙ w.own k i (known_at k inside) less) in
        let entries_same : others ≡ entries = one_saying kind (list_at olds k).raws others entries (subst (λ (z : ℕ). AreSaid kind (list_at olds z).raws others) same says) said in
        ap (λ (z : Run). length z.pairs) (sym found.1 ∙ run_is n known) ∙ counted ∙ ap pair_count entries_same

    run_counts : (k : ℕ) → k < length w.lists → (count : ℕ) × All (λ (run : Run). length run.pairs ≡ count) (written_at w.lists k).views
    run_counts k inside =
        let old = list_at olds k in
        let (entries, said, _) = list_said kind old_section.section (part_at old_section old.part) old.at old.raws ((read.lists kind).each k (known_at k inside)).read in
        (pair_count entries, All-from_get_or (λ (run : Run). length run.pairs ≡ pair_count entries) (written_at w.lists k).views (run_at [] 0) (λ i less. run_counted k i inside less entries said))

    abbrev made : List ViewRead
    made = new_views section parts w.lists moved views w.written.rising w.written.views_each runs_follow run_counts

    abbrev group_at : ℕ → List ViewRead
    group_at k = group section parts w.lists moved views w.written.rising w.written.views_each runs_follow run_counts k

    no_runs : (k : ℕ) → k < length w.lists → kind ≡ Ranges → (written_at w.lists k).views ≡ []
    no_runs k inside is = nil_from_length (written_at w.lists k).views (elim (cases_lt 0 (length (written_at w.lists k).views)) [
      | inl some ↦ (let found = run_found w.lists (runs_before w.lists k + 0) k 0 (record { known = inside; inside = some; number = refl }) in let none : length (views_among kind r.views) ≡ 0 = ap (λ (z : ListKind). length (views_among z r.views)) is in absurd (omega (arith, found.0, none, all_count)))
      | inr none ↦ omega arith
    ])

    -- those that go with a list
    with_list : (k : ℕ) → k < length olds → views_with kind made (list_at lists k) ≡ group_at k
    with_list k known =
        let inside : k < length w.lists = omega (arith, known, w.count) in
        let found = views_found section parts w.lists moved views w.written.rising w.written.views_each runs_follow run_counts k inside in
        pairs_with kind made (list_at lists k) (group_at k)
        (λ is. ap (λ (z : List Run). thin (moved_runs views (moved_at moved k).new (runs_before w.lists k) z)) (no_runs k inside is))
        (ap (λ (z : ℕ). filter (λ (run : ViewRead). nat_eq run.list z) made) (at_of k known) ∙ found)

    -- they are the old ones
    abbrev HasRun : ℕ → ℕ → Type 0
    HasRun n m = HasNumber section parts w.lists moved views w.written.rising w.written.views_each runs_follow run_counts n m

    run_kept : (n m : ℕ) → n < length (views_among kind r.views) → HasRun n m → IsRunKept r kind lists (view_at (views_among kind r.views) n) (view_at made m)
    run_kept n m inside has =
        let known : has.k < length olds = known_at has.k has.is.known in
        let now = numbered_run section parts w.lists moved views w.written.rising w.written.views_each runs_follow run_counts n m has in
        record {
          list = has.k;
          inside = known;
          from = ap (λ (z : ℕ). (view_at (views_among kind r.views) z).list) has.is.number ∙ w.own has.k has.i known has.is.inside;
          to = ap (λ (z : ViewRead). z.list) now ∙ sym (at_of has.k known);
          pairs = ap (λ (z : ViewRead). z.pairs) now ∙ ap (λ (z : Run). z.pairs) (run_is n inside);
        }

    run_here : (n m : ℕ) → HasRun n m → IsRunHere (section_of section parts) lists (view_at made m)
    run_here n m has =
        let known : has.k < length olds = known_at has.k has.is.known in
        let s = (are has.k (list_at [] 0) known).1 in
        let there = w.written.views_each has.k has.i has.is.known has.is.inside in
        let part_known : (list_at lists has.k).part < length parts = (are has.k (list_at [] 0) known).0.begins.0 in
        let at : ℕ = (moved_at views (runs_before w.lists has.k + has.i)).new in
        subst (IsRunHere (section_of section parts) lists) (sym (found_run section parts w.lists moved views w.written.rising w.written.views_each runs_follow run_counts n m has)) (record {
          k = has.k;
          inside = omega (arith, known, count);
          with = at_of has.k known;
          begins = (part_known, subst (λ (z : ℕ). HoldsList (new_part_at parts z) at) (sym s.part) there.holds);
          stands = subst (λ (z : ℕ). IsRunAt section (new_part_at parts z) at (run_at (written_at w.lists has.k).views has.i).pairs) (sym s.part) (record { run = there.bytes; rest = there.rest; spelled = shortest_spelled (run_at (written_at w.lists has.k).views has.i).pairs there.bytes there.shortest; whole = there.whole });
        })

    views_kept : AreViewsKept r kind (section_of section parts) lists made views
    views_kept =
        let all = runs_anew section parts w.lists moved views w.written.rising w.written.views_each runs_follow run_counts in
        let rise = views_rise section parts w.lists moved views w.written.rising w.written.views_each runs_follow run_counts in
        record {
          numbers = all.numbers;
          numbered = all.count ∙ all_count;
          inside = λ k known. (all.has k (omega (arith, known, all_count))).inside;
          to = λ k known. sym (ap (λ (z : ViewRead). z.at) (numbered_run section parts w.lists moved views w.written.rising w.written.views_each runs_follow run_counts k (slice_index all.numbers k) (all.has k (omega (arith, known, all_count)))));
          order = λ j k less known. elim (all.order j k less (omega (arith, known, all_count))) [
            | inl before ↦ inl before
            | inr (same, none) ↦ inr (same, sym (ap (λ (z : Run). z.pairs) (run_is k known)) ∙ none)
          ];
          all = λ n inside. (let (k, known, same) = all.all n inside in (k, omega (arith, known, all_count), same));
          each = λ k known. run_kept k (slice_index all.numbers k) known (all.has k (omega (arith, known, all_count)));
          rising = λ j k less inside. rise j k (view_at [] 0) less inside;
          read = λ n inside. (let (k, known, has) = came_from section parts w.lists moved views w.written.rising w.written.views_each runs_follow run_counts n inside in run_here k n has);
        }

    -- FILLED

    -- the lists with some numbers, each behind its view pairs, fill what follows in a contribution
    fill : (p : ℕ) (ks : List ℕ) (from : ℕ) → ((k : ℕ) → Contains ks k → (k < length w.lists) × ((written_at w.lists k).part ≡ p)) → Follow (flat_map (stretches moved views w.lists) ks) from (part_end (new_part_at parts p)) → Fill kind made section (new_part_at parts p) (map (λ (k : ℕ). list_at lists k) ks) from
    fill p [] from each follow = follow
    fill p (k ∷ ks) from each follow =
        let one = each k (0, omega arith, refl) in
        let known : k < length olds = known_at k one.0 in
        let s = (are k (list_at [] 0) known).1 in
        let (behind, here, later) = follow_apart (stretches moved views w.lists k) (flat_map (stretches moved views w.lists) ks) from (part_end (new_part_at parts p)) follow in
        let (start, runs, own) = follow_apart (run_stretches views (runs_before w.lists k) (written_at w.lists k).views) (((moved_at moved k).new, own_size (written_at w.lists k)) ∷ []) from behind here in
        let at : start ≡ (list_at lists k).at = sym (s.at ∙ own.0) in
        let stand = group_stands section parts w.lists moved views w.written.rising w.written.views_each runs_follow run_counts k one.0 from start runs in
        let in_part = subst (λ (z : ℕ). RunsStand section (new_part_at parts z) (group_at k) from start) one.1 stand in
        let before = subst (λ (z : ℕ). RunsStand section (new_part_at parts p) (group_at k) from z) at in_part in
        let next : behind ≡ (list_at lists k).at + length s.bytes = omega (arith, own.1, at, s.size) in
        let rest = subst (Fill kind made section (new_part_at parts p) (map (λ (k : ℕ). list_at lists k) ks)) next (fill p ks behind (λ j (i, less, is). each j (suc i, omega arith, is)) later) in
        let stands = subst (λ (z : ℕ). bytes_from section (new_part_at parts z) (moved_at moved k).new ≡ s.bytes ++ s.rest) one.1 s.stands in
        let there = subst (λ (z : ℕ). bytes_from section (new_part_at parts p) z ≡ s.bytes ++ s.rest) (sym s.at) stands in
        (subst (λ (z : List ViewRead). RunsStand section (new_part_at parts p) z from (list_at lists k).at) (sym (with_list k known)) before, (s.bytes, s.rest, s.whole, there, rest))

    passes_part : (p k : ℕ) → k < length olds → (written_at w.lists k).part ≡ p → nat_eq (list_at lists k).part p ≡ true
    passes_part p k inside is = eq-eqb (list_at lists k).part p ((are k (list_at [] 0) inside).1.part ∙ is)

    -- the lists of a contribution are those with its numbers
    lists_are : (p : ℕ) (known : p < length old_section.parts) → filter (λ (list : ListRead). nat_eq list.part p) lists ≡ map (λ (k : ℕ). list_at lists k) (w.written.filled p known).0
    lists_are p known =
        let numbers = (w.written.filled p known).1 in
        filter_is (λ (list : ListRead). nat_eq list.part p) (list_at [] 0) lists (w.written.filled p known).0 numbers.rising
        (λ k member. let one = numbers.each k member in (omega (arith, one.0, w.count, count), passes_part p k (omega (arith, one.0, w.count)) one.1))
        (λ k inside passes.
        let within : k < length olds = omega (arith, count) in
        numbers.all k (omega (arith, within, w.count)) (sym (are k (list_at [] 0) within).1.part ∙ eqb-true (list_at lists k).part p passes))

    filled_at : (p : ℕ) → p < length parts → Fill kind made section (new_part_at parts p) (filter (λ (list : ListRead). nat_eq list.part p) lists) (lists_at (new_part_at parts p))
    filled_at p inside =
        let known : p < length old_section.parts = omega (arith, inside, w.written.parts_count) in
        let part = w.written.filled p known in
        subst (λ (z : List ListRead). Fill kind made section (new_part_at parts p) z (lists_at (new_part_at parts p))) (sym (lists_are p known)) (fill p part.0 (lists_at (new_part_at parts p)) part.1.each part.2)

    -- so each contribution is filled
    is_filled : (s : Reading) → of_kind s.links kind ≡ section_of section parts → lists_of s kind ≡ lists → HasViews kind made s.views → (p : ℕ) → p < length parts → IsFilled kind s p
    is_filled s section_is lists_is viewed p inside =
        subst (λ (z : ListSection). Fill kind s.views z.section (part_at z p) (filter (λ (list : ListRead). nat_eq list.part p) (lists_of s kind)) (lists_at (part_at z p))) (sym section_is)
        (subst (λ (z : List ListRead). Fill kind s.views section (new_part_at parts p) (filter (λ (list : ListRead). nat_eq list.part p) z) (lists_at (new_part_at parts p))) (sym lists_is)
        (filled_with kind made s.views viewed section (new_part_at parts p) (filter (λ (list : ListRead). nat_eq list.part p) lists) (lists_at (new_part_at parts p)) (filled_at p inside)))

-- The lists that are written are read again, with what they meant and with their view pairs, and nothing else stands in the section.
pub record AreReadBack (classes : Classes) (r : Reading) (places : List Places) (kind : ListKind) (section : ListSection) (moved views : List Moved) : Type 0 where
  pub lists : List ListRead
  pub made : List ViewRead
  pub anew : (new_places : ListPlaces) → new_places.parts.items ≡ section.parts → new_places.lists.items ≡ moved → AreListsAnew classes r places kind section lists new_places
  pub kept : AreViewsKept r kind section lists made views
  pub filled : (s : Reading) → of_kind s.links kind ≡ section → lists_of s kind ≡ lists → HasViews kind made s.views → (p : ℕ) → p < length section.parts → IsFilled kind s p

pub lists_anew : {classes : Classes} → RangesWritten → LocationsWritten → (file : List ℕ) (r : Reading) → IsReading file r → (places : List Places) (kind : ListKind) (section : List ℕ) (parts : List Contribution) (moved views : List Moved) → AreListsWritten classes r places kind section parts moved views → AreReadBack classes r places kind (record { section = section; parts = parts }) moved views
lists_anew ranges locations file r read places kind section parts moved views w =
    let new = choose (IsNew ranges locations file r read places kind section parts moved views w) (length (lists_of r kind)) (new_list ranges locations file r read places kind section parts moved views w) in
    record {
      lists = new.0;
      made = made ranges locations file r read places kind section parts moved views w new.0 new.1 new.2;
      anew = are_anew ranges locations file r read places kind section parts moved views w new.0 new.1 new.2;
      kept = views_kept ranges locations file r read places kind section parts moved views w new.0 new.1 new.2;
      filled = is_filled ranges locations file r read places kind section parts moved views w new.0 new.1 new.2;
    }

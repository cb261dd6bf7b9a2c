-- Places by the sizes of lists.
use Rattle.std.proofs.Common.{◌≡◌, ◌≢◌, ◌≤◌, ◌<◌, ◌+◌, ◌-◌, ◌∙◌, ◌^◌, ℕ, zero, suc, List, [], ◌∷◌, ◌++◌, length, get_or, take, drop, sym, ap, refl, subst, arith, inl, inr}
use Rattle.std.proofs.lemmas.Bool.{cases_lt}
use Rattle.std.specs.List.{sum_by}
use Rattle.std.proofs.lemmas.List.{get_or_at, get_or_append_left, get_or-append-add, length-append, length-take-le, length-drop, get_or-take, get_or-drop, take_all}
use Rattle.std.proofs.lemmas.List.Sums.{sum_by_more}
use Rattle.list_model.specs.declared.contribution.Contribution.{Contribution}
use Rattle.list_model.specs.Contributions.{part_end}
use Rattle.list_write.specs.declared.image.Moved.{Moved}
use Rattle.list_write.specs.declared.pieces.ListExtent.{ListExtent}
use Rattle.list_write.specs.declared.pieces.RunExtent.{RunExtent}
use Rattle.list_write.specs.Written.{Run, ToWrite, run_size, own_size, full_size, front_size, part_at, list_at, moved_at, run_at, runs_before}
use Rattle.list_write.specs.inside.Places.{front_sizes, run_sizes, views_size, size_of, list_sizes, whole_at, IsFirst, PartsRise, AreKnown, extent_at, run_extent_at, extent_sizes, extent_place, IsExtentOf, IsRunExtentOf, AreExtentsOf, CanBePlaced, AreAppended, IsPlacedPart, IsPlacedList, IsPlacedRun, AreListsPlaced, ArePlacedTo, ArePlacedWithin, ArePlaced}
use Rattle.list_write.proofs.Runs.{no_list, sums_rise, run_more, runs_more, runs_rise, run_below}

-- what stands for those past the end
abbrev pub no_move : Moved
no_move = record { old = 0; new = 0 }

abbrev pub no_part : Contribution
no_part = record { at = 0; len = 0; slots = 0 }

abbrev pub no_extent : RunExtent
no_extent = record { at = 0; size = 0 }

-- the sizes of one more list
pub sizes_more : (lists : List ToWrite) (k : ℕ) → k < length lists → list_sizes lists (k + 1) ≡ list_sizes lists k + full_size (list_at lists k)
sizes_more lists k inside = sum_by_more size_of lists k no_list inside

pub sizes_rise : (lists : List ToWrite) (j k : ℕ) → j ≤ k → list_sizes lists j ≤ list_sizes lists k
sizes_rise = sums_rise size_of

pub fronts_rise : (parts : List Contribution) (j k : ℕ) → j ≤ k → front_sizes parts j ≤ front_sizes parts k
fronts_rise = sums_rise front_size

pub fronts_more : (parts : List Contribution) (p : ℕ) → p < length parts → front_sizes parts (p + 1) ≡ front_sizes parts p + front_size (part_at parts p)
fronts_more parts p inside = sum_by_more front_size parts p no_part inside

-- ---- the lists of a contribution

pub before_more : (lists : List ToWrite) (p end : ℕ) → ((k : ℕ) → k < end → (list_at lists k).part < p + 1) → (list_at lists end).part ≡ p → (k : ℕ) → k < end + 1 → (list_at lists k).part < p + 1
before_more lists p end before here k less =
    elim (cases_lt k end) [
      | inl x ↦ before k x
      | inr y ↦ let same : end ≡ k = omega arith in subst (λ (z : ℕ). (list_at lists z).part < p + 1) same (omega arith)
    ]

-- a contribution's lists begin in one place
pub one_first : (lists : List ToWrite) (p a b : ℕ) → IsFirst lists p a → IsFirst lists p b → a ≡ b
one_first lists p a b x y =
    let within : a ≤ length lists = x.within in
    let inside : b ≤ length lists = y.within in
    elim (cases_lt a b) [
      | inl l ↦ let above = x.behind a (omega arith) (omega arith) in let below = y.before a l in absurd (omega (arith, above, below))
      | inr m ↦ elim (cases_lt b a) [
        | inl l ↦ let above = y.behind b (omega arith) (omega arith) in let below = x.before b l in absurd (omega (arith, above, below))
        | inr n ↦ omega arith
      ]
    ]

-- ---- things get places

pub appended_none : (place : ℕ → Moved) (old : List Moved) → AreAppended place 0 old old
appended_none place old = record { size = omega arith; before = λ k less. refl; each = λ k less. absurd (omega arith) }

pub appended_more : (place : ℕ → Moved) (count : ℕ) (old mid new : List Moved) (one : Moved) → AreAppended place count old mid → one ≡ place count → new ≡ mid ++ one ∷ [] → AreAppended place (count + 1) old new
appended_more place count old mid new one so_far is e =
    let all : length new ≡ length mid + 1 = ap length e ∙ length-append mid (one ∷ []) in
    let before : length mid ≡ length old + count = so_far.size in
    let kept = λ (k : ℕ) (less : k < length mid). ap (λ (z : List Moved). moved_at z k) e ∙ get_or_append_left mid (one ∷ []) no_move k less in
    let last : moved_at new (length mid) ≡ one = ap (λ (z : List Moved). moved_at z (length mid)) e ∙ (let same : length mid ≡ length mid + 0 = omega arith in ap (λ (z : ℕ). get_or (mid ++ one ∷ []) z no_move) same ∙ get_or-append-add mid (one ∷ []) 0 no_move) in
    record {
      size = omega arith;
      before = λ k less. kept k (omega arith) ∙ so_far.before k less;
      each = λ k less. elim (cases_lt k count) [
        | inl x ↦ kept (length old + k) (omega arith) ∙ so_far.each k x
        | inr y ↦
            let same : count ≡ k = omega arith in
            subst (λ (z : ℕ). moved_at new (length old + z) ≡ place z) same (ap (moved_at new) (sym before) ∙ last ∙ is)
      ];
    }

-- ---- the extents of lists

module _ (lists : List ToWrite) (extents : List ListExtent) (runs : List RunExtent) (are : AreExtentsOf lists extents runs) (k : ℕ) (inside : k < length lists) where
  abbrev views : List Run
  views = (list_at lists k).views

  -- the runs of a list are among all
  pub slice_within : runs_before lists k + length views ≤ length runs
  slice_within =
      let more = runs_more lists k inside in
      let rise = runs_rise lists (k + 1) (length lists) (omega (arith, inside)) in
      let all : length runs ≡ runs_before lists (length lists) = are.runs_count in
      omega (arith, more, rise, all)

  module _ (first behind : ℕ) (from : first ≡ runs_before lists k) (to : behind ≡ first + length views) where
    abbrev slice : List RunExtent
    slice = take (behind - first) (drop first runs)

    pub slice_length : length slice ≡ length views
    slice_length =
        let all = slice_within in
        let left : length (drop first runs) ≡ length runs - first = length-drop first runs in
        let own : length slice ≡ behind - first = length-take-le (behind - first) (drop first runs) (omega (arith, left, all, from, to)) in
        omega (arith, own, to)

    pub slice_each : (i : ℕ) → i < length views → IsRunExtentOf (run_at views i) (run_extent_at slice i)
    slice_each i less =
        let here : run_extent_at slice i ≡ run_extent_at runs (first + i) = get_or-take (behind - first) (drop first runs) i no_extent (omega (arith, less, to)) ∙ get_or-drop first runs i no_extent in
        let there : run_extent_at runs (first + i) ≡ run_extent_at runs (runs_before lists k + i) = ap (λ (z : ℕ). run_extent_at runs (z + i)) from in
        subst (IsRunExtentOf (run_at views i)) (sym (here ∙ there)) (are.each_run k i inside less)

    pub slice_sizes : (i : ℕ) → i ≤ length views → extent_sizes (take i slice) ≡ run_sizes views i
    slice_sizes zero less = refl
    slice_sizes (suc i) less =
        let long = slice_length in
        let before = slice_sizes i (omega arith) in
        let own : (run_extent_at slice i).size ≡ run_size (run_at views i) = (slice_each i (omega arith)).size in
        let more : extent_sizes (take (i + 1) slice) ≡ extent_sizes (take i slice) + (run_extent_at slice i).size = sum_by_more (λ (run : RunExtent). run.size) slice i no_extent (omega (arith, long)) in
        let sum = run_more views i (omega arith) in
        let next : i + 1 ≡ suc i = omega arith in
        subst (λ (z : ℕ). extent_sizes (take z slice) ≡ run_sizes views z) next (omega (arith, before, own, more, sum))

    pub slice_size : extent_sizes slice ≡ views_size (list_at lists k)
    slice_size =
        let long = slice_length in
        ap extent_sizes (sym (take_all (length views) slice (omega (arith, long)))) ∙ slice_sizes (length views) (omega arith) ∙ ap (sum_by run_size) (take_all (length views) views (omega arith))

-- ---- lists get places

lists_placed_none : (parts : List Contribution) (lists : List ToWrite) → AreListsPlaced parts lists [] []
lists_placed_none parts lists = record { runs_count = refl; each = λ k less. absurd (omega arith); each_run = λ k i less. absurd (omega arith) }

-- one more list and its runs
module _ (parts : List Contribution) (lists : List ToWrite) (extents : List ListExtent) (runs : List RunExtent) (are : AreExtentsOf lists extents runs)
    (moved new_moved views new_views : List Moved) (so_far : AreListsPlaced parts lists moved views) (inside : length moved < length lists)
    (first behind start own : ℕ) (from : first ≡ length views) (to : behind ≡ first + length (list_at lists (length moved)).views)
    (begins : start ≡ whole_at parts lists (length moved)) (ends : own ≡ start + views_size (list_at lists (length moved)))
    (more : AreAppended (extent_place (take (behind - first) (drop first runs)) start) (length (take (behind - first) (drop first runs))) views new_views)
    (pushed : new_moved ≡ moved ++ record { old = (extent_at extents (length moved)).at; new = own } ∷ []) where
  from_there : first ≡ runs_before lists (length moved)
  from_there = from ∙ so_far.runs_count

  many : length (take (behind - first) (drop first runs)) ≡ length (list_at lists (length moved)).views
  many = slice_length lists extents runs are (length moved) inside first behind from_there to

  pub moved_count : length new_moved ≡ length moved + 1
  moved_count = ap length pushed ∙ length-append moved (record { old = (extent_at extents (length moved)).at; new = own } ∷ [])

  views_count : length new_views ≡ runs_before lists (length moved) + length (list_at lists (length moved)).views
  views_count =
      let size : length new_views ≡ length views + length (take (behind - first) (drop first runs)) = more.size in
      let before : length views ≡ runs_before lists (length moved) = so_far.runs_count in
      let many_are = many in
      omega (arith, size, before, many_are)

  list_here : IsPlacedList parts lists (length moved) (moved_at new_moved (length moved))
  list_here =
      subst (IsPlacedList parts lists (length moved)) (sym (ap (λ (z : List Moved). moved_at z (length moved)) pushed ∙ get_or_at moved (record { old = (extent_at extents (length moved)).at; new = own }) [] no_move (length moved) refl))
      (record { from = (are.each (length moved) inside).from; to = ends ∙ ap (λ (z : ℕ). z + views_size (list_at lists (length moved))) begins })

  each_list : (k : ℕ) → k < length new_moved → IsPlacedList parts lists k (moved_at new_moved k)
  each_list k less =
      let count = moved_count in
      elim (cases_lt k (length moved)) [
        | inl x ↦ subst (IsPlacedList parts lists k) (sym (ap (λ (z : List Moved). moved_at z k) pushed ∙ get_or_append_left moved (record { old = (extent_at extents (length moved)).at; new = own } ∷ []) no_move k x)) (so_far.each k x)
        | inr y ↦ let same : length moved ≡ k = omega (arith, less, count, y) in subst (λ (z : ℕ). IsPlacedList parts lists z (moved_at new_moved z)) same list_here
      ]

  run_here : (i : ℕ) → i < length (list_at lists (length moved)).views → IsPlacedRun parts lists (length moved) i (moved_at new_views (runs_before lists (length moved) + i))
  run_here i less =
      let count = many in
      let place : runs_before lists (length moved) + i ≡ length views + i = ap (λ (z : ℕ). z + i) (sym so_far.runs_count) in
      let is : moved_at new_views (runs_before lists (length moved) + i) ≡ extent_place (take (behind - first) (drop first runs)) start i = ap (moved_at new_views) place ∙ more.each i (omega (arith, less, count)) in
      let sizes = slice_sizes lists extents runs are (length moved) inside first behind from_there to i (omega (arith, less)) in
      record {
        from = ap (λ (z : Moved). z.old) is ∙ (slice_each lists extents runs are (length moved) inside first behind from_there to i less).from;
        to = ap (λ (z : Moved). z.new) is ∙ (let sum : start + extent_sizes (take i (take (behind - first) (drop first runs))) ≡ whole_at parts lists (length moved) + run_sizes (list_at lists (length moved)).views i = omega (arith, sizes, begins) in sum);
      }

  each_run : (k i : ℕ) → k < length new_moved → i < length (list_at lists k).views → IsPlacedRun parts lists k i (moved_at new_views (runs_before lists k + i))
  each_run k i less own_run =
      let count = moved_count in
      let before : length views ≡ runs_before lists (length moved) = so_far.runs_count in
      elim (cases_lt k (length moved)) [
        | inl x ↦
            let below = run_below lists k i (length moved) x (omega (arith, inside)) own_run in
            subst (IsPlacedRun parts lists k i) (sym (more.before (runs_before lists k + i) (omega (arith, before, below)))) (so_far.each_run k i x own_run)
        | inr y ↦
            let same : length moved ≡ k = omega (arith, less, count, y) in
            subst (λ (z : ℕ). (j : ℕ) → j < length (list_at lists z).views → IsPlacedRun parts lists z j (moved_at new_views (runs_before lists z + j))) same run_here i own_run
      ]

  pub lists_placed_more : AreListsPlaced parts lists new_moved new_views
  lists_placed_more = record {
    runs_count = (let count = views_count in let more_runs = runs_more lists (length moved) inside in omega (arith, count, more_runs)) ∙ ap (runs_before lists) (sym moved_count);
    each = each_list;
    each_run = each_run;
  }

-- ---- contributions get places

pub placed_none : (parts : List Contribution) (lists : List ToWrite) → ArePlacedTo parts lists 0 0 [] [] []
placed_none parts lists = record {
  count = refl;
  first = record { within = omega arith; before = λ k less. absurd (omega arith); behind = λ k from within. omega arith };
  end = refl;
  each_part = λ q less. absurd (omega arith);
  placed = lists_placed_none parts lists;
}

-- the next one has its header and its offsets
pub within_begun : (parts : List Contribution) (lists : List ToWrite) (p at next : ℕ) (new_parts : List Contribution) (moved views : List Moved) → p < length parts → ArePlacedTo parts lists p at new_parts moved views → next ≡ at + front_size (part_at parts p) → ArePlacedWithin parts lists p at next new_parts moved views
within_begun parts lists p at next new_parts moved views inside so_far begins = record {
  count = so_far.count;
  first = length moved;
  is_first = so_far.first;
  begins = so_far.end;
  behind = omega arith;
  within = so_far.first.within;
  before = λ k less. (let below = so_far.first.before k less in omega (arith, below));
  end = (let front = fronts_more parts p inside in let so : at ≡ front_sizes parts p + list_sizes lists (length moved) = so_far.end in omega (arith, front, so, begins));
  each_part = so_far.each_part;
  placed = so_far.placed;
}

-- where its next list begins with its view pairs
pub within_begins : (parts : List Contribution) (lists : List ToWrite) (p begin at : ℕ) (new_parts : List Contribution) (moved views : List Moved) → ArePlacedWithin parts lists p begin at new_parts moved views → (list_at lists (length moved)).part ≡ p → at ≡ whole_at parts lists (length moved)
within_begins parts lists p begin at new_parts moved views so_far part = so_far.end ∙ ap (λ (z : ℕ). front_sizes parts (z + 1) + list_sizes lists (length moved)) (sym part)

-- one more list of it
pub within_more : (parts : List Contribution) (lists : List ToWrite) (p begin at next : ℕ) (new_parts : List Contribution) (moved new_moved views new_views : List Moved) → ArePlacedWithin parts lists p begin at new_parts moved views → length moved < length lists → (list_at lists (length moved)).part ≡ p → next ≡ at + full_size (list_at lists (length moved)) → length new_moved ≡ length moved + 1 → AreListsPlaced parts lists new_moved new_views → ArePlacedWithin parts lists p begin next new_parts new_moved new_views
within_more parts lists p begin at next new_parts moved new_moved views new_views so_far inside part size count placed =
    let behind : so_far.first ≤ length moved = so_far.behind in
    let sizes = sizes_more lists (length moved) inside in
    let end : at ≡ front_sizes parts (p + 1) + list_sizes lists (length moved) = so_far.end in
    record {
      count = so_far.count;
      first = so_far.first;
      is_first = so_far.is_first;
      begins = so_far.begins;
      behind = omega (arith, behind, count);
      within = omega (arith, inside, count);
      before = λ k less. before_more lists p (length moved) so_far.before part k (omega (arith, less, count));
      end = (let sum : next ≡ front_sizes parts (p + 1) + list_sizes lists (length moved + 1) = omega (arith, sizes, end, size) in sum) ∙ ap (λ (z : ℕ). front_sizes parts (p + 1) + list_sizes lists z) (sym count);
      each_part = so_far.each_part;
      placed = placed;
    }

-- the next list, by its extent
module _ (parts : List Contribution) (lists : List ToWrite) (extents : List ListExtent) (runs : List RunExtent) (can : CanBePlaced parts lists extents runs)
    (p begin at : ℕ) (new_parts : List Contribution) (moved views : List Moved) (so_far : ArePlacedWithin parts lists p begin at new_parts moved views)
    (k : ℕ) (is : k ≡ length moved) (inside : k < length extents) (part : (extent_at extents k).part ≡ p) (first : ℕ) (from : first ≡ length views) where
  abbrev next : ToWrite
  next = list_at lists (length moved)

  abbrev behind : ℕ
  behind = first + (extent_at extents k).runs

  next_inside : length moved < length lists
  next_inside = let count : length extents ≡ length lists = can.extents_are.count in omega (arith, is, inside, count)

  next_extent : IsExtentOf next (extent_at extents k)
  next_extent = subst (λ (z : ℕ). IsExtentOf next (extent_at extents z)) (sym is) (can.extents_are.each (length moved) next_inside)

  next_part : next.part ≡ p
  next_part = sym next_extent.part ∙ part

  next_from : first ≡ runs_before lists (length moved)
  next_from = from ∙ so_far.placed.runs_count

  next_to : behind ≡ first + length next.views
  next_to = ap (λ (z : ℕ). first + z) next_extent.runs

  runs_size : extent_sizes (take (behind - first) (drop first runs)) ≡ views_size next
  runs_size = slice_size lists extents runs can.extents_are (length moved) next_inside first behind next_from next_to

  pub next_slice : behind ≤ length runs
  next_slice =
      let within = slice_within lists extents runs can.extents_are (length moved) next_inside in
      let to = next_to in
      let there = next_from in
      omega (arith, within, to, there)

  pub next_fits : at + full_size next < 2 ^ 32
  next_fits =
      let own = next_inside in
      let known : next.part < length parts = can.known (length moved) own in
      let mine = next_part in
      let end : at ≡ front_sizes parts (p + 1) + list_sizes lists (length moved) = so_far.end in
      let fronts = fronts_rise parts (p + 1) (length parts) (omega (arith, known, mine)) in
      let more = sizes_more lists (length moved) own in
      let rise = sizes_rise lists (length moved + 1) (length lists) (omega (arith, own)) in
      let room : front_sizes parts (length parts) + list_sizes lists (length lists) < 2 ^ 32 = can.room in
      omega (arith, end, fronts, more, rise, room)

  pub runs_fit : at + extent_sizes (take (behind - first) (drop first runs)) < 2 ^ 32
  runs_fit = let all = next_fits in let size = runs_size in omega (arith, all, size)

  next_ends : (own : ℕ) → own ≡ at + extent_sizes (take (behind - first) (drop first runs)) → own + (extent_at extents k).size ≡ at + full_size next
  next_ends own ends = let size = runs_size in let mine : (extent_at extents k).size ≡ own_size next = next_extent.size in omega (arith, ends, size, mine)

  pub list_fits : (own : ℕ) → own ≡ at + extent_sizes (take (behind - first) (drop first runs)) → own + (extent_at extents k).size < 2 ^ 32
  list_fits own ends = let all = next_fits in let sum = next_ends own ends in omega (arith, all, sum)

  pub next_placed : (own : ℕ) (new_moved new_views : List Moved) → own ≡ at + extent_sizes (take (behind - first) (drop first runs)) → AreAppended (extent_place (take (behind - first) (drop first runs)) at) (length (take (behind - first) (drop first runs))) views new_views → new_moved ≡ moved ++ record { old = (extent_at extents k).at; new = own } ∷ [] → ArePlacedWithin parts lists p begin (own + (extent_at extents k).size) new_parts new_moved new_views
  next_placed own new_moved new_views ends more pushed =
      let begins = within_begins parts lists p begin at new_parts moved views so_far next_part in
      let there : own ≡ at + views_size next = ends ∙ ap (λ (z : ℕ). at + z) runs_size in
      let put : new_moved ≡ moved ++ record { old = (extent_at extents (length moved)).at; new = own } ∷ [] = pushed ∙ ap (λ (z : ℕ). moved ++ record { old = (extent_at extents z).at; new = own } ∷ []) is in
      let size : length new_moved ≡ length moved + 1 = ap length pushed ∙ length-append moved (record { old = (extent_at extents k).at; new = own } ∷ []) in
      within_more parts lists p begin at (own + (extent_at extents k).size) new_parts moved new_moved views new_views so_far next_inside next_part (next_ends own ends) size
      (lists_placed_more parts lists extents runs can.extents_are moved new_moved views new_views so_far.placed next_inside first behind at own from next_to begins there more put)

-- the next list is of a later one, or there is none
pub within_ended : (parts : List Contribution) (lists : List ToWrite) (p begin at : ℕ) (new_parts : List Contribution) (moved views : List Moved) → ArePlacedWithin parts lists p begin at new_parts moved views → PartsRise lists → (length moved < length lists → (list_at lists (length moved)).part ≢ p) → IsFirst lists (p + 1) (length moved)
within_ended parts lists p begin at new_parts moved views so_far rise other = record {
  within = so_far.within;
  before = so_far.before;
  behind = λ k from inside.
      let here : length moved < length lists = omega (arith, from, inside) in
      let above : p ≤ (list_at lists (length moved)).part = so_far.is_first.behind (length moved) so_far.behind here in
      let apart = other here in
      let more = rise (length moved) k from inside in
      omega (arith, above, apart, more);
}

-- what is at a place of one more
last_part : (parts : List Contribution) (part : Contribution) (p : ℕ) → length parts ≡ p → part_at (parts ++ part ∷ []) p ≡ part
last_part parts part p count = get_or_at parts part [] no_part p count

-- it ends behind its header
pub begin_below : (parts : List Contribution) (lists : List ToWrite) (p begin at : ℕ) (new_parts : List Contribution) (moved views : List Moved) → ArePlacedWithin parts lists p begin at new_parts moved views → begin ≤ at
begin_below parts lists p begin at new_parts moved views so_far =
    let begins : begin ≡ front_sizes parts p + list_sizes lists so_far.first = so_far.begins in
    let end : at ≡ front_sizes parts (p + 1) + list_sizes lists (length moved) = so_far.end in
    let fronts = fronts_rise parts p (p + 1) (omega arith) in
    let sizes = sizes_rise lists so_far.first (length moved) so_far.behind in
    omega (arith, begins, end, fronts, sizes)

-- then it has its place
module _ (parts : List Contribution) (lists : List ToWrite) (p begin at : ℕ) (old new : List Contribution) (moved views : List Moved) (part : Contribution)
    (so_far : ArePlacedWithin parts lists p begin at old moved views) (is_last : IsFirst lists (p + 1) (length moved))
    (is : part ≡ record { at = begin; len = at - begin; slots = (part_at parts p).slots }) (pushed : new ≡ old ++ part ∷ []) where
  new_part : IsPlacedPart parts lists p part
  new_part = record {
    first = so_far.first;
    last = length moved;
    is_first = so_far.is_first;
    is_last = is_last;
    begins = ap (λ (z : Contribution). z.at) is ∙ so_far.begins;
    ends = ap (λ (z : Contribution). part_end z) is ∙ (let below = begin_below parts lists p begin at old moved views so_far in let e : begin + (at - begin) ≡ at = omega (arith, below) in e ∙ so_far.end);
    slots = ap (λ (z : Contribution). z.slots) is;
  }

  each_part : (q : ℕ) → q < p + 1 → IsPlacedPart parts lists q (part_at new q)
  each_part q less =
      let count : length old ≡ p = so_far.count in
      elim (cases_lt q p) [
        | inl x ↦ subst (IsPlacedPart parts lists q) (sym (ap (λ (z : List Contribution). part_at z q) pushed ∙ get_or_append_left old (part ∷ []) no_part q (omega arith))) (so_far.each_part q x)
        | inr y ↦
            let same : p ≡ q = omega arith in
            subst (λ (z : ℕ). IsPlacedPart parts lists z (part_at new z)) same (subst (IsPlacedPart parts lists p) (sym (ap (λ (z : List Contribution). part_at z p) pushed ∙ last_part old part p count)) new_part)
      ]

  pub placed_more : ArePlacedTo parts lists (p + 1) at new moved views
  placed_more = record {
    count = (let size : length new ≡ length old + 1 = ap length pushed ∙ length-append old (part ∷ []) in let count : length old ≡ p = so_far.count in omega arith);
    first = is_last;
    end = so_far.end;
    each_part = each_part;
    placed = so_far.placed;
  }

-- when all contributions have places, so have all lists
pub placed_all : (parts : List Contribution) (lists : List ToWrite) (p at : ℕ) (new : List Contribution) (moved views : List Moved) → p ≡ length parts → AreKnown lists (length parts) → ArePlacedTo parts lists p at new moved views → ArePlaced parts lists new moved views
placed_all parts lists p at new moved views all known so_far =
    let within : length moved ≤ length lists = so_far.first.within in
    let count : length moved ≡ length lists = elim (cases_lt (length moved) (length lists)) [
      | inl x ↦
          let above : p ≤ (list_at lists (length moved)).part = so_far.first.behind (length moved) (omega arith) x in
          let below = known (length moved) x in
          absurd (omega (arith, above, below))
      | inr y ↦ omega arith
    ] in
    record {
      parts_count = so_far.count ∙ all;
      lists_count = count;
      runs_count = so_far.placed.runs_count ∙ ap (runs_before lists) count;
      each_part = λ q less. so_far.each_part q (omega arith);
      each_list = λ k less. so_far.placed.each k (omega arith);
      each_run = λ k i less. so_far.placed.each_run k i (omega arith);
    }

-- All contributions are written.
use Rattle.std.proofs.Common.{◌≡◌, ◌≤◌, ◌<◌, ◌+◌, ◌-◌, ◌∙◌, ℕ, zero, suc, List, [], ◌∷◌, ◌++◌, length, get_or, take, sym, ap, refl, subst, arith, inl, inr}
use Rattle.std.specs.Prelude.{flat_map}
use Rattle.std.specs.List.{sum_by, range_with_len}
use Rattle.std.proofs.lemmas.Bool.{cases_lt}
use Rattle.std.proofs.Math.Seq.{take-append-add}
use Rattle.std.proofs.lemmas.List.FromFn.{length-range_with_len, get_or-range_with_len}
use Rattle.std.proofs.lemmas.List.Sums.{sum_by-cons}
use Rattle.fixed_width.specs.InitialLengths.{unit_length, unit_end, least_reserved}
use Rattle.fixed_width.specs.Numbers.{number_at}
use Rattle.form_codec.specs.declared.form.Width.TheVariants.{One, Two, Four}
use Rattle.form_codec.specs.Written.{low_bytes}
use Rattle.form_codec.proofs.WriteLaws.{low_len}
use Rattle.list_model.specs.declared.contribution.Contribution.{Contribution}
use Rattle.list_model.specs.declared.entry.ListKind.{ListKind}
use Rattle.list_model.specs.Contributions.{offsets_at, offset_place, lists_at, part_end, HoldsList, bytes_from, IsContribution, ContributionsFollow}
use Rattle.list_model.specs.Entries.{Entry}
use Rattle.list_least.specs.Plans.{entries_bytes, ArePicks}
use Rattle.list_write.specs.declared.image.Moved.{Moved}
use Rattle.list_write.specs.Written.{Run, ToWrite, run_size, own_size, full_size, part_at, list_at, moved_at, CanBeWritten, Tells, StandsIn, StandsBefore, all_runs, runs_before, run_at, Follow, run_stretches, stretches, AreNumbersOf, AreWritten}
use Rattle.list_write.specs.inside.Places.{front_sizes, run_sizes, views_size, list_sizes, whole_at, IsFirst, ArePlaced}
use Rattle.list_write.specs.inside.Puts.{header_bytes, StandAt, AreWrittenTo}
use Rattle.list_write.proofs.ApartLaws.{with_size}
use Rattle.list_write.proofs.Entries.{picked_bytes, has_picked}
use Rattle.list_write.proofs.Placing.{fronts_more, fronts_rise, sizes_more, sizes_rise, one_first}
use Rattle.list_write.proofs.Runs.{run_within, pairs_size, run_among, runs_all}
use Rattle.list_write.proofs.Standing.{stand_first, stand_second, stand_drop, stand_number}
use Rattle.list_write.proofs.Ready.{parts_rise, are_known, sized, ends, lists_fit, part_fits, moved_behind, moved_fits, whole_size, first_below}

-- ---- contributions

-- what a header that stands says
header_says : (part : Contribution) (bytes : List ℕ) → StandAt part.at (header_bytes part) bytes → lists_at part ≤ part_end part → part_end part < least_reserved → part_end part ≤ length bytes → IsContribution bytes part
header_says part bytes stands fits few inside =
    let rest_2 : List ℕ = low_bytes One 0 ++ low_bytes Four part.slots in
    let rest_1 : List ℕ = low_bytes One 8 ++ rest_2 in
    let rest : List ℕ = low_bytes Two 5 ++ rest_1 in
    let a = low_len Four (part.len - 4) in
    let b = low_len Two 5 in
    let c = low_len One 8 in
    let d = low_len One 0 in
    let at_4 = stand_second part.at (part.at + 4) (low_bytes Four (part.len - 4)) rest bytes (omega (arith, a)) stands in
    let at_6 = stand_second (part.at + 4) (part.at + 6) (low_bytes Two 5) rest_1 bytes (omega (arith, b)) at_4 in
    let at_7 = stand_second (part.at + 6) (part.at + 7) (low_bytes One 8) rest_2 bytes (omega (arith, c)) at_6 in
    let at_8 = stand_second (part.at + 7) (part.at + 8) (low_bytes One 0) (low_bytes Four part.slots) bytes (omega (arith, d)) at_7 in
    let len : unit_length bytes part.at ≡ part.len - 4 = stand_number 4 (part.len - 4) part.at bytes (stand_first part.at (low_bytes Four (part.len - 4)) rest bytes stands) (omega arith) in
    let end : unit_end bytes part.at ≡ part_end part = omega arith in
    record {
      whole = record { usual = omega arith; inside = omega arith };
      header = record {
        fits = omega arith;
        of_version = stand_number 2 5 (part.at + 4) bytes (stand_first (part.at + 4) (low_bytes Two 5) rest_1 bytes at_4) (omega arith);
        of_address_size = stand_number 1 8 (part.at + 6) bytes (stand_first (part.at + 6) (low_bytes One 8) rest_2 bytes at_6) (omega arith);
        of_segments = stand_number 1 0 (part.at + 7) bytes (stand_first (part.at + 7) (low_bytes One 0) (low_bytes Four part.slots) bytes at_7) (omega arith);
      };
      ends = sym end;
      counted = sym (stand_number 4 part.slots (part.at + 8) bytes at_8 (omega arith));
      fits = fits;
    }

-- contributions follow one another where each begins at the end of the one before it
follow_from : (section : List ℕ) (parts : List Contribution) (at : ℕ) (place : ℕ → ℕ) → at ≡ place 0 → ((p : ℕ) → p < length parts → ((part_at parts p).at ≡ place p) × IsContribution section (part_at parts p) × (part_end (part_at parts p) ≡ place (suc p))) → ContributionsFollow section parts at (place (length parts))
follow_from section [] at place from each = from
follow_from section (part ∷ parts) at place from each =
    let first = each 0 (omega arith) in
    (first.0 ∙ sym from, first.1, follow_from section parts (part_end part) (λ p. place (suc p)) first.2 (λ p less. each (suc p) (omega arith)))

-- ---- lists of a contribution

-- the numbers from one up to another are the lists of the contribution
numbers_between : (lists : List ToWrite) (p first last : ℕ) → IsFirst lists p first → IsFirst lists (p + 1) last → first ≤ last → AreNumbersOf lists p (range_with_len first (last - first))
numbers_between lists p first last is_first is_last behind =
    let count = length-range_with_len first (last - first) in
    let within : last ≤ length lists = is_last.within in
    record {
      rising = λ k less.
          let here = get_or-range_with_len first (last - first) k 0 (omega (arith, less, count)) in
          let next = get_or-range_with_len first (last - first) (k + 1) 0 (omega (arith, less, count)) in
          omega (arith, here, next);
      each = λ k inside.
          let here : get_or (range_with_len first (last - first)) inside.0 k ≡ first + inside.0 = get_or-range_with_len first (last - first) inside.0 k (omega (arith, inside.1, count)) in
          let e : k ≡ first + inside.0 = sym inside.2 ∙ here in
          let more : inside.0 < last - first = omega (arith, inside.1, count) in
          let above = is_first.behind k (omega arith) (omega arith) in
          let below = is_last.before k (omega arith) in
          (omega arith, omega (arith, above, below));
      all = λ k inside part.
          let above : first ≤ k = elim (cases_lt k first) [ inl l ↦ let below = is_first.before k l in absurd (omega (arith, below, part)) | inr m ↦ omega arith ] in
          let below : k < last = elim (cases_lt k last) [ inl l ↦ l | inr m ↦ let more = is_last.behind k m inside in absurd (omega (arith, more, part)) ] in
          (k - first, omega (arith, count, above, below), get_or-range_with_len first (last - first) (k - first) k (omega arith) ∙ (let e : first + (k - first) ≡ k = omega arith in e));
    }

-- stretches that follow others
follow_append : (xs ys : List (ℕ × ℕ)) (from mid to : ℕ) → Follow xs from mid → Follow ys mid to → Follow (xs ++ ys) from to
follow_append [] ys from mid to x y = subst (λ (z : ℕ). Follow ys z to) (sym x) y
follow_append ((at, size) ∷ xs) ys from mid to x y = (x.0, follow_append xs ys (from + size) mid to x.1 y)

-- runs follow one another
follow_runs : (views : List Moved) (n : ℕ) (runs : List Run) (at : ℕ) → ((i : ℕ) → i < length runs → (moved_at views (n + i)).new ≡ at + run_sizes runs i) → Follow (run_stretches views n runs) at (at + sum_by run_size runs)
follow_runs views n [] at each = omega arith
follow_runs views n (run ∷ runs) at each =
    let here : (moved_at views (n + 0)).new ≡ at + run_sizes (run ∷ runs) 0 = each 0 (omega arith) in
    let number : n ≡ n + 0 = omega arith in
    let all : at + run_size run + sum_by run_size runs ≡ at + sum_by run_size (run ∷ runs) = (let sum = sum_by-cons run_size run runs in omega (arith, sum)) in
    let rest = follow_runs views (suc n) runs (at + run_size run) (λ i less.
    let next : suc n + i ≡ n + suc i = omega arith in
    let sum = sum_by-cons run_size run (take i runs) in
    let there : (moved_at views (n + suc i)).new ≡ at + run_sizes (run ∷ runs) (suc i) = each (suc i) (omega arith) in
    ap (λ (z : ℕ). (moved_at views z).new) next ∙ there ∙ omega (arith, sum)) in
    (ap (λ (z : ℕ). (moved_at views z).new) number ∙ here ∙ omega arith, subst (Follow (run_stretches views (suc n) runs) (at + run_size run)) all rest)

-- the view pairs of a list, and then the list
follow_list : (lists : List ToWrite) (moved views : List Moved) (at k : ℕ) → (moved_at moved k).new ≡ at + views_size (list_at lists k) → ((i : ℕ) → i < length (list_at lists k).views → (moved_at views (runs_before lists k + i)).new ≡ at + run_sizes (list_at lists k).views i) → Follow (stretches moved views lists k) at (at + full_size (list_at lists k))
follow_list lists moved views at k behind each =
    let end : at + views_size (list_at lists k) + own_size (list_at lists k) ≡ at + full_size (list_at lists k) = omega arith in
    follow_append (run_stretches views (runs_before lists k) (list_at lists k).views) (((moved_at moved k).new, own_size (list_at lists k)) ∷ []) at (at + views_size (list_at lists k)) (at + full_size (list_at lists k))
    (follow_runs views (runs_before lists k) (list_at lists k).views at each) (behind, end)

-- and lists follow one another
follow_between : (lists : List ToWrite) (moved views : List Moved) (place : ℕ) (first count : ℕ) → first + count ≤ length lists → ((k : ℕ) → first ≤ k → k < first + count → Follow (stretches moved views lists k) (place + list_sizes lists k) (place + list_sizes lists k + full_size (list_at lists k))) → Follow (flat_map (stretches moved views lists) (range_with_len first count)) (place + list_sizes lists first) (place + list_sizes lists (first + count))
follow_between lists moved views place first zero within each = ap (λ (z : ℕ). place + list_sizes lists z) (let e : first ≡ first + 0 = omega arith in e)
follow_between lists moved views place first (suc count) within each =
    let more = sizes_more lists first (omega arith) in
    let next : place + list_sizes lists first + full_size (list_at lists first) ≡ place + list_sizes lists (first + 1) = omega (arith, more) in
    let end : first + 1 + count ≡ first + suc count = omega arith in
    let others = flat_map (stretches moved views lists) (range_with_len (first + 1) count) in
    let rest = follow_between lists moved views place (first + 1) count (omega arith) (λ k from to. each k (omega arith) (omega arith)) in
    follow_append (stretches moved views lists first) others (place + list_sizes lists first) (place + list_sizes lists (first + 1)) (place + list_sizes lists (first + suc count))
    (subst (Follow (stretches moved views lists first) (place + list_sizes lists first)) next (each first (omega arith) (omega arith)))
    (subst (λ (z : ℕ). Follow others (place + list_sizes lists (first + 1)) (place + list_sizes lists z)) end rest)

-- bytes that stand in a contribution are the front of what stands there
front_of : (section : List ℕ) (part : Contribution) (at : ℕ) (own : List ℕ) → at + length own ≤ part_end part → (stands : StandAt at own section) → bytes_from section part at ≡ own ++ take (part_end part - at - length own) stands.rest
front_of section part at own fits stands =
    let room : part_end part - at ≡ length own + (part_end part - at - length own) = omega arith in
    ap (take (part_end part - at)) (stand_drop at own section stands) ∙ ap (λ (z : ℕ). take z (own ++ stands.rest)) room ∙ take-append-add own stands.rest (part_end part - at - length own)

-- where contributions begin, and where the last one ends
abbrev begin_at : List Contribution → ℕ → ℕ
begin_at parts zero = 0
begin_at parts (suc p) = part_end (part_at parts p)

module _ (kind : ListKind) (section : List ℕ) (parts : List Contribution) (lists : List ToWrite) (new_parts : List Contribution) (moved views : List Moved)
    (can : CanBeWritten kind section parts lists) (placed : ArePlaced parts lists new_parts moved views) (first : ℕ) (bytes : List ℕ)
    (done : AreWrittenTo kind section parts lists new_parts moved (length parts) first bytes) where
  all_lists : first ≡ length lists
  all_lists =
      let within : first ≤ length lists = done.is_first.within in
      elim (cases_lt first (length lists)) [
        | inl l ↦
            let above = done.is_first.behind first (omega arith) l in
            let below = are_known kind section parts lists can first l in
            absurd (omega (arith, above, below))
        | inr m ↦ omega arith
      ]

  size : length bytes ≡ front_sizes parts (length parts) + list_sizes lists (length lists)
  size = done.size ∙ ap (λ (z : ℕ). front_sizes parts (length parts) + list_sizes lists z) all_lists

  ends_inside : (p : ℕ) → p < length parts → part_end (part_at new_parts p) ≤ length bytes
  ends_inside p inside =
      let own = placed.each_part p inside in
      let to : part_end (part_at new_parts p) ≡ front_sizes parts (p + 1) + list_sizes lists own.last = own.ends in
      let within : own.last ≤ length lists = own.is_last.within in
      let fronts = fronts_rise parts (p + 1) (length parts) (omega arith) in
      let sizes = sizes_rise lists own.last (length lists) within in
      let all = size in
      omega (arith, to, fronts, sizes, all)

  stands : (p : ℕ) → p < length parts → IsContribution bytes (part_at new_parts p)
  stands p inside = header_says (part_at new_parts p) bytes (done.headers p inside) (lists_fit kind section parts lists can new_parts moved views placed p inside) (part_fits kind section parts lists can new_parts moved views placed p inside) (ends_inside p inside)

  begins_there : (p f : ℕ) → p ≤ length parts → IsFirst lists p f → begin_at new_parts p ≡ front_sizes parts p + list_sizes lists f
  begins_there zero f inside is =
      let none : IsFirst lists 0 0 = record { within = omega arith; before = λ k less. absurd (omega arith); behind = λ k from within. omega arith } in
      ap (λ (z : ℕ). front_sizes parts 0 + list_sizes lists z) (one_first lists 0 0 f none is)
  begins_there (suc q) f inside is =
      let e : suc q ≡ q + 1 = omega arith in
      ends kind section parts lists can new_parts moved views placed q (omega arith) f (subst (λ (z : ℕ). IsFirst lists z f) e is) ∙ ap (λ (z : ℕ). front_sizes parts z + list_sizes lists f) (sym e)

  tiled : ContributionsFollow bytes new_parts 0 (length bytes)
  tiled =
      let count : length new_parts ≡ length parts = placed.parts_count in
      let end : begin_at new_parts (length new_parts) ≡ length bytes = ap (begin_at new_parts) count ∙ begins_there (length parts) first (omega arith) done.is_first ∙ sym done.size in
      subst (ContributionsFollow bytes new_parts 0) end (follow_from bytes new_parts 0 (begin_at new_parts) refl (λ p less.
      let inside : p < length parts = omega arith in
      let own = placed.each_part p inside in
      (own.begins ∙ sym (begins_there p own.first (omega arith) own.is_first), stands p inside, refl)))

  moved_rise : (j k : ℕ) → j < k → k < length lists → (moved_at moved j).new < (moved_at moved k).new
  moved_rise j k less inside =
      let x : (moved_at moved j).new ≡ whole_at parts lists j + views_size (list_at lists j) = (placed.each_list j (omega arith)).to in
      let y : (moved_at moved k).new ≡ whole_at parts lists k + views_size (list_at lists k) = (placed.each_list k inside).to in
      let rise = parts_rise kind section parts lists can j k (omega arith) inside in
      let fronts = fronts_rise parts ((list_at lists j).part + 1) ((list_at lists k).part + 1) (omega (arith, rise)) in
      let more = sizes_more lists j (omega arith) in
      let some = (sized kind section parts lists can j (omega arith)).bytes in
      let sizes = sizes_rise lists (j + 1) k (omega arith) in
      omega (arith, x, y, fronts, more, some, sizes)

  -- a list with its view pairs ends inside its contribution
  whole_inside : (k : ℕ) → k < length lists → whole_at parts lists k + full_size (list_at lists k) ≤ part_end (part_at new_parts (list_at lists k).part)
  whole_inside k inside =
      let p = (list_at lists k).part in
      let own = placed.each_part p (are_known kind section parts lists can k inside) in
      let to : part_end (part_at new_parts p) ≡ front_sizes parts (p + 1) + list_sizes lists own.last = own.ends in
      let below : k < own.last = elim (cases_lt k own.last) [ inl l ↦ l | inr m ↦ let more = own.is_last.behind k m inside in absurd (omega (arith, more)) ] in
      let more = sizes_more lists k inside in
      let high = sizes_rise lists (k + 1) own.last (omega arith) in
      omega (arith, to, more, high)

  -- a place among the view pairs of a list and the list is inside its contribution
  holds_there : (k offset : ℕ) → k < length lists → offset < full_size (list_at lists k) → HoldsList (part_at new_parts (list_at lists k).part) (whole_at parts lists k + offset)
  holds_there k offset inside less =
      let p = (list_at lists k).part in
      let known : p < length parts = are_known kind section parts lists can k inside in
      let own = placed.each_part p known in
      let slots : (part_at new_parts p).slots ≡ (part_at parts p).slots = own.slots in
      let from : (part_at new_parts p).at ≡ front_sizes parts p + list_sizes lists own.first = own.begins in
      let front = fronts_more parts p known in
      let above : own.first ≤ k = elim (cases_lt k own.first) [ inl l ↦ let below = own.is_first.before k l in absurd (omega (arith, below)) | inr m ↦ omega arith ] in
      let low = sizes_rise lists own.first k above in
      let end = whole_inside k inside in
      record { after = omega (arith, slots, from, front, low); before = omega (arith, end, less) }

  each : (k : ℕ) → k < length lists → (entries : List Entry) → ArePicks kind (list_at lists k).picks entries → StandsIn kind bytes (part_at new_parts (list_at lists k).part) (moved_at moved k).new entries (list_at lists k).expressions
  each k inside entries picked =
      let all = all_lists in
      let list = list_at lists k in
      let at = whole_at parts lists k + views_size list in
      let there = (done.each k (omega (arith, all, inside))).own entries picked in
      let own = sized kind section parts lists can k inside in
      let same = picked_bytes kind list.picks own.entries entries own.picked picked in
      let carried = has_picked kind list.picks own.entries entries list.expressions own.picked picked own.carried in
      let long = with_size kind entries list.expressions there.0 there.1 carried there.2 in
      let size_is : list.size ≡ entries_bytes own.entries + 1 = own.bytes in
      let end = whole_inside k inside in
      let fits : at + length there.0 ≤ part_end (part_at new_parts list.part) = omega (arith, same, long, size_is, end) in
      subst (λ (z : ℕ). StandsIn kind bytes (part_at new_parts list.part) z entries list.expressions) (sym (placed.each_list k inside).to) (record {
        holds = holds_there k (views_size list) inside (omega (arith, size_is));
        bytes = there.0;
        bare = there.1;
        rest = take (part_end (part_at new_parts list.part) - at - length there.0) there.3.rest;
        shortest = there.2;
        whole = front_of bytes (part_at new_parts list.part) at there.0 fits there.3;
      })

  views_from : (n : ℕ) → n < length (all_runs lists) → (moved_at views n).old ≡ (run_at (all_runs lists) n).at
  views_from n inside =
      let (k, i, within, own, number, run) = run_among lists n inside in
      ap (λ (z : ℕ). (moved_at views z).old) number ∙ (placed.each_run k i within own).from ∙ sym (ap (λ (z : Run). z.at) run)

  views_each : (k i : ℕ) → k < length lists → i < length (list_at lists k).views → StandsBefore bytes (part_at new_parts (list_at lists k).part) (moved_at views (runs_before lists k + i)).new (run_at (list_at lists k).views i).pairs
  views_each k i inside own =
      let all = all_lists in
      let list = list_at lists k in
      let at = whole_at parts lists k + run_sizes list.views i in
      let there = (done.each k (omega (arith, all, inside))).runs i own in
      let size : length there.0 ≡ run_size (run_at list.views i) = pairs_size (run_at list.views i).pairs there.0 there.1 in
      let within = run_within list.views i own in
      let some : list.size ≡ entries_bytes (sized kind section parts lists can k inside).entries + 1 = (sized kind section parts lists can k inside).bytes in
      let end = whole_inside k inside in
      let fits : at + length there.0 ≤ part_end (part_at new_parts list.part) = omega (arith, size, within, end) in
      subst (λ (z : ℕ). StandsBefore bytes (part_at new_parts list.part) z (run_at list.views i).pairs) (sym (placed.each_run k i inside own).to) (record {
        holds = holds_there k (run_sizes list.views i) inside (omega (arith, within, some));
        bytes = there.0;
        rest = take (part_end (part_at new_parts list.part) - at - length there.0) there.2.rest;
        shortest = there.1;
        whole = front_of bytes (part_at new_parts list.part) at there.0 fits there.2;
      })

  told : (p slot k : ℕ) → p < length parts → slot < (part_at parts p).slots → k < length lists → Tells section parts p slot (list_at lists k).at → Tells bytes new_parts p slot (moved_at moved k).new
  told p slot k inside less within tells =
      let there = done.slots p slot inside less in
      let n = there.moved.number in
      let count : length moved ≡ length lists = placed.lists_count in
      let n_inside : n < length lists = (let w : n < length moved = there.moved.within in omega arith) in
      let from_n : there.list.old ≡ (list_at lists n).at = ap (λ (z : Moved). z.old) there.moved.is ∙ (placed.each_list n n_inside).from in
      let same_place : (list_at lists n).at ≡ (list_at lists k).at = sym from_n ∙ there.moved.from ∙ sym tells in
      let same : n ≡ k = elim (cases_lt n k) [
        | inl l ↦ let rise = can.rising n k l within in absurd (omega (arith, rise, same_place))
        | inr m ↦ elim (cases_lt k n) [
          | inl l ↦ let rise = can.rising k n l n_inside in absurd (omega (arith, rise, same_place))
          | inr o ↦ omega arith
        ]
      ] in
      let list : there.list ≡ moved_at moved k = there.moved.is ∙ ap (moved_at moved) same in
      let new : there.list.new ≡ (moved_at moved k).new = ap (λ (z : Moved). z.new) list in
      let few = moved_fits kind section parts lists can new_parts moved views placed k within in
      let read : number_at 4 (offset_place (part_at new_parts p).at slot) bytes ≡ there.list.new - offsets_at (part_at new_parts p).at = stand_number 4 (there.list.new - offsets_at (part_at new_parts p).at) (offset_place (part_at new_parts p).at slot) bytes there.stands (omega (arith, new, few)) in
      let tells_old : (list_at lists k).at ≡ offsets_at (part_at parts p).at + number_at 4 (offset_place (part_at parts p).at slot) section = tells in
      let from_k : (moved_at moved k).old ≡ (list_at lists k).at = (placed.each_list k within).from in
      let behind = moved_behind kind section parts lists can new_parts moved views placed p inside k (omega arith) (omega (arith, tells_old, from_k)) in
      omega (arith, read, new, behind)

  filled : (p : ℕ) → p < length parts → (numbers : List ℕ) × AreNumbersOf lists p numbers × Follow (flat_map (stretches moved views lists) numbers) (lists_at (part_at new_parts p)) (part_end (part_at new_parts p))
  filled p inside =
      let own = placed.each_part p inside in
      let behind = first_below lists p own.first own.last own.is_first own.is_last in
      let within : own.last ≤ length lists = own.is_last.within in
      let upto : own.first + (own.last - own.first) ≡ own.last = omega (arith, behind) in
      let slots : (part_at new_parts p).slots ≡ (part_at parts p).slots = own.slots in
      let at : (part_at new_parts p).at ≡ front_sizes parts p + list_sizes lists own.first = own.begins in
      let front = fronts_more parts p inside in
      let from : front_sizes parts (p + 1) + list_sizes lists own.first ≡ lists_at (part_at new_parts p) = omega (arith, slots, at, front) in
      let to : front_sizes parts (p + 1) + list_sizes lists (own.first + (own.last - own.first)) ≡ part_end (part_at new_parts p) = ap (λ (z : ℕ). front_sizes parts (p + 1) + list_sizes lists z) upto ∙ sym own.ends in
      let numbers = range_with_len own.first (own.last - own.first) in
      let follow = follow_between lists moved views (front_sizes parts (p + 1)) own.first (own.last - own.first) (omega (arith, upto, within)) (λ k low high.
      let k_inside : k < length lists = omega (arith, upto, within, high) in
      let above = own.is_first.behind k low k_inside in
      let below = own.is_last.before k (omega (arith, upto, high)) in
      let part : (list_at lists k).part ≡ p = omega (arith, above, below) in
      let at : whole_at parts lists k ≡ front_sizes parts (p + 1) + list_sizes lists k = ap (λ (z : ℕ). front_sizes parts (z + 1) + list_sizes lists k) part in
      subst (λ (z : ℕ). Follow (stretches moved views lists k) z (z + full_size (list_at lists k))) at (follow_list lists moved views (whole_at parts lists k) k (placed.each_list k k_inside).to (λ i own_run. (placed.each_run k i k_inside own_run).to))) in
      (numbers, numbers_between lists p own.first own.last own.is_first own.is_last behind, subst (λ (z : ℕ). Follow (flat_map (stretches moved views lists) numbers) z (part_end (part_at new_parts p))) from (subst (Follow (flat_map (stretches moved views lists) numbers) (front_sizes parts (p + 1) + list_sizes lists own.first)) to follow))

  pub all_written : AreWritten kind section parts lists bytes new_parts moved views
  all_written = record {
    tiled = tiled;
    parts_count = placed.parts_count;
    slots = λ p inside. (placed.each_part p inside).slots;
    count = placed.lists_count;
    from = λ k inside. (placed.each_list k inside).from;
    rising = moved_rise;
    each = each;
    views_count = placed.runs_count ∙ runs_all lists;
    views_from = views_from;
    views_each = views_each;
    told = told;
    filled = filled;
    fits = (let all = size in let few = whole_size kind section parts lists can in omega (arith, all, few));
  }

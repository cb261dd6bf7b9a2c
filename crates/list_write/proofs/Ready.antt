-- What can be written: its lists go by contributions, and its places fit.
use Rattle.std.proofs.Common.{◌≡◌, ◌≤◌, ◌<◌, ◌+◌, ◌*◌, ◌∙◌, ℕ, List, length, ap, arith, inl, inr}
use Rattle.std.specs.List.{sum_by}
use Rattle.std.proofs.lemmas.Bool.{cases_lt}
use Rattle.std.proofs.lemmas.List.{take_all}
use Rattle.std.proofs.lemmas.List.Elements.{All-get_or}
use Rattle.fixed_width.specs.InitialLengths.{least_reserved}
use Rattle.list_model.specs.declared.contribution.Contribution.{Contribution}
use Rattle.list_model.specs.declared.entry.ListKind.{ListKind}
use Rattle.list_model.specs.Contributions.{offsets_at, lists_at, part_end, IsContribution}
use Rattle.list_model.proofs.Tiling.{before, each_part}
use Rattle.list_write.specs.declared.image.Moved.{Moved}
use Rattle.list_write.specs.Written.{ToWrite, IsSized, front_size, part_at, list_at, moved_at, CanBeWritten}
use Rattle.list_write.specs.inside.Places.{front_sizes, views_size, size_of, list_sizes, whole_at, IsFirst, PartsRise, AreKnown, ArePlaced}
use Rattle.list_write.specs.inside.Puts.{told_at, OldRise}
use Rattle.list_write.proofs.Placing.{no_part, fronts_more, fronts_rise, sizes_more, sizes_rise, one_first}

-- the first list of a contribution isn't behind that of the next
pub first_below : (lists : List ToWrite) (p first last : ℕ) → IsFirst lists p first → IsFirst lists (p + 1) last → first ≤ last
first_below lists p first last x y =
    let within : first ≤ length lists = x.within in
    elim (cases_lt last first) [
      | inl l ↦ let below = x.before last l in let above = y.behind last (omega arith) (omega arith) in absurd (omega (arith, below, above))
      | inr m ↦ omega arith
    ]

module _ (kind : ListKind) (section : List ℕ) (parts : List Contribution) (lists : List ToWrite) (can : CanBeWritten kind section parts lists) where
  pub part_stands : (p : ℕ) → p < length parts → IsContribution section (part_at parts p)
  part_stands p inside = All-get_or (IsContribution section) parts p no_part inside (each_part section parts 0 (length section) can.tiled)

  -- a list is of no contribution that ends before it
  pub not_before : (k p : ℕ) → k < length lists → p < length parts → (part_at parts p).at ≤ (list_at lists k).at → p ≤ (list_at lists k).part
  not_before k p inside within from =
      let list = can.each k inside in
      elim (cases_lt (list_at lists k).part p) [
        | inl l ↦
            let ends = before section parts no_part no_part 0 (length section) (list_at lists k).part p can.tiled l within in
            let holds : (list_at lists k).at < part_end (part_at parts (list_at lists k).part) = list.holds.before in
            absurd (omega (arith, ends, holds, from))
        | inr m ↦ omega arith
      ]

  pub parts_rise : PartsRise lists
  parts_rise j k less inside =
      elim (cases_lt j k) [
        | inl l ↦
            let from = can.rising j k l inside in
            let list = can.each j (omega (arith, l, inside)) in
            let holds : lists_at (part_at parts (list_at lists j).part) ≤ (list_at lists j).at = list.holds.after in
            not_before k (list_at lists j).part inside list.known (omega (arith, from, holds))
        | inr m ↦
            let same : j ≡ k = omega arith in
            let e : (list_at lists j).part ≡ (list_at lists k).part = ap (λ (z : ℕ). (list_at lists z).part) same in
            omega arith
      ]

  pub are_known : AreKnown lists (length parts)
  are_known k inside = (can.each k inside).known

  pub sized : (k : ℕ) → k < length lists → IsSized kind (list_at lists k)
  sized k inside = let list = can.each k inside in record { entries = list.entries; picked = list.picked; bytes = list.bytes; carried = list.carried }

  -- all that is written fits
  pub whole_size : front_sizes parts (length parts) + list_sizes lists (length lists) < least_reserved
  whole_size =
      let all_parts : front_sizes parts (length parts) ≡ sum_by front_size parts = ap (sum_by front_size) (take_all (length parts) parts (omega arith)) in
      let all_lists : list_sizes lists (length lists) ≡ sum_by size_of lists = ap (sum_by size_of) (take_all (length lists) lists (omega arith)) in
      let room : sum_by front_size parts + sum_by size_of lists < least_reserved = can.room in
      omega (arith, all_parts, all_lists, room)

  module _ (new_parts : List Contribution) (moved views : List Moved) (placed : ArePlaced parts lists new_parts moved views) where
    pub old_rise : OldRise moved
    old_rise j k less inside =
        let count : length moved ≡ length lists = placed.lists_count in
        let x : (moved_at moved j).old ≡ (list_at lists j).at = (placed.each_list j (omega arith)).from in
        let y : (moved_at moved k).old ≡ (list_at lists k).at = (placed.each_list k (omega arith)).from in
        let rise = can.rising j k less (omega arith) in
        omega (arith, x, y, rise)

    -- each slot tells a list that has moved
    pub told_moved : (p : ℕ) → p < length parts → (slot : ℕ) → slot < (part_at parts p).slots → (k : ℕ) × (k < length moved) × ((moved_at moved k).old ≡ told_at section (offsets_at (part_at parts p).at) (offsets_at (part_at parts p).at + 4 * slot))
    told_moved p inside slot less =
        let told = can.told p slot inside less in
        let count : length moved ≡ length lists = placed.lists_count in
        (told.0, let within : told.0 < length lists = told.1 in omega arith, (placed.each_list told.0 told.1).from ∙ told.2)

    -- a contribution's new places
    pub begins : (p : ℕ) → (inside : p < length parts) → (first : ℕ) → IsFirst lists p first → (part_at new_parts p).at ≡ front_sizes parts p + list_sizes lists first
    begins p inside first is =
        let own = placed.each_part p inside in
        own.begins ∙ ap (λ (z : ℕ). front_sizes parts p + list_sizes lists z) (one_first lists p own.first first own.is_first is)

    pub ends : (p : ℕ) → (inside : p < length parts) → (last : ℕ) → IsFirst lists (p + 1) last → part_end (part_at new_parts p) ≡ front_sizes parts (p + 1) + list_sizes lists last
    ends p inside last is =
        let own = placed.each_part p inside in
        own.ends ∙ ap (λ (z : ℕ). front_sizes parts (p + 1) + list_sizes lists z) (one_first lists (p + 1) own.last last own.is_last is)

    -- it has its header and its offsets, and it ends where all fits
    pub lists_fit : (p : ℕ) → p < length parts → lists_at (part_at new_parts p) ≤ part_end (part_at new_parts p)
    lists_fit p inside =
        let own = placed.each_part p inside in
        let slots : (part_at new_parts p).slots ≡ (part_at parts p).slots = own.slots in
        let from : (part_at new_parts p).at ≡ front_sizes parts p + list_sizes lists own.first = own.begins in
        let to : part_end (part_at new_parts p) ≡ front_sizes parts (p + 1) + list_sizes lists own.last = own.ends in
        let more = fronts_more parts p inside in
        let rise = sizes_rise lists own.first own.last (first_below lists p own.first own.last own.is_first own.is_last) in
        omega (arith, slots, from, to, more, rise)

    pub part_fits : (p : ℕ) → p < length parts → part_end (part_at new_parts p) < least_reserved
    part_fits p inside =
        let own = placed.each_part p inside in
        let within : own.last ≤ length lists = own.is_last.within in
        let to : part_end (part_at new_parts p) ≡ front_sizes parts (p + 1) + list_sizes lists own.last = own.ends in
        let fronts = fronts_rise parts (p + 1) (length parts) (omega arith) in
        let sizes = sizes_rise lists own.last (length lists) within in
        let all = whole_size in
        omega (arith, to, fronts, sizes, all)

    -- a list that isn't before a contribution moves to no place before its offsets
    pub moved_behind : (p : ℕ) → p < length parts → (k : ℕ) → k < length moved → offsets_at (part_at parts p).at ≤ (moved_at moved k).old → offsets_at (part_at new_parts p).at ≤ (moved_at moved k).new
    moved_behind p inside k less from =
        let count : length moved ≡ length lists = placed.lists_count in
        let within : k < length lists = omega arith in
        let own = placed.each_part p inside in
        let list = placed.each_list k within in
        let old : (moved_at moved k).old ≡ (list_at lists k).at = list.from in
        let new : (moved_at moved k).new ≡ whole_at parts lists k + views_size (list_at lists k) = list.to in
        let at : (part_at new_parts p).at ≡ front_sizes parts p + list_sizes lists own.first = own.begins in
        let part = not_before k p within inside (omega (arith, from, old)) in
        let first : own.first ≤ k = elim (cases_lt k own.first) [ inl l ↦ let below = own.is_first.before k l in absurd (omega (arith, below, part)) | inr m ↦ omega arith ] in
        let more = fronts_more parts p inside in
        let fronts = fronts_rise parts (p + 1) ((list_at lists k).part + 1) (omega (arith, part)) in
        let sizes = sizes_rise lists own.first k first in
        omega (arith, new, at, more, fronts, sizes)

    pub moved_fits : (k : ℕ) → k < length lists → (moved_at moved k).new < least_reserved
    moved_fits k inside =
        let to : (moved_at moved k).new ≡ whole_at parts lists k + views_size (list_at lists k) = (placed.each_list k inside).to in
        let part = are_known k inside in
        let fronts = fronts_rise parts ((list_at lists k).part + 1) (length parts) (omega (arith, part)) in
        let more = sizes_more lists k inside in
        let sizes = sizes_rise lists (k + 1) (length lists) (omega arith) in
        let all = whole_size in
        omega (arith, to, fronts, more, sizes, all)

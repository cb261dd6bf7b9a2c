-- Contributions that are written one after the other.
use Rattle.std.proofs.Common.{◌≡◌, ◌≤◌, ◌<◌, ◌+◌, ◌-◌, ◌*◌, ◌∙◌, ℕ, List, [], ◌++◌, length, take, drop, sym, ap, refl, subst, arith, inl, inr}
use Rattle.std.proofs.lemmas.Bool.{cases_lt}
use Rattle.std.proofs.lemmas.List.{length-append, length-drop, length-take-le}
use Rattle.leb_codec.specs.Digits.{Extends}
use Rattle.form_codec.specs.declared.form.Width.TheVariants.{One, Two, Four}
use Rattle.form_codec.specs.Written.{low_bytes}
use Rattle.form_codec.proofs.WriteLaws.{low_len}
use Rattle.list_model.specs.declared.contribution.Contribution.{Contribution}
use Rattle.list_model.specs.declared.entry.ListKind.{ListKind}
use Rattle.list_model.specs.Contributions.{offsets_at, offset_place}
use Rattle.list_write.specs.declared.image.Moved.{Moved}
use Rattle.list_write.specs.Written.{ToWrite, part_at, list_at, CanBeWritten}
use Rattle.list_write.specs.inside.Places.{front_sizes, list_sizes, whole_at, IsFirst, ArePlaced}
use Rattle.list_write.specs.inside.Puts.{header_bytes, StandAt, IsSlotPut, SlotStands, AreSlotsPut, WholeStands, AreListsPut, AreWrittenTo}
use Rattle.list_write.proofs.Assembled.{whole_copied}
use Rattle.list_write.proofs.Placing.{fronts_more, sizes_more, sizes_rise}
use Rattle.list_write.proofs.Putting.{whole_stays}
use Rattle.list_write.proofs.Standing.{extends_more, stand_last, stand_more}
use Rattle.list_write.proofs.Ready.{begins, sized}

pub header_length : (part : Contribution) → length (header_bytes part) ≡ 12
header_length part =
    let a = low_len Four (part.len - 4) in
    let b = low_len Two 5 in
    let c = low_len One 8 in
    let d = low_len One 0 in
    let e = low_len Four part.slots in
    let f = length-append (low_bytes One 0) (low_bytes Four part.slots) in
    let g = length-append (low_bytes One 8) (low_bytes One 0 ++ low_bytes Four part.slots) in
    let h = length-append (low_bytes Two 5) (low_bytes One 8 ++ (low_bytes One 0 ++ low_bytes Four part.slots)) in
    let i = length-append (low_bytes Four (part.len - 4)) (low_bytes Two 5 ++ (low_bytes One 8 ++ (low_bytes One 0 ++ low_bytes Four part.slots))) in
    omega (arith, a, b, c, d, e, f, g, h, i)

slot_more : (section : List ℕ) (offsets new_offsets : ℕ) (moved : List Moved) (slot at : ℕ) (old new : List ℕ) → Extends old new → IsSlotPut section offsets new_offsets moved slot at old → IsSlotPut section offsets new_offsets moved slot at new
slot_more section offsets new_offsets moved slot at old new extends s = record { list = s.list; moved = s.moved; stands = stand_more at (low_bytes Four (s.list.new - new_offsets)) old new extends s.stands }

pub written_none : (kind : ListKind) (section : List ℕ) (parts : List Contribution) (lists : List ToWrite) (new_parts : List Contribution) (moved : List Moved) → AreWrittenTo kind section parts lists new_parts moved 0 0 []
written_none kind section parts lists new_parts moved = record {
  is_first = record { within = omega arith; before = λ k less. absurd (omega arith); behind = λ k from within. omega arith };
  size = refl;
  headers = λ q less. absurd (omega arith);
  slots = λ q slot less. absurd (omega arith);
  each = λ k less. absurd (omega arith);
}

module _ (kind : ListKind) (section : List ℕ) (parts : List Contribution) (lists : List ToWrite) (new_parts : List Contribution) (moved views : List Moved)
    (can : CanBeWritten kind section parts lists) (placed : ArePlaced parts lists new_parts moved views) (p first last : ℕ) (old a b new : List ℕ)
    (so_far : AreWrittenTo kind section parts lists new_parts moved p first old) (inside : p < length parts) (is_last : IsFirst lists (p + 1) last) (behind : first ≤ last)
    (header : a ≡ old ++ header_bytes (part_at new_parts p))
    (slots : AreSlotsPut section (offsets_at (part_at parts p).at) (offsets_at (part_at new_parts p).at) moved (part_at parts p).slots a b)
    (all : List ℕ) (put : AreListsPut kind lists (length lists) [] all) (from to : ℕ) (from_is : from ≡ list_sizes lists first) (to_is : to ≡ list_sizes lists last) (copied : new ≡ b ++ take (to - from) (drop from all)) where
  extends_b : Extends b new
  extends_b = (take (to - from) (drop from all), copied)

  at : (part_at new_parts p).at ≡ length old
  at = begins kind section parts lists can new_parts moved views placed p inside first so_far.is_first ∙ sym so_far.size

  behind_a : Extends a new
  behind_a = extends_more a b new slots.extends extends_b

  behind_old : Extends old new
  behind_old = extends_more old a new (header_bytes (part_at new_parts p), header) behind_a

  size_a : length a ≡ length old + 12
  size_a = ap length header ∙ length-append old (header_bytes (part_at new_parts p)) ∙ ap (λ (z : ℕ). length old + z) (header_length (part_at new_parts p))

  size_b : length b ≡ front_sizes parts (p + 1) + list_sizes lists first
  size_b =
      let so : length old ≡ front_sizes parts p + list_sizes lists first = so_far.size in
      let one = size_a in
      let two : length b ≡ length a + 4 * (part_at parts p).slots = slots.size in
      let front = fronts_more parts p inside in
      omega (arith, so, one, two, front)

  size_new : length new ≡ front_sizes parts (p + 1) + list_sizes lists last
  size_new =
      let within : last ≤ length lists = is_last.within in
      let whole : length all ≡ length {A = ℕ} [] + list_sizes lists (length lists) = put.size in
      let most = sizes_rise lists last (length lists) within in
      let rise = sizes_rise lists first last behind in
      let left : length (drop from all) ≡ length all - from = length-drop from all in
      let own : length (take (to - from) (drop from all)) ≡ to - from = length-take-le (to - from) (drop from all) (omega (arith, left, whole, most, to_is)) in
      let sum : length new ≡ length b + length (take (to - from) (drop from all)) = ap length copied ∙ length-append b (take (to - from) (drop from all)) in
      let two = size_b in
      omega (arith, own, sum, two, rise, from_is, to_is)

  headers : (q : ℕ) → q < p + 1 → StandAt (part_at new_parts q).at (header_bytes (part_at new_parts q)) new
  headers q less =
      elim (cases_lt q p) [
        | inl x ↦ stand_more (part_at new_parts q).at (header_bytes (part_at new_parts q)) old new behind_old (so_far.headers q x)
        | inr y ↦
            let same : p ≡ q = omega arith in
            subst (λ (z : ℕ). StandAt (part_at new_parts z).at (header_bytes (part_at new_parts z)) new) same (stand_more (part_at new_parts p).at (header_bytes (part_at new_parts p)) a new behind_a (stand_last old (header_bytes (part_at new_parts p)) a (part_at new_parts p).at header (sym at)))
      ]

  slot_here : (slot : ℕ) → slot < (part_at parts p).slots → SlotStands section parts new_parts moved p slot new
  slot_here slot less =
      let place : length a + 4 * slot ≡ offset_place (part_at new_parts p).at slot = let one = size_a in let there = at in omega (arith, one, there) in
      subst (λ (z : ℕ). IsSlotPut section (offsets_at (part_at parts p).at) (offsets_at (part_at new_parts p).at) moved slot z new) place
      (slot_more section (offsets_at (part_at parts p).at) (offsets_at (part_at new_parts p).at) moved slot (length a + 4 * slot) b new extends_b (slots.each slot less))

  all_slots : (q slot : ℕ) → q < p + 1 → slot < (part_at parts q).slots → SlotStands section parts new_parts moved q slot new
  all_slots q slot less within =
      elim (cases_lt q p) [
        | inl x ↦ slot_more section (offsets_at (part_at parts q).at) (offsets_at (part_at new_parts q).at) moved slot (offset_place (part_at new_parts q).at slot) old new behind_old (so_far.slots q slot x within)
        | inr y ↦
            let same : p ≡ q = omega arith in
            subst (λ (z : ℕ). slot < (part_at parts z).slots → SlotStands section parts new_parts moved z slot new) same (slot_here slot) within
      ]

  list_here : (k : ℕ) → first ≤ k → k < last → WholeStands kind (list_at lists k) (whole_at parts lists k) new
  list_here k after before =
      let within : last ≤ length lists = is_last.within in
      let inside : k < length lists = omega (arith, before, within) in
      let above : p ≤ (list_at lists k).part = so_far.is_first.behind k after inside in
      let below : (list_at lists k).part < p + 1 = is_last.before k before in
      let part : (list_at lists k).part ≡ p = omega (arith, above, below) in
      let fronts : front_sizes parts ((list_at lists k).part + 1) ≡ front_sizes parts (p + 1) = ap (λ (z : ℕ). front_sizes parts (z + 1)) part in
      let low = sizes_rise lists first k after in
      let more = sizes_more lists k inside in
      let high = sizes_rise lists (k + 1) last (omega (arith, before)) in
      let two = size_b in
      let there : length {A = ℕ} [] + list_sizes lists k ≡ list_sizes lists k = omega arith in
      let stands = subst (λ (z : ℕ). WholeStands kind (list_at lists k) z all) there (put.each k inside) in
      let place : length b + (list_sizes lists k - from) ≡ whole_at parts lists k = omega (arith, fronts, low, two, from_is) in
      subst (λ (z : ℕ). WholeStands kind (list_at lists k) z new) place
      (whole_copied kind (list_at lists k) (list_sizes lists k) from to all b new (sized kind section parts lists can k inside) stands (omega (arith, low, from_is)) (omega (arith, more, high, to_is)) copied)

  each : (k : ℕ) → k < last → WholeStands kind (list_at lists k) (whole_at parts lists k) new
  each k less =
      elim (cases_lt k first) [
        | inl x ↦ whole_stays kind (list_at lists k) (whole_at parts lists k) old new behind_old (so_far.each k x)
        | inr y ↦ list_here k y less
      ]

  pub written_more : AreWrittenTo kind section parts lists new_parts moved (p + 1) last new
  written_more = record { is_first = is_last; size = size_new; headers = headers; slots = all_slots; each = each }

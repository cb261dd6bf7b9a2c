-- Numbers of 32 bits name the lists of a valid file.
use Rattle.std.proofs.Common.{◌≡◌, ◌≤◌, ◌<◌, ◌+◌, ◌-◌, ◌^◌, ◌∙◌, inl, inr, ℕ, zero, suc, List, [], ◌∷◌, length, take, drop, Bool, true, false, true≢false, sym, ap, refl, arith}
use Rattle.std.specs.Prelude.{Option, Some, None, ◌&&◌, nat_lt, slice_range}
use Rattle.std.proofs.lemmas.Bool.{cases_lt, lt-ltb}
use Rattle.dw_base.specs.declared.fault.Reach.{Reach}
use Rattle.dw_base.specs.declared.fault.Reach.TheVariants.{Narrow, Wide}
use Rattle.elf_sections.specs.Elf.{body_span}
use Rattle.elf_sections.specs.Names.{name_of, is_debug_name}
use Rattle.elf_sections.specs.Faults.{debug_limit}
use Rattle.list_model.specs.declared.entry.ListKind.{ListKind}
use Rattle.list_model.specs.declared.entry.ListKind.TheVariants.{Ranges, Locations}
use Rattle.value_links.specs.Sections.{body_or_none, section_named, debug_lists, lists_name}
use Rattle.value_links.specs.Reading.{ListRead, ListSection, Reading, of_kind, lists_of, list_at}
use Rattle.value_links.specs.Faults.{IsValid}
use Rattle.value_links.specs.Whole.{IsReading}
use Rattle.value_links.proofs.SectionLaws.{sections_are_found}
use Rattle.value_links.proofs.ValidImages.{image_in_order}
use Rattle.value_links.proofs.HeldLists.{place_inside}

-- SECTIONS OF LISTS

take_short : (n : ℕ) (xs : List ℕ) → length (take n xs) ≤ n
take_short zero xs = omega arith
take_short (suc n) [] = omega arith
take_short (suc n) (x ∷ xs) = let few : length (take n xs) ≤ n = take_short n xs in omega arith

range_short : (xs : List ℕ) (from len : ℕ) → length (slice_range xs from (from + len)) ≤ len
range_short xs from len =
    let front : length (take (from + len - from) (drop from xs)) ≤ from + len - from = take_short (from + len - from) (drop from xs) in
    omega (arith, front)

not_long : (limit len : ℕ) (debug : Bool) → debug ≡ true → debug && nat_lt limit len ≡ false → len ≤ limit
not_long limit len true is short = elim (cases_lt limit len) [
  | inl past ↦ absurd (true≢false (sym (lt-ltb limit len past) ∙ short))
  | inr within ↦ within
]
not_long limit len false is short = absurd (true≢false (sym is))

limit_fits : (reach : Reach) → debug_limit reach < 2 ^ 32
limit_fits Narrow = omega arith
limit_fits Wide = omega arith

debug_named : (kind : ListKind) → is_debug_name (lists_name kind) ≡ true
debug_named Ranges = refl
debug_named Locations = refl

module _ (file : List ℕ) (reach : Reach) (valid : IsValid file reach) (kind : ListKind) where
  found_short : (i : ℕ) → section_named file (lists_name kind) ≡ Some i → (body_span file i).len ≤ debug_limit reach
  found_short i found =
      let first = (sections_are_found.found file (lists_name kind) i).0 found in
      let short = ((image_in_order file reach valid).sound.sections i first.inside).short in
      not_long (debug_limit reach) (body_span file i).len (is_debug_name (name_of file i)) (ap is_debug_name first.named ∙ debug_named kind) short

  body_short : (found : Option ℕ) → ((i : ℕ) → found ≡ Some i → (body_span file i).len ≤ debug_limit reach) → length (body_or_none file found) < 2 ^ 32
  body_short (Some i) few =
      let part = range_short file (body_span file i).at (body_span file i).len in
      let len = few i refl in
      let fits = limit_fits reach in
      omega (arith, part, len, fits)
  body_short None few = omega arith

  section_short : length (debug_lists file kind) < 2 ^ 32
  section_short = body_short (section_named file (lists_name kind)) found_short

-- LISTS

-- a list begins no earlier than its number tells
rises : (lists : List ListRead) → ((j k : ℕ) → j < k → k < length lists → (list_at lists j).at < (list_at lists k).at) → (k : ℕ) → k < length lists → k ≤ (list_at lists k).at
rises lists rising zero inside = omega arith
rises lists rising (suc k) inside =
    let before : k ≤ (list_at lists k).at = rises lists rising k (omega (arith, inside)) in
    let more : (list_at lists k).at < (list_at lists (suc k)).at = rising k (suc k) (omega arith) inside in
    omega (arith, before, more)

pub few_lists : (file : List ℕ) (reach : Reach) (r : Reading) → IsValid file reach → IsReading file r → (kind : ListKind) (k : ℕ) → k < length (lists_of r kind) → k < 2 ^ 32
few_lists file reach r valid read kind k inside =
    let lists : List ListRead = lists_of r kind in
    let section : ListSection = of_kind r.links kind in
    let from : k ≤ (list_at lists k).at = rises lists (read.lists kind).rising k inside in
    let to : (list_at lists k).at < length section.section = place_inside section (list_at lists k).part (list_at lists k).at (read.links.lists kind).tiled ((read.lists kind).each k inside).begins in
    let bytes : length section.section ≡ length (debug_lists file kind) = ap (λ (z : List ℕ). length z) (read.links.lists kind).bytes_are in
    let short = section_short file reach valid kind in
    omega (arith, from, to, bytes, short)

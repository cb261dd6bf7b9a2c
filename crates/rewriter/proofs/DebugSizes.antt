-- How long the debug sections of a valid file are.
use Rattle.std.proofs.Common.{◌≡◌, ◌≤◌, ◌<◌, ◌+◌, ◌-◌, ◌*◌, ◌^◌, ◌∙◌, inl, inr, ℕ, zero, suc, List, [], ◌∷◌, length, take, drop, true, false, true≢false, sym, ap, refl, arith}
use Rattle.std.specs.Prelude.{Bool, Option, Some, None, ◌&&◌, nat_lt, slice_range}
use Rattle.std.proofs.lemmas.Bool.{cases_lt, lt-ltb}
use Rattle.dw_base.specs.declared.fault.Reach.TheVariants.{Narrow}
use Rattle.elf_sections.specs.Elf.{body_span}
use Rattle.elf_sections.specs.Names.{name_of, is_debug_name}
use Rattle.value_links.specs.Sections.{body_named, body_or_none, section_named, debug_line, line_name}
use Rattle.value_links.specs.Faults.{IsValid}
use Rattle.value_links.proofs.SectionLaws.{sections_are_found}
use Rattle.value_links.proofs.ValidImages.{image_in_order}

take_short : (n : ℕ) (xs : List ℕ) → length (take n xs) ≤ n
take_short zero xs = omega arith
take_short (suc n) [] = omega arith
take_short (suc n) (x ∷ xs) = let few : length (take n xs) ≤ n = take_short n xs in omega arith

-- a part of a list is no longer than it is asked to be
range_short : (xs : List ℕ) (from len : ℕ) → length (slice_range xs from (from + len)) ≤ len
range_short xs from len =
    let front : length (take (from + len - from) (drop from xs)) ≤ from + len - from = take_short (from + len - from) (drop from xs) in
    omega (arith, front)

not_long : (limit len : ℕ) (debug : Bool) → debug ≡ true → debug && nat_lt limit len ≡ false → len ≤ limit
not_long limit len true is short = elim (cases_lt limit len) [
  | inl past ↦ absurd (true≢false (sym (lt-ltb limit len past) ∙ short))
  | inr within ↦ within
]
not_long limit len false is short = absurd (true≢false (sym is))

found_short : (file name : List ℕ) (i : ℕ) → is_debug_name name ≡ true → IsValid file Narrow → section_named file name ≡ Some i → (body_span file i).len ≤ 2 ^ 28
found_short file name i debug valid found =
    let first = (sections_are_found.found file name i).0 found in
    let short = ((image_in_order file Narrow valid).sound.sections i first.inside).short in
    not_long (2 ^ 28) (body_span file i).len (is_debug_name (name_of file i)) (ap is_debug_name first.named ∙ debug) short

body_short : (file : List ℕ) (found : Option ℕ) → ((i : ℕ) → found ≡ Some i → (body_span file i).len ≤ 2 ^ 28) → length (body_or_none file found) ≤ 2 ^ 28
body_short file (Some i) few =
    let part = range_short file (body_span file i).at (body_span file i).len in
    let len = few i refl in
    omega (arith, part, len)
body_short file None few = omega arith

-- a debug section of a file within the narrow limits has at most 2^28 bytes
pub debug_short : (file name : List ℕ) → is_debug_name name ≡ true → IsValid file Narrow → length (body_named file name) ≤ 2 ^ 28
debug_short file name debug valid = body_short file (section_named file name) (λ i found. found_short file name i debug valid found)

-- what line number programs get when they are written anew fits the 32-bit format
pub lines_short : (file : List ℕ) (size : ℕ) → IsValid file Narrow → size ≤ 2 * length (debug_line file) + 68 * 2 ^ 25 → size < 2 ^ 32 - 1
lines_short file size valid most =
    let short : length (debug_line file) ≤ 2 ^ 28 = debug_short file line_name refl valid in
    omega (arith, short, most)

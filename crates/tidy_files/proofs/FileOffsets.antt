-- Places of a section, as offsets in the file.
use Rattle.std.proofs.Common.{◌≤◌, ◌<◌, ◌+◌, ◌-◌, ◌^◌, ℕ, zero, suc, List, [], ◌∷◌, length, take, drop, arith, length-drop}
use Rattle.std.specs.Prelude.{Option, Some, None, slice_range}
use Rattle.dw_base.specs.declared.fault.Reach.{Reach}
use Rattle.dw_base.specs.declared.fault.Reach.TheVariants.{Wide}
use Rattle.elf_sections.specs.Elf.{body_span}
use Rattle.elf_sections.specs.Faults.{IsRead}
use Rattle.elf_sections.proofs.Reaches.{read-wide}
use Rattle.value_links.specs.Sections.{body_named, body_or_none, section_named}
use Rattle.value_links.specs.World.{World, IsWorldOf}
use Rattle.value_links.proofs.ValidImages.{image_in_order}

-- SIZES

take_short : (n : ℕ) (xs : List ℕ) → length (take n xs) ≤ length xs
take_short zero xs = omega arith
take_short (suc n) [] = omega arith
take_short (suc n) (x ∷ xs) = let few : length (take n xs) ≤ length xs = take_short n xs in omega arith

part_short : (xs : List ℕ) (from to : ℕ) → length (slice_range xs from to) ≤ length xs
part_short xs from to =
    let front : length (take (to - from) (drop from xs)) ≤ length (drop from xs) = take_short (to - from) (drop from xs) in
    omega (arith, front, length-drop from xs)

body_short : (file : List ℕ) (found : Option ℕ) → length (body_or_none file found) ≤ length file
body_short file (Some i) = part_short file (body_span file i).at ((body_span file i).at + (body_span file i).len)
body_short file None = omega arith

-- a section of a file that was read has fewer bytes than numbers of 64 bits count
pub body_counted : (world : World) → (reach : Reach) × IsWorldOf world.image reach world → (name : List ℕ) → length (body_named world.image name) < 2 ^ 64
body_counted world (reach, is) name =
    let short : length (body_named world.image name) ≤ length world.image = body_short world.image (section_named world.image name) in
    let read : IsRead world.image Wide = read-wide world.image reach (image_in_order world.image reach is.valid) in
    let small = read.small.bytes in
    omega arith

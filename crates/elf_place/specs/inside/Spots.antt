-- The places that movable sections get in a new file.
use Rattle.std.specs.Prelude.{◌≡◌, ◌≤◌, ◌<◌, ◌+◌, ◌-◌, ◌*◌, ◌^◌, ◌⊎◌, ℕ, zero, suc, List, [], ◌∷◌, ◌++◌, length, take, replicate, slice_index, if◌then◌else◌}
use Rattle.std.specs.List.{All}
use Rattle.elf_sections.specs.Elf.{section_count, align_of, sections_at, header_of, offset_of, size_of, is_movable, fixed_end_of}
use Rattle.elf_place.specs.declared.spots.Spot.{Spot}
use Rattle.elf_place.specs.Layout.{IsNextMultiple}

-- the offsets and numbers of the movable sections among the first n
abbrev pub movable_among : List ℕ → ℕ → List (ℕ × ℕ)
movable_among file zero = []
movable_among file (suc n) =
    movable_among file n ++ (if is_movable file n then (offset_of file n, n) ∷ [] else [])

-- a section takes little room: its alignment and its bytes are few
pub record IsRoomy (file : List ℕ) (bytes : ℕ → List ℕ) (i : ℕ) : Type 0 where
  pub inside : i < section_count file
  pub aligned : align_of file i ≤ 4096
  pub small : length (bytes i) ≤ 2 ^ 35

-- a spot holds a section at the next multiple of its alignment
pub record IsSpot (file : List ℕ) (bytes : ℕ → List ℕ) (start : ℕ) (spot : Spot) : Type 0 where
  pub place : IsNextMultiple start (align_of file spot.section) spot.at
  pub size : spot.len ≡ length (bytes spot.section)

-- spots follow one another from a start up to an end
abbrev pub IsChain : List ℕ → (ℕ → List ℕ) → ℕ → List Spot → ℕ → Type 0
IsChain file bytes start [] end = start ≡ end
IsChain file bytes start (spot ∷ spots) end =
    IsSpot file bytes start spot × IsChain file bytes (spot.at + spot.len) spots end

-- zeros up to a place
abbrev pub filled : List ℕ → ℕ → List ℕ
filled out at = out ++ replicate (at - length out) 0

-- the bodies at these spots
abbrev pub laid : (ℕ → List ℕ) → List ℕ → List Spot → List ℕ
laid bytes out [] = out
laid bytes out (spot ∷ spots) = laid bytes (filled out spot.at ++ bytes spot.section) spots

-- the first n section headers
abbrev pub headers_of : List ℕ → ℕ → List ℕ
headers_of file zero = []
headers_of file (suc n) = headers_of file n ++ header_of file n

-- The new file in parts: the loaded bytes, the bodies at their spots, zeros, and the headers.
abbrev pub body_part : List ℕ → (ℕ → List ℕ) → List Spot → List ℕ
body_part file bytes spots = laid bytes (take (fixed_end_of file) file) spots

abbrev pub unpatched : List ℕ → (ℕ → List ℕ) → List Spot → ℕ → List ℕ
unpatched file bytes spots table = filled (body_part file bytes spots) table ++ headers_of file (section_count file)

-- a byte is none of those that say where the sections of these spots stand, in a header table at this place
abbrev pub IsApart : ℕ → List Spot → ℕ → Type 0
IsApart table spots k = All (λ spot. (k < table + 64 * spot.section + 24) ⊎ (table + 64 * spot.section + 40 ≤ k)) spots

-- the numbers that say where the header table and the sections of these spots stand were written over those of a file
pub record IsPatched (table : ℕ) (spots : List Spot) (old new : List ℕ) : Type 0 where
  pub place : sections_at new ≡ table
  pub offsets : All (λ spot. offset_of new spot.section ≡ spot.at) spots
  pub sizes : All (λ spot. size_of new spot.section ≡ spot.len) spots
  pub others : (k : ℕ) → (k < 40) ⊎ (48 ≤ k) → IsApart table spots k → slice_index new k ≡ slice_index old k
  pub long : length new ≡ length old

-- the new file with these spots: the parts one after the other, with the numbers written over them
pub record IsWritten (file : List ℕ) (bytes : ℕ → List ℕ) (spots : List Spot) (end : ℕ) (new : List ℕ) : Type 0 where
  pub table : ℕ
  pub next : IsNextMultiple end 8 table
  pub patched : IsPatched table spots (unpatched file bytes spots table) new

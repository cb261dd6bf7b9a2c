-- Where the parts of a file stand when it is written anew. Places are counted from the file's first byte, from 0 on.
use Rattle.std.specs.Prelude.{◌≡◌, ◌≤◌, ◌<◌, ◌+◌, ◌%◌, ◌⊎◌, ◌↔◌, ℕ, max, List, [], ◌∷◌, length, slice_index, IsTrue}
use Rattle.std.specs.List.{Contains, AllPairs}
use Rattle.elf_sections.specs.Elf.{section_count, align_of, sections_at, header_at, offset_of, size_of, body_of, is_movable, fixed_end_of}
use Rattle.elf_place.specs.Same.{KeepsLoaded, KeepsHeaders}

-- a place is the next multiple of an alignment from a start on: the least one that isn't below it. An alignment of 0 counts as 1
pub record IsNextMultiple (start align at : ℕ) : Type 0 where
  pub from : start ≤ at
  pub multiple : at % max align 1 ≡ 0
  pub least : (other : ℕ) → start ≤ other → other % max align 1 ≡ 0 → at ≤ other

-- a section stands before another: by its offset or, where the offsets are equal, by its number
abbrev pub IsBefore : List ℕ → ℕ → ℕ → Type 0
IsBefore file i j = (offset_of file i < offset_of file j) ⊎ ((offset_of file i ≡ offset_of file j) × (i < j))

-- the numbers of the movable sections and no others, each once, in the order in which the sections stand
pub record IsMovingOrder (file order : List ℕ) : Type 0 where
  pub movable : (i : ℕ) → Contains order i ↔ ((i < section_count file) × IsTrue (is_movable file i))
  pub sorted : AllPairs (IsBefore file) order

-- the bytes from a place up to another are 0
abbrev pub IsGap : List ℕ → ℕ → ℕ → Type 0
IsGap file from to = (k : ℕ) → from ≤ k → k < to → slice_index file k ≡ 0

-- a section stands at the next multiple of its alignment from a start on, after a gap, and holds these bytes
pub record StandsAfter (file : List ℕ) (start i : ℕ) (bytes : List ℕ) : Type 0 where
  pub place : IsNextMultiple start (align_of file i) (offset_of file i)
  pub gap : IsGap file start (offset_of file i)
  pub size : size_of file i ≡ length bytes
  pub body : body_of file i ≡ bytes

-- sections stand one after the other from a start up to an end, each with the bytes that a function gives
abbrev pub Stand : List ℕ → (ℕ → List ℕ) → List ℕ → ℕ → ℕ → Type 0
Stand file bytes [] start end = start ≡ end
Stand file bytes (i ∷ order) start end =
    StandsAfter file start i (bytes i) × Stand file bytes order (offset_of file i + size_of file i) end

-- A file was written anew, with these bytes as the bodies of its movable sections. This leaves no byte of it open:
-- `loaded` gives those below the fixed end but for 40 to 47, which spell where `table` has the header table; `sections`
-- gives those up to the end of the last section, since `place` and `size` say where each body stands and `gap` what is
-- between them; `gap` gives those up to the header table; each header is that of the old file by `headers`, but for the
-- offset and size, which `sections` gives for a movable section and `headers` for another; and `whole` says that nothing
-- follows.
pub record IsLaidOut (old : List ℕ) (bytes : ℕ → List ℕ) (new : List ℕ) : Type 0 where
  pub loaded : KeepsLoaded old new
  pub headers : KeepsHeaders old new
  pub order : List ℕ
  pub moving : IsMovingOrder old order
  pub end : ℕ
  pub sections : Stand new bytes order (fixed_end_of old) end
  pub table : IsNextMultiple end 8 (sections_at new)
  pub gap : IsGap new end (sections_at new)
  pub whole : length new ≡ header_at new (section_count new)

-- Where the parts of a file that is written anew for another are amiss. Its movable sections are to stand behind the fixed end in the order
-- in which they stood, each at the next multiple of its alignment, with bytes 0 between; the section headers at the next multiple of 8; and
-- nothing behind them (System V ABI, ELF-64). Places are offsets in the written file.
use Rattle.std.specs.Prelude.{◌≡◌, ◌≢◌, ◌≤◌, ◌<◌, ◌+◌, ◌⊎◌, ℕ, List, [], ◌∷◌, length, slice_index, nat_eq, if◌then◌else◌, IsTrue}
use Rattle.elf_sections.specs.Elf.{section_count, align_of, sections_at, header_at, offset_of, size_of, is_movable, fixed_end_of}
use Rattle.elf_place.specs.Layout.{IsNextMultiple, IsMovingOrder}

-- WHERE SECTIONS ARE DUE

-- Sections are due one behind the other, from a start on, each at the next multiple of its alignment. The one with a number is due at a
-- place.
abbrev pub IsDueAmong : List ℕ → List ℕ → ℕ → ℕ → ℕ → Type 0
IsDueAmong written [] start i at = ⊥
IsDueAmong written (first ∷ order) start i at =
    (place : ℕ) × IsNextMultiple start (align_of written first) place × (((i ≡ first) × (at ≡ place)) ⊎ IsDueAmong written order (place + size_of written first) i at)

-- the last of them ends at a place
abbrev pub EndsAt : List ℕ → List ℕ → ℕ → ℕ → Type 0
EndsAt written [] start end = end ≡ start
EndsAt written (first ∷ order) start end = (place : ℕ) × IsNextMultiple start (align_of written first) place × EndsAt written order (place + size_of written first) end

-- the movable section with a number is due at a place
pub record IsDue (file written : List ℕ) (i at : ℕ) : Type 0 where
  pub order : List ℕ
  pub moving : IsMovingOrder file order
  pub due : IsDueAmong written order (fixed_end_of file) i at

-- the section headers are due at a place
pub record AreHeadersDue (file written : List ℕ) (at : ℕ) : Type 0 where
  pub order : List ℕ
  pub moving : IsMovingOrder file order
  pub end : ℕ
  pub ends : EndsAt written order (fixed_end_of file) end
  pub next : IsNextMultiple end 8 at

-- WHAT IS AMISS

-- the rows of what may be amiss, in the order in which they are looked at
pub data Row : Type 0 where
  OfSection : Row
  OfHeaders : Row
  OfByte : Row

abbrev pub order_of : Row → ℕ
order_of OfSection = 0
order_of OfHeaders = 1
order_of OfByte = 2

-- a section stands elsewhere
abbrev pub IsSectionElsewhere : List ℕ → List ℕ → ℕ → Type 0
IsSectionElsewhere file written p = (i : ℕ) × (at : ℕ) × IsDue file written i at × (offset_of written i ≢ at) × (p ≡ offset_of written i)

-- the section headers stand elsewhere; a file without sections has none
abbrev pub AreHeadersElsewhere : List ℕ → List ℕ → ℕ → Type 0
AreHeadersElsewhere file written p = (section_count file ≢ 0) × ((at : ℕ) × AreHeadersDue file written at × (sections_at written ≢ at)) × (p ≡ sections_at written)

-- no movable section has the byte at a place
abbrev pub IsBetween : List ℕ → List ℕ → ℕ → Type 0
IsBetween file written p = (i : ℕ) → i < section_count file → IsTrue (is_movable file i) → offset_of written i ≤ p → p < offset_of written i + size_of written i → ⊥

-- the byte between sections, or between them and the section headers, isn't 0
pub record IsGapFilled (file written : List ℕ) (p : ℕ) : Type 0 where
  pub some : section_count file ≢ 0
  pub from : fixed_end_of file ≤ p
  pub to : p < sections_at written
  pub inside : p < length written
  pub between : IsBetween file written p
  pub other : slice_index written p ≢ 0

-- where the file is to end: behind the section headers, or where there are none behind the fixed end
abbrev pub layout_end : List ℕ → List ℕ → ℕ
layout_end file written = if nat_eq (section_count file) 0 then fixed_end_of file else header_at written (section_count file)

-- a byte stands behind the end
abbrev pub IsBehindEnd : List ℕ → List ℕ → ℕ → Type 0
IsBehindEnd file written p = (layout_end file written ≤ p) × (p < length written)

-- this row holds at a place
abbrev pub IsMisplaced : List ℕ → List ℕ → Row → ℕ → Type 0
IsMisplaced file written OfSection p = IsSectionElsewhere file written p
IsMisplaced file written OfHeaders p = AreHeadersElsewhere file written p
IsMisplaced file written OfByte p = IsGapFilled file written p ⊎ IsBehindEnd file written p

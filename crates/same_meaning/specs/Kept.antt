-- Where two files differ in what a writer of debug information leaves as it is: the loaded bytes, and the names, headers and bodies of
-- sections. Sections are named by their numbers, and 0 stands for bytes that no section holds.
use Rattle.std.specs.Prelude.{◌≡◌, ◌≢◌, ◌≤◌, ◌<◌, ◌+◌, ◌⊎◌, ℕ, List, length, map, slice_get, slice_index, IsFalse}
use Rattle.elf_sections.specs.Elf.{section_count, header_at, offset_of, size_of, body_of, body_span, is_movable, fixed_end_of}
use Rattle.elf_sections.specs.Names.{name_of, is_written}
use Rattle.companions.specs.Aranges.{IsOutside}
use Rattle.value_links.specs.Sections.{aranges_name}
use Rattle.value_links.specs.Reading.{Reading}
use Rattle.value_links.specs.Whole.{IsReading}
use Rattle.value_links.specs.Debug.{set_meaning}

-- LOADED BYTES

-- what is loaded are the bytes below the fixed end but for e_shoff, which says where the section headers stand
abbrev pub IsLoadedByte : List ℕ → ℕ → Type 0
IsLoadedByte file k = (k < fixed_end_of file) × ((k < 40) ⊎ (48 ≤ k))

-- the body of a section has a byte of the file
abbrev pub HasByte : List ℕ → ℕ → ℕ → Type 0
HasByte file i k = ((body_span file i).at ≤ k) × (k < (body_span file i).at + (body_span file i).len)

-- a loaded byte of the old file, which no section has, is another byte in the new file, or past its end
pub record DiffersOutside (a b : List ℕ) : Type 0 where
  pub k : ℕ
  pub loaded : IsLoadedByte a k
  pub outside : (i : ℕ) → i < section_count a → HasByte a i k → ⊥
  pub other : slice_get b k ≢ slice_get a k

-- SECTIONS

-- a byte of the header of a section differs that isn't of its offset or its size (bytes 24 to 39 of the 64)
pub record HasOtherField (a b : List ℕ) (i : ℕ) : Type 0 where
  pub k : ℕ
  pub inside : k < 64
  pub field : (k < 24) ⊎ (40 ≤ k)
  pub other : slice_index b (header_at b i + k) ≢ slice_index a (header_at a i + k)

-- a section that isn't movable has another offset or another size
abbrev pub HasOtherPlace : List ℕ → List ℕ → ℕ → Type 0
HasOtherPlace a b i = IsFalse (is_movable a i) × ((offset_of b i ≢ offset_of a i) ⊎ (size_of b i ≢ size_of a i))

-- the body of a section that isn't written anew differs
abbrev pub HasOtherBody : List ℕ → List ℕ → ℕ → Type 0
HasOtherBody a b i = IsFalse (is_written (name_of a i)) × (body_of b i ≢ body_of a i)

-- .debug_aranges has another size, another byte outside the debug_info_offset of its sets, or a set of another unit (DWARF 5 section
-- 6.1.2)
pub record HasOtherAranges (a b : List ℕ) (i : ℕ) : Type 0 where
  pub named : name_of a i ≡ aranges_name
  pub r : Reading
  pub s : Reading
  pub read : IsReading a r
  pub again : IsReading b s
  pub other :
      (length (body_of b i) ≢ length (body_of a i))
      ⊎ (((k : ℕ) × IsOutside r.sets k × (slice_index (body_of b i) k ≢ slice_index (body_of a i) k))
      ⊎ (map set_meaning s.sets ≢ map set_meaning r.sets))

-- a section of the old file differs from the one with its number in the new file
abbrev pub SectionDiffers : List ℕ → List ℕ → ℕ → Type 0
SectionDiffers a b i =
    (name_of b i ≢ name_of a i) ⊎ (HasOtherField a b i ⊎ (HasOtherPlace a b i ⊎ (HasOtherBody a b i ⊎ HasOtherAranges a b i)))

-- What is kept differs at a number of a section. Where there are more or fewer sections, that is 0.
abbrev pub KeptDiffers : List ℕ → List ℕ → ℕ → Type 0
KeptDiffers a b s =
    ((section_count b ≢ section_count a) × (s ≡ 0))
    ⊎ ((section_count b ≡ section_count a) × (((s ≡ 0) × DiffersOutside a b) ⊎ ((s < section_count a) × SectionDiffers a b s)))

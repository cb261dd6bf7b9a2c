-- When two files mean the same: by their debug sections, and by all else that they hold.
use Rattle.std.specs.Prelude.{◌≡◌, ℕ, List, length, slice_index}
use Rattle.elf_sections.specs.Names.{name_of, is_written}
use Rattle.elf_place.specs.Same.{SameImage}
use Rattle.companions.specs.Aranges.{IsOutside}
use Rattle.value_links.specs.Sections.{debug_aranges}
use Rattle.value_links.specs.Reading.{Reading}
use Rattle.value_links.specs.Whole.{IsReading}
use Rattle.value_links.specs.Debug.{Debug, Means}

-- both files have the same debug meaning
abbrev pub SameDebug : List ℕ → List ℕ → Type 0
SameDebug a b = (debug : Debug) × Means a debug × Means b debug

-- .debug_aranges is the same outside the debug_info_offset of its sets (DWARF 5 section 6.1.2)
pub record SameAranges (a b : List ℕ) : Type 0 where
  pub r : Reading
  pub read : IsReading a r
  pub size : length (debug_aranges b) ≡ length (debug_aranges a)
  pub bytes : (k : ℕ) → IsOutside r.sets k → slice_index (debug_aranges b) k ≡ slice_index (debug_aranges a) k

-- The file b means the same as a. The loaded bytes, the names and headers of sections, and the bodies of the sections that
-- aren't written anew are the same; so is .debug_aranges but for its fields; and so is the debug meaning.
pub record Same (a b : List ℕ) : Type 0 where
  pub debug : SameDebug a b
  pub image : SameImage (λ (i : ℕ). is_written (name_of a i)) a b
  pub aranges : SameAranges a b

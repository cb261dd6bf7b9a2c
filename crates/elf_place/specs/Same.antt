-- What two files have in common as images: what is loaded, and the names, headers and bodies of their sections.
use Rattle.std.specs.Prelude.{◌≡◌, ◌≢◌, ◌≤◌, ◌<◌, ◌+◌, ◌⊎◌, ℕ, List, Bool, length, slice_index, IsFalse}
use Rattle.elf_sections.specs.Elf.{section_count, header_at, offset_of, size_of, body_of, is_movable, fixed_end_of}
use Rattle.elf_sections.specs.Names.{name_of}

-- The new file has the bytes below the fixed end, and they are the same but for bytes 40 to 47, which say where the
-- section headers stand.
pub record KeepsLoaded (old new : List ℕ) : Type 0 where
  pub inside : fixed_end_of old ≤ length new
  pub bytes : (k : ℕ) → k < fixed_end_of old → (k < 40) ⊎ (48 ≤ k) → slice_index new k ≡ slice_index old k

-- There are as many sections, and the new file has all of their headers. Each header has the same bytes but for the
-- offset and the size (bytes 24 to 39 of its 64), and these two are the same for a section that isn't movable.
pub record KeepsHeaders (old new : List ℕ) : Type 0 where
  pub count : section_count new ≡ section_count old
  pub inside : section_count old ≢ 0 → header_at new (section_count old) ≤ length new
  pub fields : (i k : ℕ) → i < section_count old → (k < 24) ⊎ (40 ≤ k) → k < 64 → slice_index new (header_at new i + k) ≡ slice_index old (header_at old i + k)
  pub offsets : (i : ℕ) → i < section_count old → IsFalse (is_movable old i) → offset_of new i ≡ offset_of old i
  pub sizes : (i : ℕ) → i < section_count old → IsFalse (is_movable old i) → size_of new i ≡ size_of old i

-- The two files mean the same but for the bodies of the sections that are replaced.
pub record SameImage (replaced : ℕ → Bool) (old new : List ℕ) : Type 0 where
  pub loaded : KeepsLoaded old new
  pub headers : KeepsHeaders old new
  pub names : (i : ℕ) → i < section_count old → name_of new i ≡ name_of old i
  pub bodies : (i : ℕ) → i < section_count old → IsFalse (replaced i) → body_of new i ≡ body_of old i

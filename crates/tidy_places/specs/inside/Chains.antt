-- Movable sections with the places where they are due.
use Rattle.std.specs.Prelude.{◌≡◌, ◌≢◌, ◌≤◌, ◌<◌, ◌+◌, ◌⊎◌, ℕ, List, [], ◌∷◌, length, map, slice_index, slice_index_or}
use Rattle.elf_sections.specs.Elf.{align_of, offset_of, size_of}
use Rattle.elf_place.specs.Layout.{IsNextMultiple}
use Rattle.tidy_places.specs.declared.due.Due.{Due}

abbrev pub numbers_of : List Due → List ℕ
numbers_of sections = map (λ (due : Due). due.section) sections

-- the one with a number among them; past the end there is none, and one of zeros stands for it
abbrev pub due_at : List Due → ℕ → Due
due_at sections k = slice_index_or sections k (record { section = 0; at = 0; len = 0 })

-- a section is due behind a start
pub record IsDueBehind (written : List ℕ) (start : ℕ) (due : Due) : Type 0 where
  pub place : IsNextMultiple start (align_of written due.section) due.at
  pub size : due.len ≡ size_of written due.section

-- sections are due one behind the other, from a start up to an end
abbrev pub AreDue : List ℕ → ℕ → List Due → ℕ → Type 0
AreDue written start [] end = end ≡ start
AreDue written start (due ∷ sections) end = IsDueBehind written start due × AreDue written (due.at + due.len) sections end

-- one of the first n of them stands elsewhere, at a place
abbrev pub IsOffAmong : List ℕ → List Due → ℕ → ℕ → Type 0
IsOffAmong written sections n p =
    (k : ℕ) × (k < n) × (offset_of written (due_at sections k).section ≢ (due_at sections k).at) × (p ≡ offset_of written (due_at sections k).section)

abbrev pub IsOff : List ℕ → List Due → ℕ → Type 0
IsOff written sections p = IsOffAmong written sections (length sections) p

-- Each of them stands where it is due.
abbrev pub StandDue : List ℕ → List Due → Type 0
StandDue written sections = (k : ℕ) → k < length sections → offset_of written (due_at sections k).section ≡ (due_at sections k).at

-- the byte at a place, from one up to another, isn't 0
abbrev pub IsFilledBetween : List ℕ → ℕ → ℕ → ℕ → Type 0
IsFilledBetween written from to p = (from ≤ p) × (p < to) × (slice_index written p ≢ 0)

-- a byte before one of the sections, and behind the one before it, isn't 0
abbrev pub IsFilledAmong : List ℕ → ℕ → List Due → ℕ → Type 0
IsFilledAmong written start [] p = ⊥
IsFilledAmong written start (due ∷ sections) p = IsFilledBetween written start due.at p ⊎ IsFilledAmong written (due.at + due.len) sections p

-- Laws of places: what a writer lays out has nothing amiss.
use Rattle.std.specs.Prelude.{◌≡◌, ◌≢◌, ℕ, List}
use Rattle.dw_base.specs.declared.fault.Reach.TheVariants.{Wide}
use Rattle.elf_sections.specs.Elf.{section_count}
use Rattle.elf_sections.specs.Faults.{IsRead}
use Rattle.elf_place.specs.Layout.{IsLaidOut}
use Rattle.tidy_places.specs.Misplaced.{Row, IsMisplaced}

-- nothing is amiss
abbrev pub IsInPlace : List ℕ → List ℕ → Type 0
IsInPlace file written = (row : Row) (p : ℕ) → IsMisplaced file written row p → ⊥

-- A file that is laid out anew, with whatever bodies, has nothing amiss.
abbrev pub LaidOutIsInPlace : Type 0
LaidOutIsInPlace = (file written : List ℕ) (bytes : ℕ → List ℕ) → section_count file ≢ 0 → IsLaidOut file bytes written → IsInPlace file written

-- Nor has a file without sections that stays as it is.
abbrev pub BareIsInPlace : Type 0
BareIsInPlace = (file : List ℕ) → IsRead file Wide → section_count file ≡ 0 → IsInPlace file file

-- New bodies for sections, and the body that a section has after them.
-- Inner functions and proofs alone need what stands here.
use Rattle.std.specs.Prelude.{◌≡◌, ◌≢◌, ◌<◌, ℕ, Option, Some, None, slice_index_or, List, length}
use Rattle.std.specs.List.{All}
use Rattle.elf_place.specs.declared.bodies.NewBody.{NewBody}

-- which of the bodies is for a section
abbrev pub IsFor : List NewBody → ℕ → Option ℕ → Type 0
IsFor bodies i (Some place) = (place < length bodies) × ((d : NewBody) → (slice_index_or bodies place d).section ≡ i)
IsFor bodies i None = All (λ new. new.section ≢ i) bodies

-- a table that says it for each section
abbrev pub IsTable : List NewBody → List (Option ℕ) → Type 0
IsTable bodies table = (i : ℕ) → i < length table → IsFor bodies i (slice_index_or table i None)

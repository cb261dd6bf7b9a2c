-- What the headers of address tables (DWARF 5 section 7.27) and of contributions to the list sections (sections 7.28 and 7.29)
-- have in common, in the 32-bit format, with addresses of 8 bytes: each begins with a length, a version and two sizes. A thing is
-- such a table or contribution. Places count from the section's first byte.
use Rattle.std.specs.Prelude.{◌≡◌, ◌≤◌, ◌<◌, ◌+◌, ℕ, List}
use Rattle.fixed_width.specs.InitialLengths.{version, unit_end, IsWhole}
use Rattle.fixed_width.specs.Numbers.{number_at}

-- the fields of a thing that stands at a place, after its length and its version
abbrev pub address_size : List ℕ → ℕ → ℕ
address_size section at = number_at 1 (at + 6) section

abbrev pub segment_selector_size : List ℕ → ℕ → ℕ
segment_selector_size section at = number_at 1 (at + 7) section

-- The header at a place, which has so many bytes, is one that is understood: it fits in the length, the version is 5, and
-- addresses have 8 bytes and no segments.
pub record IsHeader (size : ℕ) (section : List ℕ) (at : ℕ) : Type 0 where
  pub fits : at + size ≤ unit_end section at
  pub of_version : version section at ≡ 5
  pub of_address_size : address_size section at ≡ 8
  pub of_segments : segment_selector_size section at ≡ 0

-- The thing at a place is whole, and its length ends inside its header, which has so many bytes.
abbrev pub IsHeaderCut : ℕ → List ℕ → ℕ → Type 0
IsHeaderCut size section at = IsWhole section at × (unit_end section at < at + size)

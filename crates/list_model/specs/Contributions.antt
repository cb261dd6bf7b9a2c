-- Contributions to .debug_rnglists and .debug_loclists (DWARF 5 sections 7.28 and 7.29), in the 32-bit format, with addresses of
-- 8 bytes: a header, a table of offsets, and lists. Places count from the section's first byte.
use Rattle.std.specs.Prelude.{◌≡◌, ◌≤◌, ◌<◌, ◌+◌, ◌-◌, ◌*◌, ℕ, List, [], ◌∷◌, length, take, drop}
use Rattle.fixed_width.specs.Numbers.{number_at}
use Rattle.fixed_width.specs.InitialLengths.{unit_end, IsWhole}
use Rattle.list_model.specs.Headers.{IsHeader}
use Rattle.list_model.specs.declared.contribution.Contribution.{Contribution}

-- how many bytes its header has
abbrev pub part_header_size : ℕ
part_header_size = 12

-- how many bytes an offset has
abbrev pub offset_size : ℕ
offset_size = 4

-- the last field of the header: how many offsets follow
abbrev pub offset_entry_count : List ℕ → ℕ → ℕ
offset_entry_count section at = number_at 4 (at + 8) section

-- where its offsets begin, which is what DW_AT_rnglists_base and DW_AT_loclists_base name
abbrev pub offsets_at : ℕ → ℕ
offsets_at at = at + part_header_size

-- where the offset with a number would stand, counted from 0
abbrev pub offset_place : ℕ → ℕ → ℕ
offset_place at slot = offsets_at at + offset_size * slot

-- where the contribution ends
abbrev pub part_end : Contribution → ℕ
part_end part = part.at + part.len

-- the first place past its table of offsets
abbrev pub lists_at : Contribution → ℕ
lists_at part = offset_place part.at part.slots

-- A contribution stands at its place: it is whole, its header is understood, and its table of offsets fits in it.
pub record IsContribution (section : List ℕ) (part : Contribution) : Type 0 where
  pub whole : IsWhole section part.at
  pub header : IsHeader part_header_size section part.at
  pub ends : part_end part ≡ unit_end section part.at
  pub counted : part.slots ≡ offset_entry_count section part.at
  pub fits : lists_at part ≤ part_end part

-- Contributions stand in the section one after the other, from a place up to another.
abbrev pub ContributionsFollow : List ℕ → List Contribution → ℕ → ℕ → Type 0
ContributionsFollow section [] at end = at ≡ end
ContributionsFollow section (part ∷ parts) at end = (part.at ≡ at) × IsContribution section part × ContributionsFollow section parts (part_end part) end

-- The contributions are the whole section.
abbrev pub ContributionsTile : List ℕ → List Contribution → Type 0
ContributionsTile section parts = ContributionsFollow section parts 0 (length section)

-- A list can begin at a place of the contribution: that of a byte past its table of offsets.
pub record HoldsList (part : Contribution) (at : ℕ) : Type 0 where
  pub after : lists_at part ≤ at
  pub before : at < part_end part

-- the bytes from a place up to the end of the contribution
abbrev pub bytes_from : List ℕ → Contribution → ℕ → List ℕ
bytes_from section part at = take (part_end part - at) (drop at section)

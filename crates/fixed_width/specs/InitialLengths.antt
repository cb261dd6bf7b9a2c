-- Initial lengths (DWARF 5 section 7.4), in the 32-bit format. A unit is whatever begins with such a length: a unit of
-- .debug_info, a line number program, a set of address ranges, an address table, or a contribution to a list section. Places
-- count from the section's first byte.
use Rattle.std.specs.Prelude.{◌≤◌, ◌<◌, ◌+◌, ◌⊎◌, ℕ, List, length}
use Rattle.fixed_width.specs.Numbers.{number_at}
use Rattle.fixed_width.specs.declared.initial_length.LengthFault.{LengthFault}
use Rattle.fixed_width.specs.declared.initial_length.LengthFault.TheVariants.{Cut, Reserved}

-- how many bytes a length has
abbrev pub length_size : ℕ
length_size = 4

-- the length of the unit at a place
abbrev pub unit_length : List ℕ → ℕ → ℕ
unit_length section at = number_at length_size at section

-- the version, which follows it
abbrev pub version : List ℕ → ℕ → ℕ
version section at = number_at 2 (at + length_size) section

-- where the unit ends, whose length counts from after its own field
abbrev pub unit_end : List ℕ → ℕ → ℕ
unit_end section at = at + length_size + unit_length section at

-- the least of the lengths that are reserved, of which one tells the 64-bit format
abbrev pub least_reserved : ℕ
least_reserved = 4294967280

-- The unit at a place is whole in the section.
pub record IsWhole (section : List ℕ) (at : ℕ) : Type 0 where
  pub usual : unit_length section at < least_reserved
  pub inside : unit_end section at ≤ length section

-- The unit at a place isn't whole in the section: its length field leaves it, or its last byte does, or the length is a
-- reserved one.
abbrev pub LeavesSection : List ℕ → ℕ → Type 0
LeavesSection section at = (length section < at + length_size) ⊎ ((least_reserved ≤ unit_length section at) ⊎ (length section < unit_end section at))

-- The section ends inside the length of the unit at a place, or before the last byte that this counts.
abbrev pub IsCut : List ℕ → ℕ → Type 0
IsCut section at = (length section < at + length_size) ⊎ ((unit_length section at < least_reserved) × (length section < unit_end section at))

-- The length of the unit at a place is in the section, and a reserved one.
abbrev pub IsReserved : List ℕ → ℕ → Type 0
IsReserved section at = (at + length_size ≤ length section) × (least_reserved ≤ unit_length section at)

-- which of the two it is
abbrev pub FaultLength : List ℕ → ℕ → LengthFault → Type 0
FaultLength section at Cut = IsCut section at
FaultLength section at Reserved = IsReserved section at

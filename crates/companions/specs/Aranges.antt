-- Sets of address ranges in .debug_aranges (DWARF 5 section 6.1.2), in the 32-bit format. Places count from the section's
-- first byte, and `starts` are the places of the units of .debug_info, by their numbers.
use Rattle.std.specs.Prelude.{◌≡◌, ◌≤◌, ◌<◌, ◌+◌, ◌⊎◌, ℕ, List, [], ◌∷◌, length, slice_index}
use Rattle.std.specs.List.{All}
use Rattle.fixed_width.specs.InitialLengths.{unit_length, version, unit_end, IsWhole}
use Rattle.fixed_width.specs.Numbers.{number_at}
use Rattle.companions.specs.declared.set.ArangeSet.{ArangeSet}

-- the field of a set that stands at a place, after its length and its version
abbrev pub debug_info_offset : List ℕ → ℕ → ℕ
debug_info_offset section at = number_at 4 (at + 6) section

-- The starts rise, as the places of units that stand one after the other do.
abbrev pub AreRising : List ℕ → Type 0
AreRising starts = (i j : ℕ) → i < j → j < length starts → slice_index starts i < slice_index starts j

-- the unit of a number begins at a place
abbrev pub BeginsAt : List ℕ → ℕ → ℕ → Type 0
BeginsAt starts unit place = (unit < length starts) × (slice_index starts unit ≡ place)

-- A set stands at its place: it is whole, its length counts the version and debug_info_offset at least, its version is 2,
-- and debug_info_offset is where its unit begins.
pub record IsSet (section starts : List ℕ) (set : ArangeSet) : Type 0 where
  pub whole : IsWhole section set.at
  pub fits : 6 ≤ unit_length section set.at
  pub of_version : version section set.at ≡ 2
  pub of_unit : BeginsAt starts set.unit (debug_info_offset section set.at)

-- a set of some unit stands at a place
abbrev pub HasSet : List ℕ → List ℕ → ℕ → Type 0
HasSet section starts at = (unit : ℕ) × IsSet section starts (record { at = at; unit = unit })

-- The sets stand in the section one after the other, from a place up to another.
abbrev pub SetsFollow : List ℕ → List ℕ → List ArangeSet → ℕ → ℕ → Type 0
SetsFollow section starts [] at end = at ≡ end
SetsFollow section starts (set ∷ sets) at end = (set.at ≡ at) × IsSet section starts set × SetsFollow section starts sets (unit_end section set.at) end

-- The sets are the whole section.
abbrev pub SetsTile : List ℕ → List ℕ → List ArangeSet → Type 0
SetsTile section starts sets = SetsFollow section starts sets 0 (length section)

-- each set's unit has a number below a count
abbrev pub HaveUnits : ℕ → List ArangeSet → Type 0
HaveUnits count sets = All (λ (set : ArangeSet). set.unit < count) sets

-- a place is in the debug_info_offset of none of the sets
abbrev pub IsOutside : List ArangeSet → ℕ → Type 0
IsOutside sets place = All (λ (set : ArangeSet). (place < set.at + 6) ⊎ (set.at + 10 ≤ place)) sets

-- The faults of address tables and of contributions, as conditions on the bytes. Places count from the section's first byte.
use Rattle.std.specs.Prelude.{◌≡◌, ◌≤◌, ◌<◌, ◌+◌, ◌⊎◌, ℕ, List, length}
use Rattle.dw_base.specs.declared.fault.Kind.{Kind}
use Rattle.dw_base.specs.declared.fault.Kind.TheVariants.{Short, ListEntry}
use Rattle.fixed_width.specs.InitialLengths.{unit_end, IsWhole, LeavesSection}
use Rattle.list_model.specs.Headers.{IsHeader, IsHeaderCut}
use Rattle.list_model.specs.Addresses.{table_header_size, address_place, TablesFollow, IsMet}
use Rattle.list_model.specs.Contributions.{part_header_size, offset_size, offset_entry_count, offset_place, ContributionsFollow}
use Rattle.list_model.specs.declared.contribution.Contribution.{Contribution}
use Rattle.list_model.specs.declared.tables.AddrTable.{AddrTable}

-- The header at a place, which has so many bytes, has a fault. It is Short where the thing leaves the section or ends inside its
-- header, and ListEntry where the thing is whole and its header isn't one that is understood.
abbrev pub FaultHeader : ℕ → List ℕ → ℕ → Kind → ℕ → Type 0
FaultHeader size section at Short place = (place ≡ at) × (LeavesSection section at ⊎ IsHeaderCut size section at)
FaultHeader size section at ListEntry place = (place ≡ at) × IsWhole section at × (¬ IsHeader size section at)
FaultHeader size section at _ place = ⊥

-- An address of the table at a place begins inside the table, at the other place, and ends past it.
pub record IsAddressCut (section : List ℕ) (at place : ℕ) : Type 0 where
  pub index : ℕ
  pub begins : place ≡ address_place at index
  pub inside : place < unit_end section at
  pub outside : unit_end section at < place + 8

-- The table at a place has a fault: in its header, or, where that is in order, Short at an address that is cut.
abbrev pub FaultTable : List ℕ → ℕ → Kind → ℕ → Type 0
FaultTable section at Short place = FaultHeader table_header_size section at Short place ⊎ (IsWhole section at × IsHeader table_header_size section at × IsAddressCut section at place)
FaultTable section at kind place = FaultHeader table_header_size section at kind place

-- A table that is met on the way to a base has a fault.
pub record FaultBefore (section : List ℕ) (base : ℕ) (kind : Kind) (place : ℕ) : Type 0 where
  pub at : ℕ
  pub met : IsMet section base at
  pub fault : FaultTable section at kind place

-- After tables that are the section's front, another begins at a place and has a fault.
pub record FaultTables (section : List ℕ) (kind : Kind) (place : ℕ) : Type 0 where
  pub tables : List AddrTable
  pub at : ℕ
  pub front : TablesFollow section tables 0 at
  pub inside : at < length section
  pub fault : FaultTable section at kind place

-- An offset of the contribution at a place would begin inside it or at its end, at the other place, and ends past it.
pub record IsOffsetCut (section : List ℕ) (at place : ℕ) : Type 0 where
  pub slot : ℕ
  pub counted : slot < offset_entry_count section at
  pub begins : place ≡ offset_place at slot
  pub inside : place ≤ unit_end section at
  pub outside : unit_end section at < place + offset_size

-- The contribution at a place has a fault: in its header, or, where that is in order, Short at the first of its offsets that
-- doesn't end inside it.
abbrev pub FaultContribution : List ℕ → ℕ → Kind → ℕ → Type 0
FaultContribution section at Short place = FaultHeader part_header_size section at Short place ⊎ (IsWhole section at × IsHeader part_header_size section at × IsOffsetCut section at place)
FaultContribution section at kind place = FaultHeader part_header_size section at kind place

-- After contributions that are the section's front, another begins at a place and has a fault.
pub record FaultContributions (section : List ℕ) (kind : Kind) (place : ℕ) : Type 0 where
  pub parts : List Contribution
  pub at : ℕ
  pub front : ContributionsFollow section parts 0 at
  pub inside : at < length section
  pub fault : FaultContribution section at kind place

-- The address tables of .debug_addr (DWARF 5 section 7.27), in the 32-bit format, with addresses of 8 bytes. Places count from
-- the section's first byte.
use Rattle.std.specs.Prelude.{◌≡◌, ◌≢◌, ◌≤◌, ◌<◌, ◌+◌, ◌*◌, ℕ, List, [], ◌∷◌, length}
use Rattle.fixed_width.specs.Numbers.{number_at}
use Rattle.fixed_width.specs.InitialLengths.{unit_end, IsWhole}
use Rattle.list_model.specs.Headers.{IsHeader}
use Rattle.list_model.specs.declared.tables.AddrTable.{AddrTable}

-- how many bytes its header has
abbrev pub table_header_size : ℕ
table_header_size = 8

-- where its addresses begin, which is what DW_AT_addr_base names
abbrev pub addresses_at : ℕ → ℕ
addresses_at at = at + table_header_size

-- where the address with a number would stand, counted from 0
abbrev pub address_place : ℕ → ℕ → ℕ
address_place at index = addresses_at at + 8 * index

-- A table stands at its place: it is whole, its header is understood, and whole addresses fill it.
pub record IsAddrTable (section : List ℕ) (table : AddrTable) : Type 0 where
  pub whole : IsWhole section table.at
  pub header : IsHeader table_header_size section table.at
  pub filled : address_place table.at table.count ≡ unit_end section table.at

-- the address with a number
abbrev pub address_of : List ℕ → AddrTable → ℕ → ℕ
address_of section table index = number_at 8 (address_place table.at index) section

-- Tables stand in the section one after the other, from a place up to another.
abbrev pub TablesFollow : List ℕ → List AddrTable → ℕ → ℕ → Type 0
TablesFollow section [] at end = at ≡ end
TablesFollow section (table ∷ tables) at end = (table.at ≡ at) × IsAddrTable section table × TablesFollow section tables (unit_end section table.at) end

-- tables stand from the section's first byte up to a place
abbrev pub IsReached : List ℕ → ℕ → Type 0
IsReached section at = (tables : List AddrTable) × TablesFollow section tables 0 at

-- All tables of a section: they stand one after the other from its first byte up to a place at which none stands. That is the
-- section's end, or a table has a fault there.
pub record AreAllTables (section : List ℕ) (tables : List AddrTable) : Type 0 where
  pub end : ℕ
  pub follow : TablesFollow section tables 0 end
  pub over : (table : AddrTable) → IsAddrTable section table → table.at ≢ end

-- A table would begin at a place: there are bytes, and tables stand from the section's first byte up to there. The place is 8
-- bytes before a base or earlier.
pub record IsMet (section : List ℕ) (base at : ℕ) : Type 0 where
  pub inside : at < length section
  pub reached : IsReached section at
  pub before : at + 8 ≤ base

-- a base is where the addresses of this table begin
pub record HasBase (section : List ℕ) (base : ℕ) (table : AddrTable) : Type 0 where
  pub reached : IsReached section table.at
  pub stands : IsAddrTable section table
  pub begins : addresses_at table.at ≡ base

-- The maps of the address tables that the units of a file name, by which indexes of addresses are looked up (DWARF 5 section 7.27).
use Rattle.std.specs.Prelude.{◌≡◌, ◌<◌, ℕ, List, length, slice_index_or, Some, None}
use Rattle.std.specs.List.{All, Contains}
use Rattle.list_model.specs.declared.context.Context.{Context}
use Rattle.list_model.specs.declared.tables.AddrTable.{AddrTable}
use Rattle.list_least.specs.Maps.{pair_at, IsMapOf}
use Rattle.list_lookup.specs.declared.table_maps.TableMap.{TableMap}
use Rattle.list_lookup.specs.declared.table_maps.TableMaps.{TableMaps}
use Rattle.value_links.specs.Reading.{no_context}
use Rattle.value_links.specs.World.{World}

-- TABLES

-- the context of the lists of a unit, as it is held
abbrev pub context_in : World → ℕ → Context
context_in world u = slice_index_or world.contexts u no_context

-- a table by its place and by how many addresses it has
abbrev pub table_by : ℕ × ℕ → AddrTable
table_by pair = record { at = pair.0; count = pair.1 }

-- the context of one of the first units has this table
abbrev pub IsTableIn : World → ℕ → ℕ × ℕ → Type 0
IsTableIn world n pair = (u : ℕ) × (u < n) × ((context_in world u).table ≡ Some (table_by pair))

-- these are the tables of the contexts of the first units
pub record AreTablesIn (world : World) (n : ℕ) (tables : List (ℕ × ℕ)) : Type 0 where
  pub each : All (IsTableIn world n) tables
  pub all : (u : ℕ) (table : AddrTable) → u < n → (context_in world u).table ≡ Some table → Contains tables (table.at, table.count)

-- these are the tables of the contexts of all units, by rising place
pub record AreAllTables (world : World) (tables : List (ℕ × ℕ)) : Type 0 where
  pub those : AreTablesIn world (length world.units) tables
  pub rising : (i j : ℕ) → i < j → j < length tables → (pair_at tables i).0 < (pair_at tables j).0

-- MAPS

-- a map is that of a table
pub record IsTableMap (addr : List ℕ) (table : ℕ × ℕ) (named : TableMap) : Type 0 where
  pub at : named.at ≡ table.0
  pub is : IsMapOf addr (Some (table_by table)) named.map

-- the first maps, each that of the table with its number
pub record AreTableMaps (addr : List ℕ) (tables : List (ℕ × ℕ)) (n : ℕ) (maps : List TableMap) : Type 0 where
  pub count : length maps ≡ n
  pub each : (i : ℕ) (d : TableMap) → i < n → IsTableMap addr (pair_at tables i) (slice_index_or maps i d)

-- the maps of all tables, and that of none
pub record AreMapsFor (world : World) (addr : List ℕ) (maps : TableMaps) : Type 0 where
  pub tables : List (ℕ × ℕ)
  pub all : AreAllTables world tables
  pub each : AreTableMaps addr tables (length tables) maps.tables.items
  pub none : IsMapOf addr None maps.none

-- a context is that of a unit
abbrev pub IsContextIn : World → Context → Type 0
IsContextIn world context = (u : ℕ) × (u < length world.units) × (context ≡ context_in world u)

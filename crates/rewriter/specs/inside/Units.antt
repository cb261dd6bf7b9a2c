-- The units of a file written anew.
use Rattle.std.specs.Prelude.{◌≡◌, ◌<◌, ℕ, List, length, map, slice_index}
use Rattle.std.specs.List.{All, AllZip}
use Rattle.entry_arena.specs.declared.entry.Entry.{Entry}
use Rattle.entry_arena.specs.declared.entry.ChainEnd.{ChainEnd}
use Rattle.entry_arena.specs.Arena.{entry_at}
use Rattle.entry_arena.specs.Trees.{listed_to}
use Rattle.entry_read.specs.Units.{end_of, IsUnit}
use Rattle.unit_write.specs.declared.places.Places.{Places}
use Rattle.unit_write.specs.declared.write.NewNumbers.{NewNumbers}
use Rattle.unit_write.specs.Placing.{IsRenumbered}
use Rattle.entry_read.specs.Short.{StandsShort, EndsShort}
use Rattle.unit_write.specs.Moved.{IsMovedEntry, IsMovedEnd, AreMovedValues, new_values}
use Rattle.value_links.specs.Reading.{UnitRead, Linkable, declarations, unit_among, unit_at, AreUnitsIn}
use Rattle.value_links.specs.World.{World}
use Rattle.rewriter.specs.declared.tables.NewTable.{NewTable}
use Rattle.rewriter.specs.declared.new_places.NewPlaces.{NewPlaces}
use Rattle.rewriter.specs.inside.Tables.{new_table_at}
use Rattle.rewriter.specs.inside.Placed.{places_at, written_in}
use Rattle.rewriter.specs.inside.Numbers.{AreNewNumbers}

-- The new unit is the old one at its new places, up to its end: the same header but for its length and the places in it, and the
-- same entries, values and codes 0, with new numbers of declarations, references and section offsets, where some references are taken as
-- ones within the unit. No byte is too many, and none
-- follows its tree.
pub record IsUnitMoved (world : World) (r : Linkable) (tables : List NewTable) (places : List Places) (new_places : NewPlaces) (u : ℕ) (new : UnitRead) : Type 0 where
  pub numbers : NewNumbers
  pub numbered : AreNewNumbers world r tables places new_places u numbers
  pub at : new.head.at ≡ (places_at places u).start
  pub ends : end_of new.head ≡ (places_at places u).end
  pub kind : new.head.kind ≡ (unit_at r u).head.kind
  pub extra : new.head.extra ≡ (unit_at r u).head.extra
  pub type_at : new.head.type_at ≡ numbers.type_offset
  pub table_at : new.head.table ≡ (new_table_at tables (slice_index world.table_of u)).at
  pub renumbered : IsRenumbered (unit_at r u).table (new_table_at tables (slice_index world.table_of u)).columns (new_table_at tables (slice_index world.table_of u)).numbers (declarations new)
  pub entries : AllZip (IsMovedEntry (new_table_at tables (slice_index world.table_of u)).numbers) (unit_at r u).forest.entries new.forest.entries
  pub values : AreMovedValues (written_in world tables u).forest (new_values numbers) new.forest.section (listed_to new.forest 0)
  pub chain_ends : AllZip IsMovedEnd (unit_at r u).forest.ends new.forest.ends
  pub short : (id : ℕ) → id < length new.forest.entries → StandsShort new.forest.section (declarations new) new.forest.values (entry_at new.forest.entries id)
  pub ends_short : All (EndsShort new.forest.section) new.forest.ends
  pub filled : IsUnit new.forest.section new.head (declarations new) (listed_to new.forest (end_of new.head))
  pub entry_places : map (λ (e : Entry). e.at) new.forest.entries ≡ (places_at places u).entries
  pub end_places : map (λ (e : ChainEnd). e.at) new.forest.ends ≡ (places_at places u).ends

-- The sections hold the units of a file, written anew, and the tables that they name.
pub record AreUnitsWritten (world : World) (r : Linkable) (tables : List NewTable) (places : List Places) (new_places : NewPlaces) (info abbrevs : List ℕ) (units : List UnitRead) : Type 0 where
  pub read : AreUnitsIn info abbrevs units
  pub count : length units ≡ length r.units
  pub each : (u : ℕ) → u < length r.units → IsUnitMoved world r tables places new_places u (unit_among units u)

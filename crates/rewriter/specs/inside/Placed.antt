-- Where the units of a file, their entries and the codes 0 that end chains stand in the new .debug_info.
use Rattle.std.specs.Prelude.{◌≡◌, ◌<◌, ℕ, List, [], ◌∷◌, length, slice_index, slice_index_or, map}
use Rattle.spelled.specs.Spelled.{Joined}
use Rattle.leb_codec.specs.Records.{OfLayout, SpellsRecord}
use Rattle.fixed_width.specs.InitialLengths.{least_reserved}
use Rattle.expr_ops.specs.Expressions.{Operation}
use Rattle.expr_ops.specs.Slots.{Aim}
use Rattle.entry_read.specs.Slots.{operations_in}
use Rattle.entry_read.specs.Units.{HeadAndForest}
use Rattle.unit_write.specs.declared.places.Places.{Places}
use Rattle.unit_write.specs.Lens.{AreLensFor}
use Rattle.unit_write.specs.Moved.{IsWritable, IsPlacedAt}
use Rattle.unit_write.specs.declared.slots.ListSlot.{ListSlot}
use Rattle.unit_write.specs.declared.slots.Spot.{Spot}
use Rattle.unit_write.specs.Slots.{AreSpotsOf, AreListSlots, IsLaidOut, all_spots}
use Rattle.value_links.specs.World.{World, table_at, operations_at}
use Rattle.list_lookup.specs.Owned.{AreOwnedIn}
use Rattle.rewriter.specs.declared.tables.NewTable.{NewTable}
use Rattle.rewriter.specs.inside.Owned.{AreListAims}
use Rattle.rewriter.specs.inside.Tables.{new_table_at}
use Rattle.rewriter.specs.inside.Taken.{taken_unit, IsTakenFrom}

-- the places of a unit: where it begins, its entries, its codes 0, and where it ends
pub record PlacesAnew : Type 0 where
  pub start : ℕ
  pub entries : List ℕ
  pub ends : List ℕ
  pub end : ℕ

abbrev pub places_anew : Places → PlacesAnew
places_anew places = record { start = places.start; entries = places.entries.items; ends = places.ends.items; end = places.end }

-- those of the unit with a number; past the end there are none
abbrev pub places_at : List Places → ℕ → PlacesAnew
places_at places u = slice_index_or (map places_anew places) u (record { start = 0; entries = []; ends = []; end = 0 })

abbrev pub unit_in : List HeadAndForest → ℕ → HeadAndForest
unit_in units u = slice_index_or units u (record { head = record { at = 0; len = 0; kind = 0; table = 0; extra = 0; type_at = 0 }; forest = record { section = []; entries = []; values = []; ends = [] } })

-- the unit with a number as it is written by new columns of its table: references that get DW_FORM_ref_udata are taken as ones within it
abbrev pub written_in : World → List NewTable → ℕ → HeadAndForest
written_in world tables u = taken_unit (table_at world.tables (slice_index world.table_of u)).table (new_table_at tables (slice_index world.table_of u)).columns (unit_in world.units u)

-- its values stand for those that were read
abbrev pub AreTaken : World → List NewTable → Type 0
AreTaken world tables = (u : ℕ) → u < length world.units → IsTakenFrom (unit_in world.units u) (written_in world tables u)

-- the operations of each value of a unit with a number, as it is written
abbrev pub operations_for : World → HeadAndForest → ℕ → ℕ → List Operation
operations_for world unit u = operations_in unit.forest (operations_at world.operations u)

-- The unit stands at these places, by the new columns and numbers of its table and the least layout of its slots and of those of the
-- location lists that it owns. The ranks show why the layout is the least.
pub record IsPlacedBy (world : World) (tables : List NewTable) (u : ℕ) (places : PlacesAnew) : Type 0 where
  pub spots : List Spot
  pub named : AreSpotsOf (written_in world tables u) (operations_for world (written_in world tables u) u) spots
  pub owned : List ℕ
  pub owns : AreOwnedIn world u owned
  pub more : List Aim
  pub told : AreListAims world owned more
  pub lists : List ListSlot
  pub listed : AreListSlots (written_in world tables u) more lists
  pub lens : List ℕ
  pub ranks : List ℕ
  pub laid_out : IsLaidOut (written_in world tables u) (table_at world.tables (slice_index world.table_of u)).table (new_table_at tables (slice_index world.table_of u)).columns (new_table_at tables (slice_index world.table_of u)).numbers (operations_for world (written_in world tables u) u) more (all_spots spots lists) lens ranks
  pub placed : IsPlacedAt (written_in world tables u) (table_at world.tables (slice_index world.table_of u)).table (new_table_at tables (slice_index world.table_of u)).columns (new_table_at tables (slice_index world.table_of u)).numbers lens places.start places.entries places.ends places.end

-- units stand one after the other, from a place up to another
abbrev pub PlacesFollow : List Places → ℕ → ℕ → Type 0
PlacesFollow [] at end = at ≡ end
PlacesFollow (unit ∷ units) at end = (unit.start ≡ at) × PlacesFollow units unit.end end

-- the units of the world stand at these places, which fill a section of so many bytes
pub record ArePlacesOf (world : World) (tables : List NewTable) (places : List Places) (size : ℕ) : Type 0 where
  pub count : length places ≡ length world.units
  pub follow : PlacesFollow places 0 size
  pub small : size < least_reserved
  pub each : (u : ℕ) → u < length world.units → IsPlacedBy world tables u (places_at places u)

-- each unit of the world can be written by the new columns and numbers of its table, whatever sizes its slots have
abbrev pub AreWritable : World → List NewTable → Type 0
AreWritable world tables =
    (u : ℕ) (lens : List ℕ) → u < length world.units → AreLensFor (written_in world tables u).forest lens → IsWritable (written_in world tables u) (table_at world.tables (slice_index world.table_of u)).table (new_table_at tables (slice_index world.table_of u)).columns (new_table_at tables (slice_index world.table_of u)).numbers lens

-- the records of units have these ranks, one after the other
pub record AreRanksOf (world : World) (tables : List NewTable) (places : List Places) (records : List ℕ) : Type 0 where
  pub all : List (List ℕ)
  pub count : length all ≡ length world.units
  pub each : (u : ℕ) → u < length world.units → (placed : IsPlacedBy world tables u (places_at places u)) × (placed.ranks ≡ slice_index_or all u [])
  pub spelled : Joined SpellsRecord (map OfLayout all) records

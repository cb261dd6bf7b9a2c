-- What .debug_abbrev, .debug_info, .debug_rnglists and .debug_loclists hold of a file that is written anew for another, and that they hold nothing else.
use Rattle.std.specs.Prelude.{◌≡◌, ◌<◌, ℕ, List, [], ◌∷◌, length, map, slice_index}
use Rattle.std.specs.List.{All}
use Rattle.dw_base.specs.declared.fault.Reach.TheVariants.{Wide}
use Rattle.dw_base.specs.declared.fault.Span.{Span}
use Rattle.expr_ops.specs.declared.op.Op.{Op}
use Rattle.expr_ops.specs.Expressions.{IsExpression}
use Rattle.expr_ops.specs.Ops.{all_meant}
use Rattle.expr_ops.specs.Shortest.{IsWrittenShortest}
use Rattle.form_codec.specs.Values.{bytes_in}
use Rattle.leb_codec.specs.Numbering.{IsUsed, IsNumbering, used_count}
use Rattle.abbrev_tables.specs.Tables.{Declared}
use Rattle.abbrev_tables.specs.Listings.{Listing, IsTableAt, names_of}
use Rattle.abbrev_tables.specs.Written.{ShortestTable}
use Rattle.entry_arena.specs.Arena.{entry_at}
use Rattle.entry_arena.specs.Trees.{declared_at, bytes_between, listed_to}
use Rattle.entry_read.specs.Units.{end_of, declarations_of, IsUnit}
use Rattle.entry_read.specs.Expressions.{IsExprAt}
use Rattle.entry_read.specs.Short.{StandsShort, EndsShort}
use Rattle.value_links.specs.declared.units.NamedTable.{NamedTable}
use Rattle.value_links.specs.Sections.{debug_abbrev}
use Rattle.list_model.specs.declared.entry.ListKind.{ListKind}
use Rattle.value_links.specs.Reading.{UnitRead, Linkable, Reading, declarations, unit_at}
use Rattle.written_files.specs.TidyLists.{AreTidyLists, AreTidyViews}
use Rattle.value_links.specs.World.{head_and_forest, table_at, AreTablesOf}
use Rattle.written_files.specs.Uses.{AreUses}
use Rattle.written_files.specs.Classes.{OfReadings, HaveCodes}

-- TABLES

-- tables stand at these places one after the other, from a place on up to the section's end
abbrev pub TablesTile : List ℕ → List ℕ → ℕ → Type 0
TablesTile section [] at = at ≡ length section
TablesTile section (place ∷ places) at = (place ≡ at) × ((listing : Listing) × IsTableAt section at listing × TablesTile section places listing.end)

-- a new declaration is an old one with another code and other forms
pub record IsRenewed (old new : Declared) : Type 0 where
  pub tag : new.tag ≡ old.tag
  pub children : new.children ≡ old.children
  pub names : names_of new.columns ≡ names_of old.columns

-- The table at a place of the written file has the used declarations of an old table and no others, by rising code, and each number
-- in its fewest bytes. Each entry has the declaration that corresponds to its own.
pub record IsTidyTable (r s : Linkable) (section : List ℕ) (old : NamedTable) (place : ℕ) : Type 0 where
  pub uses : List ℕ
  pub used : AreUses (map head_and_forest r.units) old uses
  pub numbers : List ℕ
  pub numbered : IsNumbering uses numbers
  pub codes : HaveCodes r s old.place numbers
  pub listing : Listing
  pub inside : place < length section
  pub stands : IsTableAt section place listing
  pub each : (i : ℕ) → IsUsed uses i → (k : ℕ) × (k < length (declarations_of listing)) × ((declared_at (declarations_of listing) k).code ≡ slice_index numbers i) × IsRenewed (declared_at (declarations_of old.table) i) (declared_at (declarations_of listing) k)
  pub only : length (declarations_of listing) ≡ used_count uses
  pub rising : (k l : ℕ) → k < l → l < length (declarations_of listing) → (declared_at (declarations_of listing) k).code < (declared_at (declarations_of listing) l).code
  pub short : ShortestTable (declarations_of listing) (bytes_between section place listing.end)

-- The tables are those that units of the old file name, each once, in the order of their old places, with nothing between and behind
-- them.
pub record AreTidyTables (r s : Linkable) (section : List ℕ) : Type 0 where
  pub tables : List NamedTable
  pub table_of : List ℕ
  pub named : AreTablesOf r.units tables table_of
  pub places : List ℕ
  pub count : length places ≡ length tables
  pub tiled : TablesTile section places 0
  pub names : (u : ℕ) → u < length r.units → (unit_at s u).head.table ≡ slice_index places (slice_index table_of u)
  pub each : (i : ℕ) → i < length tables → IsTidyTable r s section (table_at tables i) (slice_index places i)

-- UNITS

-- A unit is its header and its entries, each in as few bytes as its code and its values take, with one byte for each code 0 that ends
-- a chain; and nothing follows its tree.
pub record IsTidyUnit (unit : UnitRead) : Type 0 where
  pub short : (id : ℕ) → id < length unit.forest.entries → StandsShort unit.forest.section (declarations unit) unit.forest.values (entry_at unit.forest.entries id)
  pub ends : All (EndsShort unit.forest.section) unit.forest.ends
  pub filled : IsUnit unit.forest.section unit.head (declarations unit) (listed_to unit.forest (end_of unit.head))

-- EXPRESSIONS

-- The expression that is a value of the old unit has its old operations in the written one, with new references. No number in it has
-- a byte too many, and a call is a call2 where its number is below 65,536.
pub record IsTidyExpr (r s : Linkable) (u number : ℕ) (old : Span) : Type 0 where
  pub new : Span
  pub stands : IsExprAt (unit_at s u).forest number new
  pub refs : List ℕ
  pub ops : List Op
  pub spelled : IsExpression Wide (all_meant (bytes_in (unit_at r u).forest.section old) ops) (bytes_in (unit_at r u).forest.section old)
  pub written : IsWrittenShortest refs (bytes_in (unit_at r u).forest.section old) ops (bytes_in (unit_at s u).forest.section new)

abbrev pub AreTidyExpressions : Linkable → Linkable → Type 0
AreTidyExpressions r s = (u number : ℕ) (old : Span) → u < length r.units → IsExprAt (unit_at r u).forest number old → IsTidyExpr r s u number old

-- THE FILE

-- the tables, the units, their expressions and the contributions of lists of the written file hold nothing else
pub record AreTidy (section : List ℕ) (r s : Reading) : Type 0 where
  pub tables : AreTidyTables r.links s.links section
  pub units : All IsTidyUnit s.links.units
  pub expressions : AreTidyExpressions r.links s.links
  pub lists : (kind : ListKind) → AreTidyLists kind r s
  pub views : AreTidyViews r s

abbrev pub IsTidy : List ℕ → List ℕ → Type 0
IsTidy file written = OfReadings (AreTidy (debug_abbrev written)) file written

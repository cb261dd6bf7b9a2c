-- A table that is written behind others.
use Rattle.std.specs.Prelude.{◌≡◌, ◌<◌, ℕ, List, ◌++◌, length, map}
use Rattle.dw_base.specs.declared.classes.Classes.{Classes}
use Rattle.leb_codec.specs.Numbering.{IsLeastNumbering, RiseByFallingUses, AreFirstNumbers, used_count}
use Rattle.abbrev_tables.specs.Listings.{Listing, IsTableAt}
use Rattle.abbrev_tables.specs.Written.{ShortestTable, IsWritten}
use Rattle.entry_arena.specs.Trees.{bytes_between}
use Rattle.entry_read.specs.Units.{HeadAndForest, declarations_of}
use Rattle.unit_write.specs.Placing.{IsRenumbered}
use Rattle.value_links.specs.declared.units.NamedTable.{NamedTable}
use Rattle.value_links.specs.World.{table_at}
use Rattle.rewriter.specs.declared.uses.Uses.{Uses}
use Rattle.rewriter.specs.declared.tables.NewTable.{NewTable}
use Rattle.rewriter.specs.inside.Tables.{TableAnew, AreColumnsChosen, TablesStand, table_anew, new_table_at}
use Rattle.rewriter.specs.inside.Counting.{counts_in}

-- The table stands in the section as these uses of its declarations ask.
pub record StandsAnew (section : List ℕ) (old : Listing) (uses : List ℕ) (new : TableAnew) : Type 0 where
  pub renewed : length new.columns ≡ length old.specs
  pub least : IsLeastNumbering uses new.numbers
  pub order : RiseByFallingUses uses new.numbers
  pub first : AreFirstNumbers uses new.numbers
  pub listing : Listing
  pub inside : new.at < length section
  pub stands : IsTableAt section new.at listing
  pub written : IsWritten old new.numbers new.columns (bytes_between section new.at listing.end)
  pub short : ShortestTable (declarations_of listing) (bytes_between section new.at listing.end)
  pub renumbered : IsRenumbered old new.columns new.numbers (declarations_of listing)
  pub only : length (declarations_of listing) ≡ used_count uses

-- It stands at the end of the section, behind what was there.
pub record IsAppended (old : Listing) (uses : List ℕ) (before section : List ℕ) (new : TableAnew) : Type 0 where
  pub more : List ℕ
  pub grown : section ≡ before ++ more
  pub at : new.at ≡ length before
  pub stands : StandsAnew section old uses new
  pub end : stands.listing.end ≡ length section

-- The first of the tables stand one after the other, and are all of the section. Each has its columns in their least forms of the classes.
pub record AreAppended (classes : Classes) (units : List HeadAndForest) (tables : List NamedTable) (all : List Uses) (n : ℕ) (section : List ℕ) (new : List NewTable) : Type 0 where
  pub count : length new ≡ n
  pub tiled : TablesStand section (map table_anew new) 0
  pub each : (i : ℕ) → i < n → StandsAnew section (table_at tables i).table (counts_in all i) (new_table_at new i)
  pub chosen : (i : ℕ) → i < n → AreColumnsChosen classes units (table_at tables i) (new_table_at new i).columns

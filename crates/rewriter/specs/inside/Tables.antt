-- The abbreviation tables of a file written anew: one for each place that units name.
use Rattle.std.specs.Prelude.{◌≡◌, ◌≢◌, ◌<◌, ◌+◌, ℕ, List, [], ◌∷◌, length, slice_index_or, map}
use Rattle.dw_base.specs.declared.classes.Classes.{Classes}
use Rattle.leb_codec.specs.Numbering.{IsLeastNumbering, RiseByFallingUses, AreFirstNumbers, used_count}
use Rattle.abbrev_tables.specs.declared.decl.Spec.{Spec}
use Rattle.abbrev_tables.specs.Listings.{Listing, decl_at, spec_at, IsTableAt}
use Rattle.abbrev_tables.specs.Written.{ShortestTable}
use Rattle.column_forms.specs.Columns.{IsChosen}
use Rattle.entry_arena.specs.Trees.{bytes_between}
use Rattle.entry_read.specs.Units.{HeadAndForest, declarations_of}
use Rattle.unit_write.specs.Placing.{IsRenumbered}
use Rattle.value_links.specs.declared.units.NamedTable.{NamedTable}
use Rattle.value_links.specs.World.{World, table_at}
use Rattle.written_files.specs.Uses.{AreUses, uses_of, column_meanings}
use Rattle.rewriter.specs.declared.tables.NewTable.{NewTable}

-- a table as it is written anew: its place, a new column for each of its columns, and the new code of each declaration, or 0
pub record TableAnew : Type 0 where
  pub at : ℕ
  pub columns : List Spec
  pub numbers : List ℕ

-- a table that the code holds, as it is written anew
abbrev pub table_anew : NewTable → TableAnew
table_anew table = record { at = table.at; columns = table.columns.items; numbers = table.numbers.items }

-- the table with a number; past the end there is none, and an empty one stands for it
abbrev pub anew_at : List TableAnew → ℕ → TableAnew
anew_at tables i = slice_index_or tables i (record { at = 0; columns = []; numbers = [] })

-- the table with a number, among those that the code holds
abbrev pub new_table_at : List NewTable → ℕ → TableAnew
new_table_at tables i = anew_at (map table_anew tables) i

-- The columns of a declaration that entries have are the old ones, each in its least form for the values of all those entries. Those of
-- a declaration that no entry has are never written.
pub record AreColumnsChosen (classes : Classes) (units : List HeadAndForest) (old : NamedTable) (columns : List Spec) : Type 0 where
  pub count : length columns ≡ length old.table.specs
  pub each : (number j : ℕ) → number < length old.table.decls → uses_of units old.place number ≢ 0 → j < (decl_at old.table.decls number).count → IsChosen classes (spec_at old.table.specs ((decl_at old.table.decls number).first + j)) (column_meanings units old.place number j) (spec_at columns ((decl_at old.table.decls number).first + j))
  pub unused : (number j : ℕ) → number < length old.table.decls → uses_of units old.place number ≡ 0 → j < (decl_at old.table.decls number).count → spec_at columns ((decl_at old.table.decls number).first + j) ≡ spec_at old.table.specs ((decl_at old.table.decls number).first + j)

-- The table stands in the new section: its used declarations and no others, by rising code, each column in its least form, and each
-- LEB128 number shortest. They are numbered so that the codes are those from 1 on and take the least bytes in the table and
-- in all entries, by falling uses and then by place.
pub record IsTableWritten (classes : Classes) (units : List HeadAndForest) (section : List ℕ) (old : NamedTable) (new : TableAnew) : Type 0 where
  pub uses : List ℕ
  pub used : AreUses units old uses
  pub columns : AreColumnsChosen classes units old new.columns
  pub least : IsLeastNumbering uses new.numbers
  pub order : RiseByFallingUses uses new.numbers
  pub first : AreFirstNumbers uses new.numbers
  pub listing : Listing
  pub inside : new.at < length section
  pub stands : IsTableAt section new.at listing
  pub short : ShortestTable (declarations_of listing) (bytes_between section new.at listing.end)
  pub renumbered : IsRenumbered old.table new.columns new.numbers (declarations_of listing)
  pub only : length (declarations_of listing) ≡ used_count uses

-- tables stand at these places one after the other, from a place on up to the section's end
abbrev pub TablesStand : List ℕ → List TableAnew → ℕ → Type 0
TablesStand section [] at = at ≡ length section
TablesStand section (table ∷ tables) at = (table.at ≡ at) × ((listing : Listing) × IsTableAt section at listing × TablesStand section tables listing.end)

-- the section is the tables that units name, each written once, in the order of their places
pub record AreTablesWritten (classes : Classes) (world : World) (section : List ℕ) (tables : List NewTable) : Type 0 where
  pub count : length tables ≡ length world.tables
  pub tiled : TablesStand section (map table_anew tables) 0
  pub each : (i : ℕ) → i < length world.tables → IsTableWritten classes world.units section (table_at world.tables i) (new_table_at tables i)

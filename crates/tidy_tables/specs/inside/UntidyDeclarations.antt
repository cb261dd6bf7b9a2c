-- The declarations of tables, as it is looked for the first untidy one.
use Rattle.std.specs.Prelude.{◌≡◌, ◌≢◌, ◌<◌, ◌+◌, ◌⊎◌, ℕ, List, [], length, map}
use Rattle.dw_base.specs.declared.classes.Classes.{Classes}
use Rattle.form_codec.specs.Columns.{AreSpelled, IsLeastForm}
use Rattle.abbrev_tables.specs.Listings.{decl_at, spec_at}
use Rattle.column_forms.specs.Tallies.{meanings_in}
use Rattle.entry_arena.specs.Trees.{declared_at}
use Rattle.entry_read.specs.Units.{HeadAndForest, declarations_of}
use Rattle.value_links.specs.declared.units.NamedTable.{NamedTable}
use Rattle.value_links.specs.Reading.{Linkable, unit_at}
use Rattle.written_files.specs.Uses.{uses_of, column_values, column_meanings}
use Rattle.value_links.specs.World.{head_and_forest, named_by, table_at}
use Rattle.tidy_tables.specs.declared.column_values.ColumnValues.{ColumnValues}
use Rattle.tidy_tables.specs.Untidy.{IsFallen}
use Rattle.tidy_tables.specs.inside.TableNamers.{units_with, AreOfTable}
use Rattle.tidy_tables.specs.inside.ColumnValues.{Headed, meant_with_heads, without_heads, names_in, HasWidth, HoldsValues}

-- one of the columns of a declaration of a table isn't in a least form for the values that it has in entries of all units that name the
-- table
abbrev pub HasLongColumnIn : Classes → List HeadAndForest → NamedTable → ℕ → Type 0
HasLongColumnIn classes units table k =
    (j : ℕ) × (j < length (declared_at (declarations_of table.table) k).columns) × (¬ IsLeastForm classes (spec_at (declared_at (declarations_of table.table) k).columns j).name (column_meanings units table.place k j) (spec_at (declared_at (declarations_of table.table) k).columns j).form (spec_at (declared_at (declarations_of table.table) k).columns j).constant)

-- the first so many columns of a declaration are in least forms
abbrev pub AreShortTo : Classes → List HeadAndForest → NamedTable → ℕ → ℕ → Type 0
AreShortTo classes units table k n =
    (j : ℕ) → j < n → IsLeastForm classes (spec_at (declared_at (declarations_of table.table) k).columns j).name (column_meanings units table.place k j) (spec_at (declared_at (declarations_of table.table) k).columns j).form (spec_at (declared_at (declarations_of table.table) k).columns j).constant

-- all columns of a declaration are
abbrev pub AreShort : Classes → List HeadAndForest → NamedTable → ℕ → Type 0
AreShort classes units table k = AreShortTo classes units table k (length (declared_at (declarations_of table.table) k).columns)

-- those of the first so many declarations of a table
abbrev pub AreShortBelow : Classes → List HeadAndForest → NamedTable → ℕ → Type 0
AreShortBelow classes units table n = (k : ℕ) → k < n → AreShort classes units table k

-- those of all of its declarations
abbrev pub AreAllShort : Classes → List HeadAndForest → NamedTable → Type 0
AreAllShort classes units table = AreShortBelow classes units table (length table.table.decls)

-- those of the first so many tables
abbrev pub AreShortAmong : Classes → List HeadAndForest → List NamedTable → ℕ → Type 0
AreShortAmong classes units tables n = (i : ℕ) → i < n → AreAllShort classes units (table_at tables i)

-- those of the table of each unit of a file
abbrev pub HaveShortColumns : Classes → Linkable → Type 0
HaveShortColumns classes s = (u : ℕ) → u < length s.units → AreAllShort classes (map head_and_forest s.units) (named_by (unit_at s u))

-- one of the first so many declarations of a table is untidy and stands at a place
abbrev pub IsUntidyBelow : Classes → List HeadAndForest → NamedTable → ℕ → ℕ → Type 0
IsUntidyBelow classes units table n p = (k : ℕ) × (k < n) × (p ≡ (decl_at table.table.decls k).at) × (IsFallen (declarations_of table.table) k ⊎ HasLongColumnIn classes units table k)

-- one of the declarations of a table is
abbrev pub IsUntidyIn : Classes → List HeadAndForest → NamedTable → ℕ → Type 0
IsUntidyIn classes units table p = IsUntidyBelow classes units table (length table.table.decls) p

-- one of those of the first so many tables is
abbrev pub IsUntidyAmong : Classes → List HeadAndForest → List NamedTable → ℕ → ℕ → Type 0
IsUntidyAmong classes units tables n p = (i : ℕ) × (i < n) × IsUntidyIn classes units (table_at tables i) p

-- The listed units are all that name the table, and each declaration of it has uses.
pub record AreAllNamers (units : List HeadAndForest) (table : NamedTable) (named : List ℕ) : Type 0 where
  pub section : List ℕ
  pub table_of : List ℕ
  pub number : ℕ
  pub of : AreOfTable units table section table_of number
  pub listed : named ≡ units_with table_of number (length units)
  pub used : (k : ℕ) → k < length table.table.decls → uses_of units table.place k ≢ 0

-- What is held are the values of all columns of the declarations of a table, in the entries of all units that name it. Each column has
-- some, and its form spells them.
pub record HoldsColumns (units : List HeadAndForest) (table : NamedTable) (held : ColumnValues) : Type 0 where
  pub wide : HasWidth held (length table.table.specs)
  pub section : List ℕ
  pub values : ℕ → List Headed
  pub holds : HoldsValues section (names_in table.table) values held
  pub mean : (k j : ℕ) → k < length table.table.decls → j < (decl_at table.table.decls k).count → meant_with_heads section (values ((decl_at table.table.decls k).first + j)) ≡ column_values units table.place k j
  pub some : (k j : ℕ) → k < length table.table.decls → j < (decl_at table.table.decls k).count → values ((decl_at table.table.decls k).first + j) ≢ []
  pub spelled : (k j : ℕ) → k < length table.table.decls → j < (decl_at table.table.decls k).count → AreSpelled (spec_at table.table.specs ((decl_at table.table.decls k).first + j)).name (spec_at table.table.specs ((decl_at table.table.decls k).first + j)).form (spec_at table.table.specs ((decl_at table.table.decls k).first + j)).constant (meanings_in section (without_heads (values ((decl_at table.table.decls k).first + j))))

-- How the uses of declarations are counted: all entries once, each for the table of its unit.
use Rattle.std.specs.Prelude.{◌≡◌, ◌≤◌, ◌<◌, ◌+◌, ◌^◌, ℕ, List, [], length, map, slice_index, slice_index_or, nat_eq, count_by}
use Rattle.std.specs.List.{All, sum_by}
use Rattle.entry_arena.specs.declared.entry.Entry.{Entry}
use Rattle.entry_read.specs.Units.{HeadAndForest, entry_limit}
use Rattle.value_links.specs.declared.units.NamedTable.{NamedTable}
use Rattle.value_links.specs.World.{table_at}
use Rattle.rewriter.specs.declared.uses.Uses.{Uses}
use Rattle.written_files.specs.Uses.{AreUses}
use Rattle.rewriter.specs.inside.Placed.{unit_in}

-- each entry has a declaration with one of so many numbers
abbrev pub HaveDeclarations : ℕ → List Entry → Type 0
HaveDeclarations count entries = All (λ (e : Entry). e.decl < count) entries

-- how many of the entries have the declaration with a number
abbrev pub entries_of : List Entry → ℕ → ℕ
entries_of entries number = count_by (λ (e : Entry). nat_eq e.decl number) entries

-- each count is that of before and the entries that have the declaration
pub record AddsUses (entries : List Entry) (old new : List ℕ) : Type 0 where
  pub count : length new ≡ length old
  pub each : (number : ℕ) → number < length old → slice_index new number ≡ slice_index old number + entries_of entries number

-- the counts of the table with a number; past the end there is none
abbrev pub counts_in : List Uses → ℕ → List ℕ
counts_in all i = slice_index_or (map (λ (u : Uses). u.counts.items) all) i []

-- Each unit has the number of the table that its header names, and its entries have declarations of that table. The tables
-- stand at rising places. Units have no more entries in all than a file may have.
pub record AreCountable (units : List HeadAndForest) (tables : List NamedTable) (table_of : List ℕ) : Type 0 where
  pub count : length table_of ≡ length units
  pub inside : (u : ℕ) → u < length units → slice_index table_of u < length tables
  pub place : (u : ℕ) → u < length units → (unit_in units u).head.table ≡ (table_at tables (slice_index table_of u)).place
  pub entries : (u : ℕ) → u < length units → HaveDeclarations (length (table_at tables (slice_index table_of u)).table.decls) (unit_in units u).forest.entries
  pub rising : (i j : ℕ) → i < j → j < length tables → (table_at tables i).place < (table_at tables j).place
  pub few : sum_by (λ (unit : HeadAndForest). length unit.forest.entries) units ≤ entry_limit

-- for each table a count of 0 for each of its declarations
pub record AreNone (tables : List NamedTable) (all : List Uses) : Type 0 where
  pub count : length all ≡ length tables
  pub each : (i : ℕ) → i < length tables → (length (counts_in all i) ≡ length (table_at tables i).table.decls) × ((number : ℕ) → slice_index (counts_in all i) number ≡ 0)
  pub few : (i : ℕ) → i < length tables → length (counts_in all i) < 2 ^ 32

-- for each table the uses of its declarations
pub record AreCounted (units : List HeadAndForest) (tables : List NamedTable) (all : List Uses) : Type 0 where
  pub count : length all ≡ length tables
  pub each : (i : ℕ) → i < length tables → AreUses units (table_at tables i) (counts_in all i)
  pub few : (i : ℕ) → i < length tables → length (counts_in all i) < 2 ^ 32

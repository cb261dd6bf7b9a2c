-- What a tidy file holds, said of the whole: its tables tile .debug_abbrev in the order of the old ones, each entry has the declaration that
-- corresponds to its own, and contributions are filled by the lists and view pairs that something names (DWARF 5 sections 7.5.2, 7.5.3, 7.28 and 7.29).
use Rattle.std.specs.Prelude.{◌≡◌, ◌<◌, ◌+◌, ◌↔◌, ℕ, List, [], ◌∷◌, length, filter, nat_eq, slice_index}
use Rattle.list_model.specs.declared.contribution.Contribution.{Contribution}
use Rattle.list_model.specs.declared.entry.ListKind.{ListKind}
use Rattle.list_model.specs.Contributions.{lists_at, part_end}
use Rattle.value_links.specs.declared.units.NamedTable.{NamedTable}
use Rattle.value_links.specs.Reading.{ListRead, ViewRead, Linkable, Reading, unit_at, of_kind, lists_of, part_at}
use Rattle.value_links.specs.Values.{entry_of, declaration_of}
use Rattle.value_links.specs.World.{AreTablesOf}
use Rattle.written_files.specs.Tidy.{TablesTile, IsRenewed}
use Rattle.written_files.specs.TidyLists.{views_with}
use Rattle.tidy_lists.specs.Followers.{HasLength, RunHasLength}

-- TABLES

-- The tables are those that units of the old file name, each once, in the order of their old places, with nothing between and behind them.
pub record HasTiledTables (r s : Linkable) (section : List ℕ) : Type 0 where
  pub tables : List NamedTable
  pub table_of : List ℕ
  pub named : AreTablesOf r.units tables table_of
  pub places : List ℕ
  pub count : length places ≡ length tables
  pub tiled : TablesTile section places 0
  pub names : (u : ℕ) → u < length r.units → (unit_at s u).head.table ≡ slice_index places (slice_index table_of u)

-- ENTRIES

-- The declaration of each entry is its old one with another code and other forms; and of two entries under one old table the declarations are
-- the same in one file exactly where they are in the other.
pub record HasRenewedEntries (r s : Linkable) : Type 0 where
  pub renewed : (u id : ℕ) → u < length r.units → id < length (unit_at r u).forest.entries → IsRenewed (declaration_of (unit_at r u) id) (declaration_of (unit_at s u) id)
  pub one_to_one : (u id v other : ℕ) → u < length r.units → id < length (unit_at r u).forest.entries → v < length r.units → other < length (unit_at r v).forest.entries → (unit_at r v).head.table ≡ (unit_at r u).head.table →
      ((entry_of (unit_at r v) other).decl ≡ (entry_of (unit_at r u) id).decl) ↔ ((entry_of (unit_at s v) other).decl ≡ (entry_of (unit_at s u) id).decl)

-- CONTRIBUTIONS

-- runs of view pairs stand one behind the other, from a place up to another
abbrev pub RunsFollow : Reading → List ViewRead → ℕ → ℕ → Type 0
RunsFollow s [] at end = at ≡ end
RunsFollow s (run ∷ runs) at end = (run.at ≡ at) × ((len : ℕ) × RunHasLength s run len × RunsFollow s runs (at + len) end)

-- lists stand one behind the other, each directly behind its view pairs, from a place up to the end of the contribution
abbrev pub ListsFill : ListKind → Reading → Contribution → List ListRead → ℕ → Type 0
ListsFill kind s part [] at = at ≡ part_end part
ListsFill kind s part (list ∷ lists) at = RunsFollow s (views_with kind s.views list) at list.at × ((len : ℕ) × HasLength kind s list len × ListsFill kind s part lists (list.at + len))

-- the contribution with a number holds its lists with their view pairs and nothing else
abbrev pub IsFilledByLists : ListKind → Reading → ℕ → Type 0
IsFilledByLists kind s p = ListsFill kind s (part_at (of_kind s.links kind) p) (filter (λ (list : ListRead). nat_eq list.part p) (lists_of s kind)) (lists_at (part_at (of_kind s.links kind) p))

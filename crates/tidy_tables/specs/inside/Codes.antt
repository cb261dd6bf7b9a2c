-- The codes of tables, and how many bytes they take.
use Rattle.std.specs.Prelude.{◌≡◌, ◌<◌, ℕ, List, length, slice_index}
use Rattle.leb_codec.specs.Numbering.{IsLeastNumbering}
use Rattle.abbrev_tables.specs.Listings.{Listing}
use Rattle.abbrev_tables.specs.Tables.{codes_of}
use Rattle.entry_read.specs.Units.{declarations_of, IsTable}
use Rattle.value_links.specs.declared.units.NamedTable.{NamedTable}
use Rattle.value_links.specs.World.{table_at}
use Rattle.tidy_tables.specs.declared.uses.Uses.{Uses}
use Rattle.tidy_tables.specs.inside.UseCounts.{counts_in}

-- the codes of the declarations of a table
abbrev pub codes_in : Listing → List ℕ
codes_in table = codes_of (declarations_of table)

-- a declaration has no use
abbrev pub HasNoUse : List ℕ → Type 0
HasNoUse uses = (i : ℕ) × (i < length uses) × (slice_index uses i ≡ 0)

-- each table stands somewhere
abbrev pub AreTables : List NamedTable → Type 0
AreTables tables = (i : ℕ) → i < length tables → IsTable (table_at tables i).table

-- the codes of the table with a number take more bytes than they need
abbrev pub IsWasteful : List NamedTable → List Uses → ℕ → Type 0
IsWasteful tables all i = ¬ IsLeastNumbering (counts_in all i) (codes_in (table_at tables i).table)

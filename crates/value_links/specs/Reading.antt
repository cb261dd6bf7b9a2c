-- What is read of the debug sections of a file. Places count from the first byte of the section in which they stand.
use Rattle.std.specs.Prelude.{◌≡◌, ◌<◌, ℕ, List, [], length, map, slice_index_or, None, false, pos}
use Rattle.std.specs.List.{All, sum_by}
use Rattle.line_machine.specs.declared.head.Head.{Head}
use Rattle.line_machine.specs.declared.registers.Row.{Row}
use Rattle.line_machine.specs.Heads.{program_of}
use Rattle.line_machine.specs.Rows.{GivesRows}
use Rattle.line_write.specs.Programs.{Tile as ProgramsTile}
use Rattle.abbrev_tables.specs.Tables.{Declared}
use Rattle.abbrev_tables.specs.Listings.{Listing, IsTableAt}
use Rattle.entry_arena.specs.Arena.{Arena, nothing_of}
use Rattle.entry_read.specs.declared.head.UnitHead.{UnitHead}
use Rattle.entry_read.specs.declared.unit.Counts.{Counts}
use Rattle.entry_read.specs.Heads.{no_head, Tile as UnitsTile}
use Rattle.entry_read.specs.Units.{declarations_of, IsUnitHeld, IsWithin}
use Rattle.list_model.specs.declared.context.Context.{Context}
use Rattle.list_model.specs.declared.contribution.Contribution.{Contribution}
use Rattle.list_model.specs.declared.entry.ListKind.{ListKind}
use Rattle.list_model.specs.declared.entry.ListKind.TheVariants.{Ranges, Locations}
use Rattle.list_model.specs.declared.entry.RawEntry.{RawEntry}
use Rattle.loc_lists.specs.declared.views.ViewPair.{ViewPair}
use Rattle.companions.specs.declared.set.ArangeSet.{ArangeSet}
use Rattle.value_links.specs.Sections.{debug_info, debug_abbrev, debug_line}

-- a line number program: its header and its rows
pub record ProgramRead : Type 0 where
  pub head : Head
  pub rows : List Row

-- a unit: its header, the abbreviation table that the header names, and its entries
pub record UnitRead : Type 0 where
  pub head : UnitHead
  pub table : Listing
  pub forest : Arena

-- a section of lists: its bytes and its contributions
pub record ListSection : Type 0 where
  pub section : List ℕ
  pub parts : List Contribution

-- What values refer to, up to the places of lists: line number programs and units, each in the order in which they stand, the bytes
-- of .debug_addr, of each unit the context of its lists, and the sections of range lists and of location lists.
pub record Linkable : Type 0 where
  pub programs : List ProgramRead
  pub units : List UnitRead
  pub addresses : List ℕ
  pub contexts : List Context
  pub ranges : ListSection
  pub locations : ListSection

-- a list: where it begins, the number of the contribution in which it does, and its entries
pub record ListRead : Type 0 where
  pub at : ℕ
  pub part : ℕ
  pub raws : List RawEntry

-- view pairs: the place of the location list with which they go, the place of the first, and the pairs
pub record ViewRead : Type 0 where
  pub list : ℕ
  pub at : ℕ
  pub pairs : List ViewPair

-- Then the range lists and the location lists that something names, each by rising place, the view pairs of the latter, by rising place
-- of the list and then of the first pair, and the sets of address ranges.
pub record Reading : Type 0 where
  pub links : Linkable
  pub range_lists : List ListRead
  pub location_lists : List ListRead
  pub views : List ViewRead
  pub sets : List ArangeSet

-- LINE NUMBER PROGRAMS

abbrev pub line_heads : List ProgramRead → List Head
line_heads programs = map (λ (p : ProgramRead). p.head) programs

-- the program's opcodes give its rows (DWARF 5 section 6.2)
abbrev pub HasRows : List ℕ → ProgramRead → Type 0
HasRows section p = GivesRows p.head (program_of section p.head) p.rows

-- the programs are all of the section, one after the other
pub record AreProgramsIn (section : List ℕ) (programs : List ProgramRead) : Type 0 where
  pub tiled : ProgramsTile section (line_heads programs)
  pub given : All (HasRows section) programs

-- the programs of .debug_line
abbrev pub AreProgramsOf : List ℕ → List ProgramRead → Type 0
AreProgramsOf file programs = AreProgramsIn (debug_line file) programs

-- the program with a number; past the end there is none, and an empty one stands for it
abbrev pub no_program : ProgramRead
no_program = record {
  head = record { at = 0; len = 0; min = 0; stmt = false; base = pos 0; range = 0; opcode_base = 0; tables = record { at = 0; len = 0 }; program = record { at = 0; len = 0 } };
  rows = [];
}

abbrev pub program_at : Linkable → ℕ → ProgramRead
program_at r p = slice_index_or r.programs p no_program

-- UNITS

abbrev pub unit_heads : List UnitRead → List UnitHead
unit_heads units = map (λ (u : UnitRead). u.head) units

-- where the units begin
abbrev pub unit_starts : List UnitRead → List ℕ
unit_starts units = map (λ (u : UnitRead). u.head.at) units

-- how many entries and values units have together
abbrev pub counts_of : List UnitRead → Counts
counts_of units = record {
  entries = sum_by (λ (u : UnitRead). length u.forest.entries) units;
  values = sum_by (λ (u : UnitRead). length u.forest.values) units;
}

-- they keep the limits
abbrev pub AreWithin : List UnitRead → Type 0
AreWithin units = IsWithin (counts_of []) (counts_of units).entries (counts_of units).values

-- the declarations among which the unit's entries find theirs, by their codes
abbrev pub declarations : UnitRead → List Declared
declarations u = declarations_of u.table

-- The header names a place in .debug_abbrev where the table stands (DWARF 5 section 7.5.3), and the entries are the
-- unit's, by the declarations of the table.
pub record IsUnitRead (info abbrevs : List ℕ) (u : UnitRead) : Type 0 where
  pub named : u.head.table < length abbrevs
  pub table : IsTableAt abbrevs u.head.table u.table
  pub section : u.forest.section ≡ info
  pub entries : IsUnitHeld info u.head (declarations u) u.forest

-- the units are the whole section, one after the other, by the tables of another, and keep the limits
pub record AreUnitsIn (info abbrevs : List ℕ) (units : List UnitRead) : Type 0 where
  pub tiled : UnitsTile info (unit_heads units)
  pub each : All (IsUnitRead info abbrevs) units
  pub within : AreWithin units

-- the units of .debug_info, by the tables of .debug_abbrev
abbrev pub AreUnitsOf : List ℕ → List UnitRead → Type 0
AreUnitsOf file units = AreUnitsIn (debug_info file) (debug_abbrev file) units

-- the unit with a number; past the end there is none, and an empty one stands for it
abbrev pub no_unit : UnitRead
no_unit = record {
  head = no_head;
  table = record { decls = []; specs = []; end = 0 };
  forest = nothing_of [];
}

abbrev pub unit_among : List UnitRead → ℕ → UnitRead
unit_among units u = slice_index_or units u no_unit

-- the unit with a number, and the context of its lists; past the end there is none, and an empty one stands for it
abbrev pub unit_at : Linkable → ℕ → UnitRead
unit_at r u = unit_among r.units u

abbrev pub no_context : Context
no_context = record { base = 0; table = None }

abbrev pub context_at : Linkable → ℕ → Context
context_at r u = slice_index_or r.contexts u no_context

-- LISTS

-- the section of lists of a kind
abbrev pub of_kind : Linkable → ListKind → ListSection
of_kind r Ranges = r.ranges
of_kind r Locations = r.locations

-- the lists of a kind
abbrev pub lists_of : Reading → ListKind → List ListRead
lists_of r Ranges = r.range_lists
lists_of r Locations = r.location_lists

-- the contribution with a number; past the end there is none, and an empty one stands for it
abbrev pub part_at : ListSection → ℕ → Contribution
part_at section p = slice_index_or section.parts p (record { at = 0; len = 0; slots = 0 })

-- the view pairs with a number; past the end there are none, and an empty run stands for them
abbrev pub view_at : List ViewRead → ℕ → ViewRead
view_at views k = slice_index_or views k (record { list = 0; at = 0; pairs = [] })

-- the list with a number; past the end there is none, and an empty one stands for it
abbrev pub list_at : List ListRead → ℕ → ListRead
list_at lists k = slice_index_or lists k (record { at = 0; part = 0; raws = [] })

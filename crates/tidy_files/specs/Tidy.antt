-- Where a file that is written anew for another isn't as a writer makes it in some classes, the sizes of slots, lists that aren't kept and the
-- opcodes of line number programs aside, which are shown to be least in other ways. Places are offsets in the written file.
use Rattle.std.specs.Prelude.{◌≡◌, ◌≢◌, ◌≤◌, ◌<◌, ◌+◌, ◌⊎◌, ℕ, List, length, slice_index, true, false}
use Rattle.dw_base.specs.declared.classes.Classes.{Classes}
use Rattle.entry_arena.specs.Trees.{listed_to}
use Rattle.entry_read.specs.Units.{end_of, IsUnit}
use Rattle.list_model.specs.declared.entry.ListKind.{ListKind}
use Rattle.list_model.specs.declared.entry.RawEntry.{RawEntry}
use Rattle.list_model.specs.Entries.{Entry, AreSaid}
use Rattle.tidy_places.specs.Firsts.{IsFirstIn}
use Rattle.tidy_places.specs.Misplaced.{IsMisplaced}
use Rattle.tidy_tables.specs.Rows.{IsUntidy as IsUntidyTables}
use Rattle.tidy_lists.specs.Rows.{IsMisplaced as IsMisplacedList}
use Rattle.tidy_numbers.specs.LongNumbers.{IsLongNumber}
use Rattle.tidy_places.specs.Misplaced.Row.{OfSection, OfHeaders, OfByte}
use Rattle.tidy_tables.specs.Rows.Row.{OfTable, OfLooseByte, OfMissingTable, OfDeclaration, OfEntry}
use Rattle.tidy_lists.specs.Due.Row.{OfList, OfLooseByte as OfLooseListByte}
use Rattle.value_links.specs.Reading.{Reading, UnitRead, declarations, unit_at, program_at, lists_of, list_at}
use Rattle.value_links.specs.Sections.{offset_named, debug_line, info_name, line_name, lists_name}
use Rattle.value_links.specs.Whole.{IsReading}

-- THE ROWS

-- what may be amiss, in the order in which it is looked for
pub data Row : Type 0 where
  ASection : Row
  TheHeaders : Row
  AByte : Row
  ATable : Row
  ALooseByte : Row
  AMissingTable : Row
  ADeclaration : Row
  AnEntry : Row
  AUnit : Row
  AProgram : Row
  AList : Row
  AListByte : Row
  AChangedList : Row
  ANumber : Row

abbrev pub order_of : Row → ℕ
order_of ASection = 0
order_of TheHeaders = 1
order_of AByte = 2
order_of ATable = 3
order_of ALooseByte = 4
order_of AMissingTable = 5
order_of ADeclaration = 6
order_of AnEntry = 7
order_of AUnit = 8
order_of AProgram = 9
order_of AList = 10
order_of AListByte = 11
order_of AChangedList = 12
order_of ANumber = 13

-- UNITS AND PROGRAMS

-- bytes follow the unit's tree (DWARF 5 section 7.5)
abbrev pub IsPadded : UnitRead → Type 0
IsPadded unit = ¬ IsUnit unit.forest.section unit.head (declarations unit) (listed_to unit.forest (end_of unit.head))

-- such a unit begins at a place
pub record IsPaddedUnit (written : List ℕ) (p : ℕ) : Type 0 where
  pub s : Reading
  pub read : IsReading written s
  pub u : ℕ
  pub known : u < length s.links.units
  pub padded : IsPadded (unit_at s.links u)
  pub place : p ≡ offset_named written info_name + (unit_at s.links u).head.at

-- a line number program whose opcode_base isn't 13, so that not all twelve standard opcodes can be used, begins at a place (DWARF 5
-- section 6.2.4)
pub record IsOtherProgram (written : List ℕ) (p : ℕ) : Type 0 where
  pub s : Reading
  pub read : IsReading written s
  pub i : ℕ
  pub known : i < length s.links.programs
  pub other : (program_at s.links i).head.opcode_base ≢ 13
  pub place : p ≡ offset_named written line_name + (program_at s.links i).head.at

-- a byte of a section isn't the one that stood there: the old section has one and the new one another or none, or only the new one has one
abbrev pub IsOtherByte : List ℕ → List ℕ → ℕ → Type 0
IsOtherByte old new k = ((k < length old) × (k < length new → slice_index old k ≢ slice_index new k)) ⊎ ((length old ≤ k) × (k < length new))

-- such a byte of .debug_line stands at a place
abbrev pub IsOtherLineByte : List ℕ → List ℕ → ℕ → Type 0
IsOtherLineByte file written p = (k : ℕ) × IsOtherByte (debug_line file) (debug_line written) k × (p ≡ offset_named written line_name + k)

-- What is amiss with the line number programs: where they are least, one without all standard opcodes; where they are kept, a byte of .debug_line
-- that isn't the one that stood there.
abbrev pub IsLineAmiss : Classes → List ℕ → List ℕ → ℕ → Type 0
IsLineAmiss classes file written p = ((classes.lines ≡ true) × IsOtherProgram written p) ⊎ ((classes.lines ≡ false) × IsOtherLineByte file written p)

-- LISTS THAT ARE KEPT

-- what is read of two lists says the same entries
abbrev pub SayTheSame : ListKind → List RawEntry → List RawEntry → Type 0
SayTheSame kind raws others = (entries : List Entry) × AreSaid kind raws entries × AreSaid kind others entries

-- A list of this kind, which begins at a place, has other kinds of entries, or other operands, than the one with its number in the old file.
pub record IsChangedOf (file written : List ℕ) (kind : ListKind) (p : ℕ) : Type 0 where
  pub r : Reading
  pub s : Reading
  pub read : IsReading file r
  pub again : IsReading written s
  pub k : ℕ
  pub known : k < length (lists_of r kind)
  pub inside : k < length (lists_of s kind)
  pub changed : ¬ SayTheSame kind (list_at (lists_of r kind) k).raws (list_at (lists_of s kind) k).raws
  pub place : p ≡ offset_named written (lists_name kind) + (list_at (lists_of s kind) k).at

-- so has one of either kind
abbrev pub IsChangedList : List ℕ → List ℕ → ℕ → Type 0
IsChangedList file written p = (kind : ListKind) × IsChangedOf file written kind p

-- THE FILE

-- a row holds at a place of the written file
abbrev pub IsUntidy : Classes → List ℕ → List ℕ → Row → ℕ → Type 0
IsUntidy classes file written ASection p = IsMisplaced file written OfSection p
IsUntidy classes file written TheHeaders p = IsMisplaced file written OfHeaders p
IsUntidy classes file written AByte p = IsMisplaced file written OfByte p
IsUntidy classes file written ATable p = IsUntidyTables classes file written OfTable p
IsUntidy classes file written ALooseByte p = IsUntidyTables classes file written OfLooseByte p
IsUntidy classes file written AMissingTable p = IsUntidyTables classes file written OfMissingTable p
IsUntidy classes file written ADeclaration p = IsUntidyTables classes file written OfDeclaration p
IsUntidy classes file written AnEntry p = IsUntidyTables classes file written OfEntry p
IsUntidy classes file written AUnit p = IsPaddedUnit written p
IsUntidy classes file written AProgram p = IsLineAmiss classes file written p
IsUntidy classes file written AList p = IsMisplacedList file written OfList p
IsUntidy classes file written AListByte p = IsMisplacedList file written OfLooseListByte p
IsUntidy classes file written AChangedList p = (classes.lists ≡ false) × IsChangedList file written p
IsUntidy classes file written ANumber p = IsLongNumber classes written p

-- Nothing is amiss. What `rewrite` promises under this name, in written_files, says more, and excludes each row.
abbrev pub IsTidy : Classes → List ℕ → List ℕ → Type 0
IsTidy classes file written = (row : Row) (p : ℕ) → IsUntidy classes file written row p → ⊥

-- the place that is named: the least one in the first row that holds anywhere
abbrev pub IsFirstUntidy : Classes → List ℕ → List ℕ → ℕ → Type 0
IsFirstUntidy classes file written p = IsFirstIn order_of (IsUntidy classes file written) p

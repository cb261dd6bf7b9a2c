-- What is read of the units of a generated file: the abbreviation table, and of each unit its header and its entries with their places
-- (DWARF 5 sections 7.5.1 to 7.5.3).
use Rattle.std.specs.Prelude.{◌≡◌, ◌<◌, ◌+◌, ◌*◌, ℕ, suc, pos, List, [], ◌∷◌, ◌++◌, length, take, slice_index_or, true, false}
use Rattle.form_codec.specs.declared.value.Value.{Value}
use Rattle.form_codec.specs.declared.value.Value.TheVariants as value
use Rattle.form_codec.specs.Forms.Meaning.{Address, Whole, IsSet, Text, StringPlace, LineStringPlace, SectionPlace, InUnit, Expression}
use Rattle.abbrev_tables.specs.declared.decl.Spec.{Spec}
use Rattle.abbrev_tables.specs.Tables.{Declared}
use Rattle.abbrev_tables.specs.Listings.{Listing}
use Rattle.entry_arena.specs.declared.entry.Entry.{Entry}
use Rattle.entry_arena.specs.declared.entry.ChainEnd.{ChainEnd}
use Rattle.entry_arena.specs.Arena.{entry_at}
use Rattle.entry_arena.specs.Forests.{Described}
use Rattle.entry_arena.specs.Trees.{Siblings}
use Rattle.entry_arena.specs.Trees.Siblings.{NoMore, Tree}
use Rattle.entry_read.specs.declared.head.UnitHead.{UnitHead}
use Rattle.entry_read.specs.Heads.{compile_unit}
use Rattle.value_links.specs.Reading.{UnitRead}
use Rattle.sample_maker.specs.declared.drawn.Parameter.{Parameter}
use Rattle.sample_maker.specs.Drawn.{FunctionDrawn, UnitDrawn}
use Rattle.sample_maker.specs.Places.{unit_base, unit_extent, function_offset, function_address, entry_count}
use Rattle.sample_maker.specs.inside.Bytes.{part_header_size, located_bytes, program_bytes}
use Rattle.sample_maker.specs.inside.Files.{function_locations, function_ranges, block_size, function_size, functions_at, type_place, unit_locations, unit_ranges, unit_bytes, info_bytes, lines_bytes, locations_bytes, ranges_bytes}

-- THE ABBREVIATION TABLE

-- a column whose form has no constant in the table
abbrev pub column : ℕ → ℕ → Spec
column name form = record { name = name; form = form; constant = pos 0 }

-- DW_AT_producer, DW_AT_language, DW_AT_name, DW_AT_comp_dir, DW_AT_low_pc, DW_AT_high_pc and DW_AT_stmt_list
abbrev pub root_columns : List Spec
root_columns = column 0x25 0x0e ∷ column 0x13 0x0b ∷ column 0x03 0x1f ∷ column 0x1b 0x1f ∷ column 0x11 0x01 ∷ column 0x12 0x07 ∷ column 0x10 0x17 ∷ []

-- DW_AT_external, DW_AT_name, DW_AT_decl_file, whose constant stands in the table, DW_AT_decl_line, DW_AT_type, DW_AT_low_pc,
-- DW_AT_high_pc, DW_AT_frame_base and DW_AT_sibling
abbrev pub function_columns : List Spec
function_columns =
    column 0x3f 0x19 ∷ column 0x03 0x08 ∷ record { name = 0x3a; form = 0x21; constant = pos 1 } ∷ column 0x3b 0x0b ∷ column 0x49 0x13 ∷ column 0x11 0x01 ∷ column 0x12 0x07 ∷ column 0x40 0x18 ∷ column 0x01 0x13 ∷ []

-- DW_AT_name, DW_AT_decl_line, DW_AT_type, DW_AT_location and DW_AT_GNU_locviews
abbrev pub parameter_columns : List Spec
parameter_columns = column 0x03 0x08 ∷ column 0x3b 0x0b ∷ column 0x49 0x13 ∷ column 0x02 0x17 ∷ column 0x2137 0x17 ∷ []

-- DW_AT_byte_size, DW_AT_encoding and DW_AT_name
abbrev pub base_type_columns : List Spec
base_type_columns = column 0x0b 0x0b ∷ column 0x3e 0x0b ∷ column 0x03 0x08 ∷ []

-- DW_AT_ranges
abbrev pub block_columns : List Spec
block_columns = column 0x55 0x17 ∷ []

-- the numbers of the declarations
abbrev pub root_number : ℕ
root_number = 0

abbrev pub function_number : ℕ
function_number = 1

abbrev pub parameter_number : ℕ
parameter_number = 2

abbrev pub base_type_number : ℕ
base_type_number = 3

abbrev pub block_number : ℕ
block_number = 4

-- DW_TAG_compile_unit, DW_TAG_subprogram, DW_TAG_formal_parameter, DW_TAG_base_type and DW_TAG_lexical_block
unfoldable pub declared_read : List Declared
declared_read =
    record { code = 1; tag = 0x11; children = true; columns = root_columns } ∷ record { code = 2; tag = 0x2e; children = true; columns = function_columns } ∷ record { code = 3; tag = 0x05; children = false; columns = parameter_columns } ∷ record { code = 4; tag = 0x24; children = false; columns = base_type_columns } ∷ record { code = 5; tag = 0x0b; children = false; columns = block_columns } ∷ []

-- the same as it is held
unfoldable pub table_read : Listing
table_read = record {
  decls = record { at = 0; code = 1; tag = 0x11; children = true; first = 0; count = 7 } ∷ record { at = 19; code = 2; tag = 0x2e; children = true; first = 7; count = 9 } ∷ record { at = 43; code = 3; tag = 0x05; children = false; first = 16; count = 5 } ∷ record { at = 59; code = 4; tag = 0x24; children = false; first = 21; count = 3 } ∷ record { at = 70; code = 5; tag = 0x0b; children = false; first = 24; count = 1 } ∷ [];
  specs = root_columns ++ (function_columns ++ (parameter_columns ++ (base_type_columns ++ block_columns)));
  end = 78;
}

-- PARTS OF A FOREST

-- entries that stand one after the other, their values, the codes 0 among them, and what the entries say
pub record ForestPart : Type 0 where
  pub entries : List Entry
  pub values : List Value
  pub ends : List ChainEnd
  pub says : List Described

abbrev pub no_part : ForestPart
no_part = record { entries = []; values = []; ends = []; says = [] }

-- a part, and one that stands behind it
abbrev pub followed : ForestPart → ForestPart → ForestPart
followed a b = record { entries = a.entries ++ b.entries; values = a.values ++ b.values; ends = a.ends ++ b.ends; says = a.says ++ b.says }

-- the code 0 that ends the children of the entry with a number stands at a place
abbrev pub end_part : ℕ → ℕ → ForestPart
end_part id at = record { entries = []; values = []; ends = (record { entry = id; at = at }) ∷ []; says = [] }

-- THE ENTRIES OF A UNIT. It begins at the place `base` of .debug_info, and other places count from there. The first value of an entry has
-- the number `first`; `line` is that of its DW_AT_decl_line, and the entry of its type stands at the place `type`. `l` and `r` are how
-- many bytes of location lists and of range lists stand before.

abbrev pub root_part : ℕ → ℕ → ℕ → ForestPart
root_part base u program = record {
  entries = (record { at = base + 12; len = 34; depth = 0; decl = root_number; first = 0; count = 7 }) ∷ [];
  values = value.StrOffset 0 ∷ value.Int (pos 0x1d) ∷ value.LineStrOffset 0 ∷ value.LineStrOffset 4 ∷ value.Addr (unit_base u) ∷ value.Int (pos unit_extent) ∷ value.Offset program ∷ [];
  ends = [];
  says = (record {
    depth = 0;
    tag = 0x11;
    children = true;
    attributes = (0x25, StringPlace 0) ∷ (0x13, Whole (pos 0x1d)) ∷ (0x03, LineStringPlace 0) ∷ (0x1b, LineStringPlace 4) ∷ (0x11, Address (unit_base u)) ∷ (0x12, Whole (pos unit_extent)) ∷ (0x10, SectionPlace program) ∷ [];
  }) ∷ [];
}

-- the entry of a function, whose next sibling stands at a place
abbrev pub function_part : ℕ → ℕ → ℕ → ℕ → ℕ → ℕ → ℕ → FunctionDrawn → ForestPart
function_part base u i type sibling place first f = record {
  entries = (record { at = base + place; len = 30; depth = 1; decl = function_number; first = first; count = 9 }) ∷ [];
  values = value.Flag true ∷ value.Text (record { at = base + place + 1; len = 1 }) ∷ value.Int (pos 1) ∷ value.Int (pos (suc i)) ∷ value.LocalRef type ∷ value.Addr (function_address u i) ∷ value.Int (pos f.size) ∷ value.Expr (record { at = base + place + 25; len = 1 }) ∷ value.LocalRef sibling ∷ [];
  ends = [];
  says = (record {
    depth = 1;
    tag = 0x2e;
    children = true;
    attributes = (0x3f, IsSet true) ∷ (0x03, Text (0x66 ∷ [])) ∷ (0x3a, Whole (pos 1)) ∷ (0x3b, Whole (pos (suc i))) ∷ (0x49, InUnit type) ∷ (0x11, Address (function_address u i)) ∷ (0x12, Whole (pos f.size)) ∷ (0x40, Expression (0x9c ∷ [])) ∷ (0x01, InUnit sibling) ∷ [];
  }) ∷ [];
}

abbrev pub parameter_part : ℕ → ℕ → ℕ → ℕ → ℕ → ℕ → ForestPart
parameter_part base line type place first l = record {
  entries = (record { at = base + place; len = 16; depth = 2; decl = parameter_number; first = first; count = 5 }) ∷ [];
  values = value.Text (record { at = base + place + 1; len = 1 }) ∷ value.Int (pos line) ∷ value.LocalRef type ∷ value.Offset (part_header_size + l + 4) ∷ value.Offset (part_header_size + l) ∷ [];
  ends = [];
  says = (record {
    depth = 2;
    tag = 0x05;
    children = false;
    attributes = (0x03, Text (0x78 ∷ [])) ∷ (0x3b, Whole (pos line)) ∷ (0x49, InUnit type) ∷ (0x02, SectionPlace (part_header_size + l + 4)) ∷ (0x2137, SectionPlace (part_header_size + l)) ∷ [];
  }) ∷ [];
}

-- the entries of parameters, whose function begins at an offset and has so many bytes
abbrev pub parameters_part : ℕ → ℕ → ℕ → ℕ → ℕ → ℕ → ℕ → ℕ → List Parameter → ForestPart
parameters_part base line type offset size place first l [] = no_part
parameters_part base line type offset size place first l (p ∷ ps) = followed (parameter_part base line type place first l) (parameters_part base line type offset size (place + 16) (first + 5) (l + length (located_bytes offset size p)) ps)

-- the entry of a block, where there is one
abbrev pub block_part : ℕ → ℕ → ℕ → ℕ → List ℕ → ForestPart
block_part base place first r [] = no_part
block_part base place first r (size ∷ sizes) = record {
  entries = (record { at = base + place; len = 5; depth = 2; decl = block_number; first = first; count = 1 }) ∷ [];
  values = value.Offset (part_header_size + r) ∷ [];
  ends = [];
  says = (record { depth = 2; tag = 0x0b; children = false; attributes = (0x55, SectionPlace (part_header_size + r)) ∷ [] }) ∷ [];
}

-- where the block of a function would stand, and the code 0 behind its children does, from the first byte of the function's entry
abbrev pub block_at : FunctionDrawn → ℕ
block_at f = 30 + 16 * length f.parameters

abbrev pub children_end : FunctionDrawn → ℕ
children_end f = block_at f + block_size f.ranges

-- how many values the entries of a function, its parameters and its block have
abbrev pub block_values : List ℕ → ℕ
block_values [] = 0
block_values (size ∷ sizes) = 1

abbrev pub block_first : FunctionDrawn → ℕ
block_first f = 9 + 5 * length f.parameters

abbrev pub value_count : FunctionDrawn → ℕ
value_count f = block_first f + block_values f.ranges

-- functions of the unit `u`, of which the first has the number `i`, and its entry the number `id`
abbrev pub functions_part : ℕ → ℕ → ℕ → ℕ → ℕ → ℕ → ℕ → ℕ → ℕ → List FunctionDrawn → ForestPart
functions_part base u type i id place first l r [] = no_part
functions_part base u type i id place first l r (f ∷ fs) =
    followed (function_part base u i type (place + function_size f) place first f) (followed (parameters_part base (suc i) type (function_offset i) f.size (place + 30) (first + 9) l f.parameters) (followed (block_part base (place + block_at f) (first + block_first f) r f.ranges) (followed (end_part id (base + (place + children_end f))) (functions_part base u type (suc i) (id + entry_count f) (place + function_size f) (first + value_count f) (l + length (function_locations i f)) (r + length (function_ranges u i f)) fs))))

-- the number of the value behind those of some functions, of which the first has a number
abbrev pub value_behind : ℕ → List FunctionDrawn → ℕ
value_behind first [] = first
value_behind first (f ∷ fs) = value_behind (first + value_count f) fs

abbrev pub base_type_part : ℕ → ℕ → ℕ → ForestPart
base_type_part base place first = record {
  entries = (record { at = base + place; len = 7; depth = 1; decl = base_type_number; first = first; count = 3 }) ∷ [];
  values = value.Int (pos 4) ∷ value.Int (pos 5) ∷ value.Text (record { at = base + place + 3; len = 3 }) ∷ [];
  ends = [];
  says = (record {
    depth = 1;
    tag = 0x24;
    children = false;
    attributes = (0x0b, Whole (pos 4)) ∷ (0x3e, Whole (pos 5)) ∷ (0x03, Text (0x69 ∷ 0x6e ∷ 0x74 ∷ [])) ∷ [];
  }) ∷ [];
}

-- all of a unit, whose line number program stands at a place: the root has 7 values, and the last code 0 is the root's
abbrev pub unit_part : ℕ → ℕ → ℕ → ℕ → ℕ → UnitDrawn → ForestPart
unit_part base u program l r unit =
    followed (root_part base u program) (followed (functions_part base u (type_place unit) 0 1 functions_at 7 l r unit) (followed (base_type_part base (type_place unit) (value_behind 7 unit)) (end_part 0 (base + (type_place unit + 7)))))

-- THE TREES OF DECLARATIONS

abbrev pub parameter_trees : List Parameter → Siblings → Siblings
parameter_trees [] more = more
parameter_trees (p ∷ ps) more = Tree parameter_number NoMore (parameter_trees ps more)

abbrev pub block_tree : List ℕ → Siblings
block_tree [] = NoMore
block_tree (size ∷ sizes) = Tree block_number NoMore NoMore

abbrev pub function_trees : List FunctionDrawn → Siblings → Siblings
function_trees [] more = more
function_trees (f ∷ fs) more = Tree function_number (parameter_trees f.parameters (block_tree f.ranges)) (function_trees fs more)

abbrev pub unit_tree : UnitDrawn → Siblings
unit_tree unit = Tree root_number (function_trees unit (Tree base_type_number NoMore NoMore)) NoMore

-- UNITS

-- a unit of .debug_info, which is `info`
abbrev pub head_read : ℕ → UnitDrawn → UnitHead
head_read base unit = record { at = base; len = type_place unit + 8; kind = compile_unit; table = 0; extra = 0; type_at = 0 }

abbrev pub unit_read : List ℕ → ℕ → ℕ → ℕ → ℕ → ℕ → UnitDrawn → UnitRead
unit_read info base u program l r unit = record {
  head = head_read base unit;
  table = table_read;
  forest = record { section = info; entries = (unit_part base u program l r unit).entries; values = (unit_part base u program l r unit).values; ends = (unit_part base u program l r unit).ends };
}

-- units, of which the first has the number `u` and begins at a place
abbrev pub units_read : List ℕ → ℕ → ℕ → ℕ → ℕ → ℕ → List UnitDrawn → List UnitRead
units_read info base u program l r [] = []
units_read info base u program l r (unit ∷ units) = unit_read info base u program l r unit ∷ units_read info (base + length (unit_bytes u program l r unit)) (suc u) (program + length (program_bytes u unit)) (l + length (unit_locations unit)) (r + length (unit_ranges u unit)) units

-- THE UNIT WITH A NUMBER, counted from 0: how many bytes of .debug_info, of line number programs, and of lists stand before its own

abbrev pub drawn_at : List UnitDrawn → ℕ → UnitDrawn
drawn_at units k = slice_index_or units k []

abbrev pub unit_place : List UnitDrawn → ℕ → ℕ
unit_place units k = length (info_bytes 0 0 0 0 (take k units))

abbrev pub program_place : List UnitDrawn → ℕ → ℕ
program_place units k = length (lines_bytes 0 (take k units))

abbrev pub locations_place : List UnitDrawn → ℕ → ℕ
locations_place units k = length (locations_bytes (take k units))

abbrev pub ranges_place : List UnitDrawn → ℕ → ℕ
ranges_place units k = length (ranges_bytes 0 (take k units))

abbrev pub part_numbered : List UnitDrawn → ℕ → ForestPart
part_numbered units k = unit_part (unit_place units k) k (program_place units k) (locations_place units k) (ranges_place units k) (drawn_at units k)

abbrev pub unit_numbered : List ℕ → List UnitDrawn → ℕ → UnitRead
unit_numbered info units k = unit_read info (unit_place units k) k (program_place units k) (locations_place units k) (ranges_place units k) (drawn_at units k)

-- WHERE ENTRIES STAND

-- the entry with this number stands at a place
abbrev pub EntryStands : List Entry → ℕ → ℕ → Type 0
EntryStands entries id place = (id < length entries) × ((entry_at entries id).at ≡ place)

-- The entries of functions stand one after the other, of which the first has a number and stands at a place of the unit, and behind them
-- that of the type.
abbrev pub FunctionsStand : List Entry → ℕ → ℕ → ℕ → List FunctionDrawn → Type 0
FunctionsStand entries base id place [] = EntryStands entries id (base + place)
FunctionsStand entries base id place (f ∷ fs) = EntryStands entries id (base + place) × FunctionsStand entries base (id + entry_count f) (place + function_size f) fs

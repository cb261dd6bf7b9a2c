-- The debug meaning of a generated file, in the words of readings: what its units, line number programs, lists and sets of address
-- ranges say (DWARF 5 sections 2.5, 2.6, 2.17, 3.1, 3.3 to 3.5, 5.1, 6.1.2 and 6.2).
use Rattle.std.specs.Prelude.{◌+◌, ◌*◌, ℕ, suc, List, [], ◌∷◌, ◌++◌, ℤ, pos, ◌+ℤ◌, nat_abs, true, false, None}
use Rattle.line_machine.specs.declared.registers.Row.{Row}
use Rattle.line_machine.specs.Rows.{end_row}
use Rattle.line_write.specs.Meaning.{ProgramMeaning}
use Rattle.form_codec.specs.Forms.Meaning.{Address, Whole, IsSet, Text, StringPlace, LineStringPlace}
use Rattle.entry_read.specs.Heads.{compile_unit}
use Rattle.entry_arena.specs.declared.entry.Target.TheVariants.{Entry as TheEntry}
use Rattle.list_model.specs.declared.entry.ListKind.TheVariants.{Ranges, Locations}
use Rattle.list_model.specs.Items.{Bounds}
use Rattle.list_model.specs.Items.Bounds.{between}
use Rattle.loc_lists.specs.declared.views.ViewPair.{ViewPair}
use Rattle.value_links.specs.Operations.{LinkedOperation}
use Rattle.value_links.specs.Operations.OpTarget.{NoTarget}
use Rattle.value_links.specs.Resolved.{ListMeaning, Resolved}
use Rattle.value_links.specs.Resolved.Content.{Items}
use Rattle.value_links.specs.Resolved.Resolved.{Itself, Operates, Refers, Program, AList, Pairs}
use Rattle.value_links.specs.Debug.{Debug, UnitMeaning, EntryMeaning, PartMeaning, SetMeaning}
use Rattle.sample_maker.specs.declared.drawn.Parameter.{Parameter}
use Rattle.sample_maker.specs.declared.drawn.Step.{Step}
use Rattle.sample_maker.specs.Numbered.{map_from, join_from}
use Rattle.sample_maker.specs.Drawn.{FunctionDrawn, UnitDrawn, units_drawn}
use Rattle.sample_maker.specs.Places.{unit_base, unit_extent, function_address, entry_count, type_entry}

-- LINE NUMBER PROGRAMS

-- a row of file 1 in a column, which begins a statement
abbrev pub row : ℕ → ℕ → ℤ → Row
row column address line = record {
  address = address;
  line = nat_abs line;
  file = 1;
  column = column;
  isa = 0;
  discriminator = 0;
  stmt = true;
  block = false;
  prologue = false;
  epilogue = false;
  end = false;
}

-- The rows behind one at an address and a line: each is as far from the one before it as its step says. The sequence ends 4 bytes
-- behind the last of them.
abbrev pub rows_behind : ℕ → ℕ → ℤ → List Step → List Row
rows_behind column address line [] = end_row (address + 4) ∷ []
rows_behind column address line (step ∷ steps) = row column (address + step.advance) (line +ℤ step.line) ∷ rows_behind column (address + step.advance) (line +ℤ step.line) steps

-- the line at which the function with a number begins
abbrev pub first_line : ℕ → ℤ
first_line i = pos (100 * suc i)

-- the sequence of a function
abbrev pub sequence_of : ℕ → ℕ → FunctionDrawn → List Row
sequence_of u i f = row f.column (function_address u i) (first_line i) ∷ rows_behind f.column (function_address u i) (first_line i) f.steps

-- One directory, whose format is DW_LNCT_path as DW_FORM_line_strp: its name stands at 4 of .debug_line_str. Two files, with
-- DW_LNCT_directory_index as DW_FORM_udata too: the names of both stand at 0, and both are in directory 0 (section 6.2.4).
abbrev pub directory_table : List ℕ
directory_table = 1 ∷ 1 ∷ 0x1f ∷ 1 ∷ 4 ∷ 0 ∷ 0 ∷ 0 ∷ []

abbrev pub file_table : List ℕ
file_table = 2 ∷ 1 ∷ 0x1f ∷ 2 ∷ 0x0f ∷ 2 ∷ 0 ∷ 0 ∷ 0 ∷ 0 ∷ 0 ∷ 0 ∷ 0 ∷ 0 ∷ 0 ∷ 0 ∷ []

-- the program of a unit: instructions of one byte, rows that begin statements, and a sequence for each function
abbrev pub program_meaning : ℕ → UnitDrawn → ProgramMeaning
program_meaning u unit = record {
  min = 1;
  is_stmt = 1;
  tables = directory_table ++ file_table;
  rows = join_from (sequence_of u) 0 unit;
}

-- LISTS

-- an operation without operands, which names nothing
abbrev pub plain : ℕ → LinkedOperation
plain code = record { operation = record { code = code; a = 0; s = pos 0; block = []; jump = 0; inner = 0 }; target = NoTarget }

-- DW_OP_reg0 to DW_OP_reg15
abbrev pub in_register : ℕ → List LinkedOperation
in_register register = plain (0x50 + register) ∷ []

-- DW_OP_lit0 and DW_OP_stack_value
abbrev pub is_zero : List LinkedOperation
is_zero = plain 0x30 ∷ plain 0x9f ∷ []

-- where a parameter of a function at an address is: in its register, and from its split on up to the end the value 0
abbrev pub location_meaning : ℕ → ℕ → Parameter → ListMeaning
location_meaning address size p = record {
  kind = Locations;
  content = Items (between address (address + p.split) ∷ between (address + p.split) (address + size) ∷ []);
  expressions = in_register p.register ∷ is_zero ∷ [];
}

-- ranges of some sizes, which begin 4 bytes apart from an address on
abbrev pub ranges_from : ℕ → List ℕ → List Bounds
ranges_from address [] = []
ranges_from address (size ∷ sizes) = between address (address + size) ∷ ranges_from (address + 4) sizes

abbrev pub range_meaning : ℕ → List ℕ → ListMeaning
range_meaning address sizes = record { kind = Ranges; content = Items (ranges_from address sizes); expressions = [] }

-- the view pairs of each parameter
abbrev pub view_pairs : List ViewPair
view_pairs = record { first = 0; last = 1 } ∷ record { first = 1; last = 0 } ∷ []

-- the contributions to a section of lists: one without offsets
abbrev pub one_part : List PartMeaning
one_part = record { slots = [] } ∷ []

-- ENTRIES, each with its depth, its tag, whether it can have children, and its attributes

-- DW_TAG_compile_unit: DW_AT_producer, DW_AT_language, DW_AT_name, DW_AT_comp_dir, DW_AT_low_pc, DW_AT_high_pc and DW_AT_stmt_list
abbrev pub root_entry : ℕ → EntryMeaning
root_entry u = record {
  depth = 0;
  tag = 0x11;
  children = true;
  attributes = (0x25, Itself (StringPlace 0)) ∷ (0x13, Itself (Whole (pos 0x1d))) ∷ (0x03, Itself (LineStringPlace 0)) ∷ (0x1b, Itself (LineStringPlace 4)) ∷ (0x11, Itself (Address (unit_base u))) ∷ (0x12, Itself (Whole (pos unit_extent))) ∷ (0x10, Program u) ∷ [];
}

-- a reference to the entry with a number in the unit
abbrev pub to_entry : ℕ → ℕ → Resolved
to_entry u id = Refers u (TheEntry id)

-- DW_TAG_subprogram: DW_AT_external, DW_AT_name, DW_AT_decl_file, DW_AT_decl_line, DW_AT_type, DW_AT_low_pc, DW_AT_high_pc,
-- DW_AT_frame_base, which is DW_OP_call_frame_cfa, and DW_AT_sibling. The function has a number, and the entries of its type and of its
-- next sibling are told.
abbrev pub function_entry : ℕ → ℕ → ℕ → ℕ → FunctionDrawn → EntryMeaning
function_entry u i type sibling f = record {
  depth = 1;
  tag = 0x2e;
  children = true;
  attributes = (0x3f, Itself (IsSet true)) ∷ (0x03, Itself (Text (0x66 ∷ []))) ∷ (0x3a, Itself (Whole (pos 1))) ∷ (0x3b, Itself (Whole (pos (suc i)))) ∷ (0x49, to_entry u type) ∷ (0x11, Itself (Address (function_address u i))) ∷ (0x12, Itself (Whole (pos f.size))) ∷ (0x40, Operates (plain 0x9c ∷ [])) ∷ (0x01, to_entry u sibling) ∷ [];
}

-- DW_TAG_formal_parameter: DW_AT_name, DW_AT_decl_line, DW_AT_type, DW_AT_location and DW_AT_GNU_locviews
abbrev pub parameter_entry : ℕ → ℕ → ℕ → FunctionDrawn → Parameter → EntryMeaning
parameter_entry u i type f p = record {
  depth = 2;
  tag = 0x05;
  children = false;
  attributes = (0x03, Itself (Text (0x78 ∷ []))) ∷ (0x3b, Itself (Whole (pos (suc i)))) ∷ (0x49, to_entry u type) ∷ (0x02, AList (location_meaning (function_address u i) f.size p)) ∷ (0x2137, Pairs view_pairs) ∷ [];
}

abbrev pub parameter_entries : ℕ → ℕ → ℕ → FunctionDrawn → List Parameter → List EntryMeaning
parameter_entries u i type f [] = []
parameter_entries u i type f (p ∷ ps) = parameter_entry u i type f p ∷ parameter_entries u i type f ps

-- DW_TAG_lexical_block: DW_AT_ranges
abbrev pub block_entries : ℕ → List ℕ → List EntryMeaning
block_entries address [] = []
block_entries address (size ∷ sizes) = record { depth = 2; tag = 0x0b; children = false; attributes = (0x55, AList (range_meaning address (size ∷ sizes))) ∷ [] } ∷ []

-- the entries of functions, of which the first has a number and its entry another
abbrev pub function_entries : ℕ → ℕ → ℕ → ℕ → List FunctionDrawn → List EntryMeaning
function_entries u i type id [] = []
function_entries u i type id (f ∷ fs) = function_entry u i type (id + entry_count f) f ∷ (parameter_entries u i type f f.parameters ++ (block_entries (function_address u i) f.ranges ++ function_entries u (suc i) type (id + entry_count f) fs))

-- DW_TAG_base_type: DW_AT_byte_size, DW_AT_encoding, which is DW_ATE_signed, and DW_AT_name
abbrev pub base_type_entry : EntryMeaning
base_type_entry = record {
  depth = 1;
  tag = 0x24;
  children = false;
  attributes = (0x0b, Itself (Whole (pos 4))) ∷ (0x3e, Itself (Whole (pos 5))) ∷ (0x03, Itself (Text (0x69 ∷ 0x6e ∷ 0x74 ∷ []))) ∷ [];
}

abbrev pub unit_meaning : ℕ → UnitDrawn → UnitMeaning
unit_meaning u unit = record {
  unit_type = compile_unit;
  signature = 0;
  type_entry = None;
  forest = root_entry u ∷ (function_entries u 0 (type_entry unit) 1 unit ++ base_type_entry ∷ []);
}

-- SETS OF ADDRESS RANGES: one for each unit

abbrev pub set_meaning : ℕ → UnitDrawn → SetMeaning
set_meaning u unit = record { unit = u }

-- The file with so many units that is drawn from a number means this.
abbrev pub Generated : ℕ → ℕ → Debug
Generated number units = record {
  programs = map_from program_meaning 0 (units_drawn number units);
  units = map_from unit_meaning 0 (units_drawn number units);
  ranges = one_part;
  locations = one_part;
  aranges = map_from set_meaning 0 (units_drawn number units);
}

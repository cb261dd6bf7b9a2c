-- The bytes of the parts of a generated file, each as one term. What they say is told by Generated.antt.
use Rattle.std.specs.Prelude.{◌+◌, ◌*◌, ◌/◌, ◌%◌, ◌-◌, ℕ, List, [], ◌∷◌, ◌++◌, length, map, ℤ, pos, negsuc, nat_lt, if◌then◌else◌}
use Rattle.std.specs.List.{concat}
use Rattle.form_codec.specs.declared.form.Width.TheVariants.{Two, Four, Eight}
use Rattle.form_codec.specs.Written.{low_bytes}
use Rattle.sample_maker.specs.declared.drawn.Parameter.{Parameter}
use Rattle.sample_maker.specs.declared.drawn.Step.{Step}
use Rattle.sample_maker.specs.Numbered.{join_from}
use Rattle.sample_maker.specs.Drawn.{FunctionDrawn, UnitDrawn}
use Rattle.sample_maker.specs.Places.{unit_extent, function_address}

-- NUMBERS

-- the shortest ULEB128 of a number below 2 ^ 21, as all are that are written (DWARF 5 section 7.6)
unfoldable pub uleb : ℕ → List ℕ
uleb n = if nat_lt n 128 then n ∷ [] else if nat_lt n 16384 then (128 + n % 128) ∷ n / 128 ∷ [] else (128 + n % 128) ∷ (128 + n / 128 % 128) ∷ n / 16384 ∷ []

-- the shortest SLEB128 of a number from -64 to 8191
unfoldable pub sleb : ℤ → List ℕ
sleb (pos n) = if nat_lt n 64 then n ∷ [] else (128 + n % 128) ∷ n / 128 ∷ []
sleb (negsuc n) = (127 - n) ∷ []

-- numbers of a fixed number of bytes
unfoldable pub half : ℕ → List ℕ
half n = low_bytes Two n

unfoldable pub word : ℕ → List ℕ
word n = low_bytes Four n

unfoldable pub long : ℕ → List ℕ
long n = low_bytes Eight n

-- LISTS

abbrev pub views_bytes : List ℕ
views_bytes = 0 ∷ 1 ∷ 1 ∷ 0 ∷ []

abbrev pub offset_pair_bytes : ℕ → ℕ → List ℕ → List ℕ
offset_pair_bytes from to expression = 4 ∷ (uleb from ++ (uleb to ++ (uleb (length expression) ++ expression)))

abbrev pub register_bytes : ℕ → List ℕ
register_bytes register = (0x50 + register) ∷ []

abbrev pub zero_bytes : List ℕ
zero_bytes = 0x30 ∷ 0x9f ∷ []

-- the location list of a parameter, whose function begins at an offset and has so many bytes
abbrev pub location_bytes : ℕ → ℕ → Parameter → List ℕ
location_bytes offset size p = offset_pair_bytes offset (offset + p.split) (register_bytes p.register) ++ (offset_pair_bytes (offset + p.split) (offset + size) zero_bytes ++ 0 ∷ [])

-- the view pairs before it too
unfoldable pub located_bytes : ℕ → ℕ → Parameter → List ℕ
located_bytes offset size p = views_bytes ++ location_bytes offset size p

abbrev pub range_entries : ℕ → List ℕ → List ℕ
range_entries address [] = []
range_entries address (size ∷ sizes) = 6 ∷ (long address ++ (long (address + size) ++ range_entries (address + 4) sizes))

unfoldable pub range_bytes : ℕ → List ℕ → List ℕ
range_bytes address sizes = range_entries address sizes ++ 0 ∷ []

-- the range list of a block, where there is one
abbrev pub block_list : ℕ → List ℕ → List ℕ
block_list address [] = []
block_list address (size ∷ sizes) = range_bytes address (size ∷ sizes)

-- the header of a contribution behind its length, and a contribution
abbrev pub part_header : List ℕ
part_header = 5 ∷ 0 ∷ 8 ∷ 0 ∷ 0 ∷ 0 ∷ 0 ∷ 0 ∷ []

abbrev pub part_header_size : ℕ
part_header_size = 12

unfoldable pub part_bytes : List ℕ → List ℕ
part_bytes lists = word (8 + length lists) ++ (part_header ++ lists)

-- LINE NUMBER PROGRAMS

abbrev pub line_header : List ℕ
line_header = 5 ∷ 0 ∷ 8 ∷ 0 ∷ 42 ∷ 0 ∷ 0 ∷ 0 ∷ 1 ∷ 1 ∷ 1 ∷ 0xfb ∷ 14 ∷ 13 ∷ 0 ∷ 1 ∷ 1 ∷ 1 ∷ 1 ∷ 0 ∷ 0 ∷ 0 ∷ 1 ∷ 0 ∷ 0 ∷ 1 ∷ 1 ∷ 1 ∷ 0x1f ∷ 1 ∷ 4 ∷ 0 ∷ 0 ∷ 0 ∷ 2 ∷ 1 ∷ 0x1f ∷ 2 ∷ 0x0f ∷ 2 ∷ 0 ∷ 0 ∷ 0 ∷ 0 ∷ 0 ∷ 0 ∷ 0 ∷ 0 ∷ 0 ∷ 0 ∷ []

-- advance_pc, advance_line and copy
unfoldable pub step_bytes : Step → List ℕ
step_bytes step = (2 ∷ uleb step.advance) ++ ((3 ∷ sleb step.line) ++ 1 ∷ [])

-- set_column, set_address, advance_line and copy
unfoldable pub first_row_bytes : ℕ → ℕ → FunctionDrawn → List ℕ
first_row_bytes u i f = (5 ∷ uleb f.column) ++ ((0 ∷ 9 ∷ 2 ∷ long (function_address u i)) ++ ((3 ∷ sleb (pos (100 * i + 99))) ++ 1 ∷ []))

-- advance_pc and end_sequence
abbrev pub end_bytes : List ℕ
end_bytes = (2 ∷ uleb 4) ++ 0 ∷ 1 ∷ 1 ∷ []

unfoldable pub sequence_bytes : ℕ → ℕ → FunctionDrawn → List ℕ
sequence_bytes u i f = first_row_bytes u i f ++ (concat (map step_bytes f.steps) ++ end_bytes)

abbrev pub opcodes_bytes : ℕ → UnitDrawn → List ℕ
opcodes_bytes u unit = join_from (sequence_bytes u) 0 unit

unfoldable pub program_bytes : ℕ → UnitDrawn → List ℕ
program_bytes u unit = word (50 + length (opcodes_bytes u unit)) ++ (line_header ++ opcodes_bytes u unit)

-- SETS OF ADDRESS RANGES

abbrev pub set_rest : List ℕ
set_rest = 8 ∷ 0 ∷ 0 ∷ 0 ∷ 0 ∷ 0 ∷ 0 ∷ 0 ∷ 0 ∷ 0 ∷ 0 ∷ 0 ∷ 0 ∷ 0 ∷ 0 ∷ 0 ∷ 0 ∷ 0 ∷ 0 ∷ 0 ∷ 0 ∷ 0 ∷ []

unfoldable pub set_bytes : ℕ → List ℕ
set_bytes unit = word 28 ++ (half 2 ++ (word unit ++ set_rest))

-- ENTRIES

unfoldable pub root_bytes : ℕ → ℕ → List ℕ
root_bytes low program = (1 ∷ word 0) ++ (0x1d ∷ (word 0 ++ (word 4 ++ (long low ++ (long unit_extent ++ word program)))))

unfoldable pub function_entry_bytes : ℕ → ℕ → ℕ → ℕ → ℕ → List ℕ
function_entry_bytes line type low size sibling = 2 ∷ 0x66 ∷ 0 ∷ line ∷ (word type ++ (long low ++ (long size ++ (1 ∷ 0x9c ∷ word sibling))))

unfoldable pub parameter_entry_bytes : ℕ → ℕ → ℕ → ℕ → List ℕ
parameter_entry_bytes line type list views = 3 ∷ 0x78 ∷ 0 ∷ line ∷ (word type ++ (word list ++ word views))

unfoldable pub block_entry_bytes : ℕ → List ℕ
block_entry_bytes list = 5 ∷ word list

unfoldable pub base_type_bytes : List ℕ
base_type_bytes = 4 ∷ 4 ∷ 5 ∷ 0x69 ∷ 0x6e ∷ 0x74 ∷ 0 ∷ []

-- what follows the length of a unit in its header
abbrev pub unit_head_rest : List ℕ
unit_head_rest = 5 ∷ 0 ∷ 1 ∷ 8 ∷ 0 ∷ 0 ∷ 0 ∷ 0 ∷ []

-- its length, where the entry of its type stands at a place of it, and the rest
unfoldable pub unit_head_bytes : ℕ → List ℕ
unit_head_bytes type = word (type + 4) ++ unit_head_rest

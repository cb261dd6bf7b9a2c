-- The bytes of units, of sections and of the file, by what is drawn.
use Rattle.std.specs.Prelude.{◌+◌, ◌*◌, ℕ, suc, List, [], ◌∷◌, ◌++◌, length, map}
use Rattle.std.specs.List.{concat}
use Rattle.sample_maker.specs.declared.drawn.Parameter.{Parameter}
use Rattle.sample_maker.specs.Numbered.{join_from}
use Rattle.sample_maker.specs.Drawn.{FunctionDrawn, UnitDrawn}
use Rattle.sample_maker.specs.Places.{unit_base, function_offset, function_address}
use Rattle.sample_maker.specs.inside.Bytes.{located_bytes, block_list, part_header_size, program_bytes, set_bytes, root_bytes, function_entry_bytes, parameter_entry_bytes, block_entry_bytes, base_type_bytes, unit_head_bytes}

-- THE LISTS OF FUNCTIONS

abbrev pub function_locations : ℕ → FunctionDrawn → List ℕ
function_locations i f = concat (map (located_bytes (function_offset i) f.size) f.parameters)

abbrev pub function_ranges : ℕ → ℕ → FunctionDrawn → List ℕ
function_ranges u i f = block_list (function_address u i) f.ranges

-- THE PLACES OF ENTRIES, from the first byte of their unit

abbrev pub block_size : List ℕ → ℕ
block_size [] = 0
block_size (size ∷ sizes) = 5

-- the entry of a function with its children and their end
abbrev pub function_size : FunctionDrawn → ℕ
function_size f = 30 + 16 * length f.parameters + block_size f.ranges + 1

abbrev pub functions_at : ℕ
functions_at = 46

-- the place behind functions that begin at a place
abbrev pub place_behind : ℕ → List FunctionDrawn → ℕ
place_behind place [] = place
place_behind place (f ∷ fs) = place_behind (place + function_size f) fs

abbrev pub type_place : UnitDrawn → ℕ
type_place unit = place_behind functions_at unit

-- UNITS. `l` and `r` are how many bytes of location lists and of range lists stand before.

-- the entries of parameters
abbrev pub parameter_entries_bytes : ℕ → ℕ → ℕ → ℕ → ℕ → List Parameter → List ℕ
parameter_entries_bytes line type offset size l [] = []
parameter_entries_bytes line type offset size l (p ∷ ps) = parameter_entry_bytes line type (part_header_size + l + 4) (part_header_size + l) ++ parameter_entries_bytes line type offset size (l + length (located_bytes offset size p)) ps

abbrev pub block_entry_of : ℕ → List ℕ → List ℕ
block_entry_of r [] = []
block_entry_of r (size ∷ sizes) = block_entry_bytes (part_header_size + r)

-- what follows the entry of a function
abbrev pub children_bytes : ℕ → ℕ → ℕ → ℕ → FunctionDrawn → List ℕ
children_bytes i type l r f = parameter_entries_bytes (suc i) type (function_offset i) f.size l f.parameters ++ (block_entry_of r f.ranges ++ 0 ∷ [])

-- a function with its children, whose next sibling stands at a place
unfoldable pub function_bytes_of : ℕ → ℕ → ℕ → ℕ → ℕ → ℕ → FunctionDrawn → List ℕ
function_bytes_of u i type sibling l r f = function_entry_bytes (suc i) type (function_address u i) f.size sibling ++ children_bytes i type l r f

-- functions of the unit `u`, of which the first has the number `i` and stands at a place
abbrev pub functions_bytes : ℕ → ℕ → ℕ → ℕ → ℕ → ℕ → List FunctionDrawn → List ℕ
functions_bytes u type i place l r [] = []
functions_bytes u type i place l r (f ∷ fs) = function_bytes_of u i type (place + function_size f) l r f ++ functions_bytes u type (suc i) (place + function_size f) (l + length (function_locations i f)) (r + length (function_ranges u i f)) fs

-- a unit, whose line number program stands at a place
unfoldable pub unit_bytes : ℕ → ℕ → ℕ → ℕ → UnitDrawn → List ℕ
unit_bytes u program l r unit = unit_head_bytes (type_place unit) ++ (root_bytes (unit_base u) program ++ (functions_bytes u (type_place unit) 0 functions_at l r unit ++ (base_type_bytes ++ 0 ∷ [])))

-- SECTIONS

abbrev pub unit_locations : UnitDrawn → List ℕ
unit_locations unit = join_from function_locations 0 unit

abbrev pub unit_ranges : ℕ → UnitDrawn → List ℕ
unit_ranges u unit = join_from (function_ranges u) 0 unit

-- the bytes that units add to sections which have so many bytes
abbrev pub info_bytes : ℕ → ℕ → ℕ → ℕ → List UnitDrawn → List ℕ
info_bytes u program l r [] = []
info_bytes u program l r (unit ∷ units) = unit_bytes u program l r unit ++ info_bytes (suc u) (program + length (program_bytes u unit)) (l + length (unit_locations unit)) (r + length (unit_ranges u unit)) units

abbrev pub sets_bytes : ℕ → ℕ → ℕ → ℕ → ℕ → List UnitDrawn → List ℕ
sets_bytes place u program l r [] = []
sets_bytes place u program l r (unit ∷ units) = set_bytes place ++ sets_bytes (place + length (unit_bytes u program l r unit)) (suc u) (program + length (program_bytes u unit)) (l + length (unit_locations unit)) (r + length (unit_ranges u unit)) units

-- the programs of units, of which the first has a number, and their lists
abbrev pub lines_bytes : ℕ → List UnitDrawn → List ℕ
lines_bytes u units = join_from program_bytes u units

abbrev pub locations_bytes : List UnitDrawn → List ℕ
locations_bytes units = concat (map unit_locations units)

abbrev pub ranges_bytes : ℕ → List UnitDrawn → List ℕ
ranges_bytes u units = join_from unit_ranges u units

-- The addresses of what is drawn, and the numbers of the entries of a unit.
use Rattle.std.specs.Prelude.{◌+◌, ◌*◌, ℕ, suc, List, [], ◌∷◌, length}
use Rattle.sample_maker.specs.Drawn.{FunctionDrawn, UnitDrawn}

-- where the addresses of the unit with a number begin, and how many it has
abbrev pub unit_base : ℕ → ℕ
unit_base u = 0x400000 + 0x10000 * u

abbrev pub unit_extent : ℕ
unit_extent = 0x10000

-- how far the function with a number begins behind the first address of its unit
abbrev pub function_offset : ℕ → ℕ
function_offset i = 0x1000 * i

abbrev pub function_address : ℕ → ℕ → ℕ
function_address u i = unit_base u + function_offset i

-- whether a function has a block, as a count of blocks
abbrev pub block_count : List ℕ → ℕ
block_count [] = 0
block_count (range ∷ ranges) = 1

-- the entry of a function, those of its parameters, and that of its block
abbrev pub entry_count : FunctionDrawn → ℕ
entry_count f = suc (length f.parameters + block_count f.ranges)

-- the number of the entry behind those of some functions, which begin with a number
abbrev pub entry_behind : ℕ → List FunctionDrawn → ℕ
entry_behind id [] = id
entry_behind id (f ∷ fs) = entry_behind (id + entry_count f) fs

-- the number of the entry of a unit's type, which stands behind the root and the functions
abbrev pub type_entry : UnitDrawn → ℕ
type_entry unit = entry_behind 1 unit

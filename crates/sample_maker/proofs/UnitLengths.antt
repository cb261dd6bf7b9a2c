-- How many bytes units and the sections have.
use Rattle.std.proofs.Common.{◌≡◌, ◌≤◌, ◌<◌, ◌+◌, ◌*◌, ◌^◌, ℕ, suc, List, [], ◌∷◌, ◌++◌, length, ap, refl, arith}
use Rattle.std.specs.List.{All}
use Rattle.std.specs.Prelude.{slice_index_or}
use Rattle.std.proofs.lemmas.List.{length-append}
use Rattle.std.proofs.lemmas.List.Elements.{All-head, All-tail}
use Rattle.sample_maker.specs.declared.drawn.Parameter.{Parameter}
use Rattle.sample_maker.specs.declared.units.Sections.{Sections}
use Rattle.sample_maker.specs.Drawn.{FunctionDrawn, UnitDrawn}
use Rattle.sample_maker.specs.Places.{unit_base, function_offset, function_address}
use Rattle.sample_maker.specs.inside.Bytes.{word, long, half, part_header_size, located_bytes, program_bytes, set_bytes, root_bytes, function_entry_bytes, parameter_entry_bytes, block_entry_bytes, base_type_bytes, unit_head_bytes}
use Rattle.sample_maker.specs.inside.Files.{block_size, function_size, functions_at, place_behind, type_place, parameter_entries_bytes, block_entry_of, function_bytes_of, functions_bytes, function_locations, function_ranges, unit_bytes, unit_locations, unit_ranges, info_bytes, sets_bytes, lines_bytes, locations_bytes, ranges_bytes}
use Rattle.sample_maker.specs.inside.Images.{rows_for, sizes_of}
use Rattle.sample_maker.specs.inside.Sections.{AreSections}
use Rattle.sample_maker.specs.inside.Small.{IsFunctionSmall, IsUnitSmall}
use Rattle.sample_maker.proofs.Lengths.{join_length, unit_locations_length, unit_ranges_length, program_length}
use Rattle.sample_maker.proofs.SmallUnits.{function_size_small}

-- ENTRIES

pub unit_head_length : (type : ℕ) → length (unit_head_bytes type) ≡ 12
unfolding unit_head_bytes word
unit_head_length type = refl

pub root_length : (low program : ℕ) → length (root_bytes low program) ≡ 34
unfolding root_bytes word long
root_length low program = refl

pub function_entry_length : (line type low size sibling : ℕ) → length (function_entry_bytes line type low size sibling) ≡ 30
unfolding function_entry_bytes word long
function_entry_length line type low size sibling = refl

pub parameter_entry_length : (line type list views : ℕ) → length (parameter_entry_bytes line type list views) ≡ 16
unfolding parameter_entry_bytes word
parameter_entry_length line type list views = refl

pub block_entry_length : (list : ℕ) → length (block_entry_bytes list) ≡ 5
unfolding block_entry_bytes word
block_entry_length list = refl

pub base_type_length : length base_type_bytes ≡ 7
unfolding base_type_bytes
base_type_length = refl

-- FUNCTIONS

pub parameters_length : (line type offset size l : ℕ) (ps : List Parameter) → length (parameter_entries_bytes line type offset size l ps) ≡ 16 * length ps
parameters_length line type offset size l [] = refl
parameters_length line type offset size l (p ∷ ps) =
    omega (arith, length-append (parameter_entry_bytes line type (part_header_size + l + 4) (part_header_size + l)) (parameter_entries_bytes line type offset size (l + length (located_bytes offset size p)) ps), parameter_entry_length line type (part_header_size + l + 4) (part_header_size + l), parameters_length line type offset size (l + length (located_bytes offset size p)) ps)

pub block_of_length : (r : ℕ) (sizes : List ℕ) → length (block_entry_of r sizes) ≡ block_size sizes
block_of_length r [] = refl
block_of_length r (size ∷ sizes) = block_entry_length (part_header_size + r)

pub function_length : (u i type sibling l r : ℕ) (f : FunctionDrawn) → length (function_bytes_of u i type sibling l r f) ≡ function_size f
unfolding function_bytes_of
function_length u i type sibling l r f =
    let entry = function_entry_bytes (suc i) type (function_address u i) f.size sibling in
    let parameters = parameter_entries_bytes (suc i) type (function_offset i) f.size l f.parameters in
    let block = block_entry_of r f.ranges in
    omega (arith, length-append entry (parameters ++ (block ++ 0 ∷ [])), length-append parameters (block ++ 0 ∷ []), length-append block (0 ∷ []), function_entry_length (suc i) type (function_address u i) f.size sibling, parameters_length (suc i) type (function_offset i) f.size l f.parameters, block_of_length r f.ranges)

pub functions_length : (u type i place l r : ℕ) (fs : List FunctionDrawn) → place + length (functions_bytes u type i place l r fs) ≡ place_behind place fs
functions_length u type i place l r [] = omega arith
functions_length u type i place l r (f ∷ fs) =
    let next : ℕ = place + function_size f in
    let one = function_bytes_of u i type next l r f in
    let rest = functions_bytes u type (suc i) next (l + length (function_locations i f)) (r + length (function_ranges u i f)) fs in
    omega (arith, length-append one rest, function_length u i type next l r f, functions_length u type (suc i) next (l + length (function_locations i f)) (r + length (function_ranges u i f)) fs)

-- UNITS

-- the entry of the type and the end of the root's children stand behind the functions
pub unit_length : (u program l r : ℕ) (unit : UnitDrawn) → length (unit_bytes u program l r unit) ≡ type_place unit + 8
unfolding unit_bytes
unit_length u program l r unit =
    let functions = functions_bytes u (type_place unit) 0 functions_at l r unit in
    omega (arith, length-append (unit_head_bytes (type_place unit)) (root_bytes (unit_base u) program ++ (functions ++ (base_type_bytes ++ 0 ∷ []))), length-append (root_bytes (unit_base u) program) (functions ++ (base_type_bytes ++ 0 ∷ [])), length-append functions (base_type_bytes ++ 0 ∷ []), length-append base_type_bytes (0 ∷ []), unit_head_length (type_place unit), root_length (unit_base u) program, functions_length u (type_place unit) 0 functions_at l r unit, base_type_length)

pub place_small : (place : ℕ) (fs : List FunctionDrawn) → All IsFunctionSmall fs → place_behind place fs ≤ place + 100 * length fs
place_small place [] small = omega arith
place_small place (f ∷ fs) small =
    omega (arith, function_size_small f (All-head IsFunctionSmall f fs small), place_small (place + function_size f) fs (All-tail IsFunctionSmall f fs small))

pub unit_small : (u program l r : ℕ) (unit : UnitDrawn) → IsUnitSmall unit → length (unit_bytes u program l r unit) ≤ 900
unit_small u program l r unit small =
    omega (arith, unit_length u program l r unit, place_small functions_at unit small.functions, small.few)

-- SECTIONS

pub set_length : (unit : ℕ) → length (set_bytes unit) ≡ 32
unfolding set_bytes word half
set_length unit = refl

pub sets_length : (place u program l r : ℕ) (units : List UnitDrawn) → length (sets_bytes place u program l r units) ≡ 32 * length units
sets_length place u program l r [] = refl
sets_length place u program l r (unit ∷ units) =
    let place' : ℕ = place + length (unit_bytes u program l r unit) in
    let program' : ℕ = program + length (program_bytes u unit) in
    let l' : ℕ = l + length (unit_locations unit) in
    let r' : ℕ = r + length (unit_ranges u unit) in
    omega (arith, length-append (set_bytes place) (sets_bytes place' (suc u) program' l' r' units), set_length place, sets_length place' (suc u) program' l' r' units)

pub info_length : (u program l r : ℕ) (units : List UnitDrawn) → All IsUnitSmall units → length (info_bytes u program l r units) ≤ 900 * length units
info_length u program l r [] small = omega arith
info_length u program l r (unit ∷ units) small =
    let program' : ℕ = program + length (program_bytes u unit) in
    let l' : ℕ = l + length (unit_locations unit) in
    let r' : ℕ = r + length (unit_ranges u unit) in
    omega (arith, length-append (unit_bytes u program l r unit) (info_bytes (suc u) program' l' r' units), unit_small u program l r unit (All-head IsUnitSmall unit units small), info_length (suc u) program' l' r' units (All-tail IsUnitSmall unit units small))

pub lines_length : (u : ℕ) (units : List UnitDrawn) → All IsUnitSmall units → length (lines_bytes u units) ≤ 3500 * length units
lines_length u units small = join_length program_bytes 3500 u units (λ n k d inside. program_length n (slice_index_or units k d) (small k d inside))

pub ranges_length : (u : ℕ) (units : List UnitDrawn) → All IsUnitSmall units → length (ranges_bytes u units) ≤ 500 * length units
ranges_length u units small = join_length unit_ranges 500 u units (λ n k d inside. unit_ranges_length n (slice_index_or units k d) (small k d inside))

pub locations_length : (units : List UnitDrawn) → All IsUnitSmall units → length (locations_bytes units) ≤ 800 * length units
locations_length [] small = omega arith
locations_length (unit ∷ units) small =
    omega (arith, length-append (unit_locations unit) (locations_bytes units), unit_locations_length unit (All-head IsUnitSmall unit units small), locations_length units (All-tail IsUnitSmall unit units small))

-- all sections together, in a file of no more units than are drawn
pub sections_small : (units : List UnitDrawn) → All IsUnitSmall units → length units ≤ 4096 → sizes_of (rows_for (info_bytes 0 0 0 0 units) (lines_bytes 0 units) (ranges_bytes 0 units) (locations_bytes units) (sets_bytes 0 0 0 0 0 units)) ≤ 2 ^ 27
sections_small units small few =
    omega (arith, few, info_length 0 0 0 0 units small, lines_length 0 units small, ranges_length 0 units small, locations_length units small, sets_length 0 0 0 0 0 units)

-- so the file of its sections can be written
pub sections_fit : (units : List UnitDrawn) (s : Sections) → All IsUnitSmall units → length units ≤ 4096 → AreSections units s → sizes_of (rows_for s.info.items s.lines.items s.ranges.items s.locations.items s.aranges.items) < 2 ^ 60
sections_fit units s small few are =
    let size : List ℕ → ℕ = λ bytes. length bytes in
    omega (arith, sections_small units small few, ap size are.info, ap size are.lines, ap size are.ranges, ap size are.locations, ap size are.aranges)

-- What is read of the lists of what is drawn (DWARF 5 sections 2.6.2, 2.17.3, 7.28 and 7.29): of each section of lists its one
-- contribution, of each block its range list, and of each parameter its location list and its view pairs.
use Rattle.std.specs.Prelude.{◌≡◌, ◌≤◌, ◌<◌, ◌+◌, ℕ, suc, List, [], ◌∷◌, ◌++◌, length, map, take, slice_index_or, None}
use Rattle.std.specs.List.{All, concat}
use Rattle.list_model.specs.declared.context.Context.{Context}
use Rattle.list_model.specs.declared.contribution.Contribution.{Contribution}
use Rattle.list_model.specs.declared.entry.ListKind.TheVariants.{Ranges, Locations}
use Rattle.list_model.specs.declared.entry.RawEntry.{RawEntry}
use Rattle.list_model.specs.Contributions.{HoldsList}
use Rattle.list_model.specs.Entries.{Entry, AreSaid, no_expr}
use Rattle.list_model.specs.Items.{Bounds, Give, Fits}
use Rattle.list_model.specs.Items.Bounds.{between}
use Rattle.loc_lists.specs.Locations.{entries_of}
use Rattle.loc_lists.specs.Views.{IsRunAt}
use Rattle.value_links.specs.Reading.{ListSection, ListRead, ViewRead}
use Rattle.value_links.specs.Lists.{IsListOf, IsLong, pair_count, expressions_in}
use Rattle.sample_maker.specs.declared.drawn.Parameter.{Parameter}
use Rattle.sample_maker.specs.Numbered.{join_from}
use Rattle.sample_maker.specs.Drawn.{FunctionDrawn, UnitDrawn}
use Rattle.sample_maker.specs.Places.{unit_base, function_offset, function_address}
use Rattle.sample_maker.specs.Generated.{ranges_from, view_pairs}
use Rattle.sample_maker.specs.inside.Bytes.{uleb, offset_pair_bytes, register_bytes, zero_bytes, located_bytes, part_header_size, part_bytes}
use Rattle.sample_maker.specs.inside.Files.{function_locations, function_ranges, unit_locations, unit_ranges, locations_bytes, ranges_bytes}
use Rattle.sample_maker.specs.inside.Listed.{located_entries, ranged_entries}

-- CONTRIBUTIONS

-- the one contribution, which has no offsets, to a section with these lists
abbrev pub part_read : List ℕ → Contribution
part_read lists = record { at = 0; len = part_header_size + length lists; slots = 0 }

abbrev pub section_read : List ℕ → ListSection
section_read lists = record { section = part_bytes lists; parts = part_read lists ∷ [] }

-- The context of the unit with a number: its addresses begin at its base, and it has no address table.
abbrev pub context_read : ℕ → Context
context_read u = record { base = unit_base u; table = None }

-- THINGS ONE AFTER THE OTHER

-- What is placed of each thing, by its number and the place at which the bytes that are said of it begin. The first has a number and a
-- place.
abbrev pub placed_from : {X T : Type 0} → (ℕ → X → List ℕ) → (ℕ → ℕ → X → List T) → ℕ → ℕ → List X → List T
placed_from say place i n [] = []
placed_from say place i n (x ∷ xs) = place i n x ++ placed_from say place (suc i) (n + length (say i x)) xs

-- RANGE LISTS

-- how many bytes a start_end has: its code and two addresses
abbrev pub range_size : ℕ
range_size = 17

-- a start_end at a place
abbrev pub range_raw : ℕ → ℕ → ℕ → RawEntry
range_raw at address size = record { at = at; code = 6; a = address; b = address + size; expr = no_expr }

-- one for each size, from a place on, where the ranges begin 4 bytes apart
abbrev pub range_raws : ℕ → ℕ → List ℕ → List RawEntry
range_raws at address [] = []
range_raws at address (size ∷ sizes) = range_raw at address size ∷ range_raws (at + range_size) (address + 4) sizes

-- A block as it is placed: the number of its unit and that of its function in the unit, the sizes of its ranges, and the place of its
-- range list.
pub record BlockPlaced : Type 0 where
  pub unit : ℕ
  pub number : ℕ
  pub sizes : List ℕ
  pub at : ℕ

abbrev pub block_address : BlockPlaced → ℕ
block_address b = function_address b.unit b.number

abbrev pub range_list_read : BlockPlaced → ListRead
range_list_read b = record { at = b.at; part = 0; raws = range_raws b.at (block_address b) b.sizes }

-- The block of the function with the number `i` in the unit `u`, where it has one. `r` is how many bytes of range lists stand before, here
-- and in what follows.
abbrev pub block_placed : ℕ → ℕ → ℕ → List ℕ → List BlockPlaced
block_placed u i r [] = []
block_placed u i r (size ∷ sizes) = record { unit = u; number = i; sizes = size ∷ sizes; at = part_header_size + r } ∷ []

-- those of functions, of which the first has the number `i`
abbrev pub function_blocks : ℕ → ℕ → ℕ → List FunctionDrawn → List BlockPlaced
function_blocks u i r fs = placed_from (function_ranges u) (λ (n : ℕ) (before : ℕ) (f : FunctionDrawn). block_placed u n before f.ranges) i r fs

-- those of units, of which the first has the number `u`
abbrev pub unit_blocks : ℕ → ℕ → List UnitDrawn → List BlockPlaced
unit_blocks u r units = placed_from unit_ranges (λ (n : ℕ) (before : ℕ) (unit : UnitDrawn). function_blocks n 0 before unit) u r units

-- all range lists
abbrev pub range_lists_read : List UnitDrawn → List ListRead
range_lists_read units = map range_list_read (unit_blocks 0 0 units)

-- LOCATION LISTS

-- how far behind its first byte the expression of an offset_pair begins
abbrev pub expression_offset : ℕ → ℕ → List ℕ → ℕ
expression_offset from to expression = suc (length (uleb from) + (length (uleb to) + length (uleb (length expression))))

-- an offset_pair at a place
abbrev pub pair_raw : ℕ → ℕ → ℕ → List ℕ → RawEntry
pair_raw at from to expression = record { at = at; code = 4; a = from; b = to; expr = record { at = at + expression_offset from to expression; len = length expression } }

-- The two of a parameter's list at a place, whose function begins at an offset and has so many bytes: it is in its register, and from its
-- split on it has the value 0.
abbrev pub location_raws : ℕ → ℕ → ℕ → Parameter → List RawEntry
location_raws at offset size p =
    pair_raw at offset (offset + p.split) (register_bytes p.register)
    ∷ pair_raw (at + length (offset_pair_bytes offset (offset + p.split) (register_bytes p.register))) (offset + p.split) (offset + size) zero_bytes
    ∷ []

-- A parameter as it is placed: the number of its unit and that of its function in the unit, the function's size, the parameter, and the
-- place of its view pairs. Its location list stands behind these, which are 4 bytes.
pub record ParameterPlaced : Type 0 where
  pub unit : ℕ
  pub number : ℕ
  pub size : ℕ
  pub parameter : Parameter
  pub at : ℕ

abbrev pub located_at : ParameterPlaced → ℕ
located_at p = p.at + 4

abbrev pub location_list_read : ParameterPlaced → ListRead
location_list_read p = record { at = located_at p; part = 0; raws = location_raws (located_at p) (function_offset p.number) p.size p.parameter }

abbrev pub view_read : ParameterPlaced → ViewRead
view_read p = record { list = located_at p; at = p.at; pairs = view_pairs }

-- The parameters of the function with the number `i` in the unit `u`, which has so many bytes. `l` is how many bytes of location lists stand
-- before, here and in what follows.
abbrev pub parameters_placed : ℕ → ℕ → ℕ → ℕ → List Parameter → List ParameterPlaced
parameters_placed u i size l ps =
    placed_from (λ (n : ℕ) (p : Parameter). located_bytes (function_offset i) size p) (λ (n : ℕ) (before : ℕ) (p : Parameter). record { unit = u; number = i; size = size; parameter = p; at = part_header_size + before } ∷ []) 0 l ps

-- those of functions, of which the first has the number `i`
abbrev pub function_parameters : ℕ → ℕ → ℕ → List FunctionDrawn → List ParameterPlaced
function_parameters u i l fs = placed_from function_locations (λ (n : ℕ) (before : ℕ) (f : FunctionDrawn). parameters_placed u n f.size before f.parameters) i l fs

-- those of units, of which the first has the number `u`
abbrev pub unit_parameters : ℕ → ℕ → List UnitDrawn → List ParameterPlaced
unit_parameters u l units = placed_from (λ (n : ℕ). unit_locations) (λ (n : ℕ) (before : ℕ) (unit : UnitDrawn). function_parameters n 0 before unit) u l units

-- all location lists, and all view pairs
abbrev pub location_lists_read : List UnitDrawn → List ListRead
location_lists_read units = map location_list_read (unit_parameters 0 0 units)

abbrev pub views_read : List UnitDrawn → List ViewRead
views_read units = map view_read (unit_parameters 0 0 units)

-- WHERE THEY STAND

-- the unit with a number, and the function with a number in a unit; past the end there is none, and an empty one stands for it
abbrev pub unit_among : List UnitDrawn → ℕ → UnitDrawn
unit_among units u = slice_index_or units u []

abbrev pub no_function : FunctionDrawn
no_function = record { size = 0; parameters = []; ranges = []; column = 0; steps = [] }

abbrev pub function_among : List UnitDrawn → ℕ → ℕ → FunctionDrawn
function_among units u i = slice_index_or (unit_among units u) i no_function

-- how many bytes of range lists stand before that of a function, and of location lists before those of its parameters
abbrev pub ranges_before : List UnitDrawn → ℕ → ℕ → ℕ
ranges_before units u i = length (ranges_bytes 0 (take u units)) + length (join_from (function_ranges u) 0 (take i (unit_among units u)))

abbrev pub locations_before : List UnitDrawn → ℕ → ℕ → ℕ
locations_before units u i = length (locations_bytes (take u units)) + length (join_from function_locations 0 (take i (unit_among units u)))

-- and before that of the parameter with a number
abbrev pub located_before : List UnitDrawn → ℕ → ℕ → ℕ → ℕ
located_before units u i k =
    let f = function_among units u i in
    locations_before units u i + length (concat (map (located_bytes (function_offset i) f.size) (take k f.parameters)))

-- the block is that of the function of these units that its numbers tell, and its range list stands behind those before it
pub record IsBlockOf (units : List UnitDrawn) (b : BlockPlaced) : Type 0 where
  pub unit_known : b.unit < length units
  pub known : b.number < length (unit_among units b.unit)
  pub sizes_are : b.sizes ≡ (function_among units b.unit b.number).ranges
  pub some : 0 < length b.sizes
  pub stands : b.at ≡ part_header_size + ranges_before units b.unit b.number

-- so is the parameter, which has a number among those of the function
pub record IsParameterOf (units : List UnitDrawn) (p : ParameterPlaced) : Type 0 where
  pub unit_known : p.unit < length units
  pub known : p.number < length (unit_among units p.unit)
  pub size_is : p.size ≡ (function_among units p.unit p.number).size
  pub k : ℕ
  pub counted : k < length (function_among units p.unit p.number).parameters
  pub parameter_is : p.parameter ≡ slice_index_or (function_among units p.unit p.number).parameters k p.parameter
  pub stands : p.at ≡ part_header_size + located_before units p.unit p.number k

-- WHAT IS TRUE OF THEM

-- the range list of a block is read in a contribution, and these are its items in the context of its unit
pub record IsBlockRead (section : List ℕ) (part : Contribution) (b : BlockPlaced) : Type 0 where
  pub begins : HoldsList part b.at
  pub read : IsListOf Ranges section part b.at (range_list_read b).raws
  pub said : AreSaid Ranges (range_list_read b).raws (ranged_entries (block_address b) b.sizes)
  pub gives : (addresses : List ℕ) → Give addresses (context_read b.unit) (ranged_entries (block_address b) b.sizes) (ranges_from (block_address b) b.sizes)
  pub fits : All Fits (ranges_from (block_address b) b.sizes)
  pub short : ¬ IsLong (ranged_entries (block_address b) b.sizes)
  pub few : length b.sizes ≤ 3

-- the entries of a parameter's list
abbrev pub parameter_entries_read : ParameterPlaced → List Entry
parameter_entries_read p = entries_of (located_entries (function_offset p.number) p.size p.parameter)

-- its items
abbrev pub parameter_bounds : ParameterPlaced → List Bounds
parameter_bounds p =
    let address = function_address p.unit p.number in
    between address (address + p.parameter.split) ∷ between (address + p.parameter.split) (address + p.size) ∷ []

-- The location list of a parameter is read in a contribution, and these are its items in the context of its unit and their expressions.
-- Its view pairs stand in the contribution too, one for each item.
pub record IsParameterRead (section : List ℕ) (part : Contribution) (p : ParameterPlaced) : Type 0 where
  pub begins : HoldsList part (located_at p)
  pub read : IsListOf Locations section part (located_at p) (location_list_read p).raws
  pub said : AreSaid Locations (location_list_read p).raws (parameter_entries_read p)
  pub expressions : expressions_in Locations section (location_list_read p).raws ≡ register_bytes p.parameter.register ∷ zero_bytes ∷ []
  pub gives : (addresses : List ℕ) → Give addresses (context_read p.unit) (parameter_entries_read p) (parameter_bounds p)
  pub fits : All Fits (parameter_bounds p)
  pub short : ¬ IsLong (parameter_entries_read p)
  pub register : p.parameter.register < 16
  pub views_begin : HoldsList part p.at
  pub views : IsRunAt section part p.at view_pairs
  pub counted : length view_pairs ≡ pair_count (parameter_entries_read p)

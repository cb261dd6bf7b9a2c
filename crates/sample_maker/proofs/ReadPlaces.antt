-- Of which function each list that is read is, and that each function's stand among them.
use Rattle.std.proofs.Common.{◌≡◌, ◌<◌, ◌+◌, ℕ, List, [], ◌∷◌, length, map, take, ◌∙◌, sym, ap, refl, subst, arith}
use Rattle.std.specs.Prelude.{slice_index_or}
use Rattle.std.specs.List.{Contains, concat}
use Rattle.std.proofs.lemmas.List.{get_or_default}
use Rattle.value_links.specs.Reading.{list_at, view_at}
use Rattle.sample_maker.specs.declared.drawn.Parameter.{Parameter}
use Rattle.sample_maker.specs.Numbered.{join_from}
use Rattle.sample_maker.specs.Drawn.{FunctionDrawn, UnitDrawn}
use Rattle.sample_maker.specs.Places.{function_offset}
use Rattle.sample_maker.specs.inside.Bytes.{located_bytes}
use Rattle.sample_maker.specs.inside.Files.{function_locations, function_ranges, unit_locations, unit_ranges, locations_bytes, ranges_bytes}
use Rattle.sample_maker.specs.inside.ReadLists.{BlockPlaced, range_list_read, block_placed, function_blocks, unit_blocks, range_lists_read, ParameterPlaced, location_list_read, view_read, parameters_placed, function_parameters, unit_parameters, location_lists_read, views_read, unit_among, no_function, function_among, ranges_before, locations_before, located_before, IsBlockOf, IsParameterOf}
use Rattle.sample_maker.proofs.ReadAllLists.{no_block, no_parameter, blocks_rise, all_parameters_rise}
use Rattle.sample_maker.proofs.Placing.{concat_joined, placed_known, placed_there, only_one, place_once, read_of_placed, placed_of_read}

-- BLOCKS

one_block : (u i n : ℕ) (sizes : List ℕ) (b : BlockPlaced) → Contains (block_placed u i n sizes) b → (b ≡ record { unit = u; number = i; sizes = sizes; at = 12 + n }) × (0 < length sizes)
one_block u i n [] b (k, lt, e) = absurd (omega (arith, lt))
one_block u i n (size ∷ sizes) b has = (only_one (record { unit = u; number = i; sizes = size ∷ sizes; at = 12 + n }) b has, omega arith)

block_there : (u i n : ℕ) (sizes : List ℕ) → 0 < length sizes → Contains (block_placed u i n sizes) (record { unit = u; number = i; sizes = sizes; at = 12 + n })
block_there u i n [] some = absurd (omega (arith, some))
block_there u i n (size ∷ sizes) some = (0, omega arith, refl)

-- a block by other names of its numbers
same_block : (b : BlockPlaced) (u v i j : ℕ) (sizes : List ℕ) (n m : ℕ) → b ≡ record { unit = u; number = i; sizes = sizes; at = 12 + n } → u ≡ v → i ≡ j → n ≡ m → b ≡ record { unit = v; number = j; sizes = sizes; at = 12 + m }
same_block b u v i j sizes n m is same_unit same_number same_place =
    is
    ∙ ap (λ (z : ℕ). record { unit = z; number = i; sizes = sizes; at = 12 + n }) same_unit
    ∙ ap (λ (z : ℕ). record { unit = v; number = z; sizes = sizes; at = 12 + n }) same_number
    ∙ ap (λ (z : ℕ). record { unit = v; number = j; sizes = sizes; at = 12 + z }) same_place

block_as : (units : List UnitDrawn) (b c : BlockPlaced) → b ≡ c → IsBlockOf units c → IsBlockOf units b
block_as units b c same is = subst (IsBlockOf units) (sym same) is

-- what is placed of units is of one of their functions
pub block_known : (units : List UnitDrawn) (b : BlockPlaced) → Contains (unit_blocks 0 0 units) b → IsBlockOf units b
block_known units b has =
    let outer = placed_known unit_ranges (λ (u : ℕ) (r : ℕ) (unit : UnitDrawn). function_blocks u 0 r unit) 0 0 units [] b has in
    let unit : UnitDrawn = unit_among units outer.k in
    let inner = placed_known (function_ranges outer.number) (λ (i : ℕ) (r : ℕ) (f : FunctionDrawn). block_placed outer.number i r f.ranges) 0 outer.at unit no_function b outer.one in
    let sizes : List ℕ = (function_among units outer.k inner.k).ranges in
    let one = one_block outer.number inner.number inner.at sizes b inner.one in
    let u : outer.number ≡ outer.k = omega (arith, outer.numbered) in
    let i : inner.number ≡ inner.k = omega (arith, inner.numbered) in
    let at : inner.at ≡ ranges_before units outer.k inner.k = omega (arith, outer.stands, inner.stands, ap (λ (z : ℕ). length (join_from (function_ranges z) 0 (take inner.k unit))) u) in
    let placed : BlockPlaced = record { unit = outer.k; number = inner.k; sizes = sizes; at = 12 + ranges_before units outer.k inner.k } in
    let whole : b ≡ placed = same_block b outer.number outer.k inner.number inner.k sizes inner.at (ranges_before units outer.k inner.k) one.0 u i at in
    block_as units b placed whole (record { unit_known = outer.inside; known = inner.inside; sizes_are = refl; some = one.1; stands = refl })

-- and that of each is placed
pub block_placed_there : (units : List UnitDrawn) (u i : ℕ) → u < length units → i < length (unit_among units u) → 0 < length (function_among units u i).ranges → Contains (unit_blocks 0 0 units) (record { unit = u; number = i; sizes = (function_among units u i).ranges; at = 12 + ranges_before units u i })
block_placed_there units u i known inside some =
    let unit : UnitDrawn = unit_among units u in
    let sizes : List ℕ = (function_among units u i).ranges in
    let b : BlockPlaced = record { unit = u; number = i; sizes = sizes; at = 12 + ranges_before units u i } in
    let before : ℕ = length (ranges_bytes 0 (take u units)) in
    let inner : Contains (function_blocks u 0 before unit) b = placed_there (function_ranges u) (λ (n : ℕ) (r : ℕ) (f : FunctionDrawn). block_placed u n r f.ranges) 0 before unit no_function b i i (ranges_before units u i) inside (omega arith) refl (block_there u i (ranges_before units u i) sizes some) in
    placed_there unit_ranges (λ (n : ℕ) (r : ℕ) (one : UnitDrawn). function_blocks n 0 r one) 0 0 units [] b u u before known (omega arith) (omega arith) inner

-- two that stand at one place are one
pub block_once : (units : List UnitDrawn) (b c : BlockPlaced) → Contains (unit_blocks 0 0 units) b → Contains (unit_blocks 0 0 units) c → b.at ≡ c.at → b ≡ c
block_once units b c first second same = place_once (λ (z : BlockPlaced). z.at) (12 + 0) (12 + (0 + length (ranges_bytes 0 units))) (unit_blocks 0 0 units) b c (blocks_rise units) first second same

-- the range list of each has a number, and each is that of a block
pub range_list_of : (units : List UnitDrawn) (b : BlockPlaced) → Contains (unit_blocks 0 0 units) b → (k : ℕ) × (k < length (range_lists_read units)) × (list_at (range_lists_read units) k ≡ range_list_read b)
range_list_of units b has = read_of_placed range_list_read (unit_blocks 0 0 units) b (record { at = 0; part = 0; raws = [] }) has

pub block_of_list : (units : List UnitDrawn) (k : ℕ) → k < length (range_lists_read units) → (b : BlockPlaced) × Contains (unit_blocks 0 0 units) b × (list_at (range_lists_read units) k ≡ range_list_read b)
block_of_list units k inside = placed_of_read range_list_read (unit_blocks 0 0 units) no_block k (record { at = 0; part = 0; raws = [] }) inside

-- PARAMETERS

-- bytes that are said without numbers
length_joined : {X : Type 0} (say : X → List ℕ) (xs : List X) → length (join_from (λ (n : ℕ). say) 0 xs) ≡ length (concat (map say xs))
length_joined say xs = ap length (concat_joined say 0 xs)

same_parameter : (p : ParameterPlaced) (u v i j size : ℕ) (q : Parameter) (n m : ℕ) → p ≡ record { unit = u; number = i; size = size; parameter = q; at = 12 + n } → u ≡ v → i ≡ j → n ≡ m → p ≡ record { unit = v; number = j; size = size; parameter = q; at = 12 + m }
same_parameter p u v i j size q n m is same_unit same_number same_place =
    is
    ∙ ap (λ (z : ℕ). record { unit = z; number = i; size = size; parameter = q; at = 12 + n }) same_unit
    ∙ ap (λ (z : ℕ). record { unit = v; number = z; size = size; parameter = q; at = 12 + n }) same_number
    ∙ ap (λ (z : ℕ). record { unit = v; number = j; size = size; parameter = q; at = 12 + z }) same_place

parameter_as : (units : List UnitDrawn) (p q : ParameterPlaced) → p ≡ q → IsParameterOf units q → IsParameterOf units p
parameter_as units p q same is = subst (IsParameterOf units) (sym same) is

pub parameter_known : (units : List UnitDrawn) (p : ParameterPlaced) → Contains (unit_parameters 0 0 units) p → IsParameterOf units p
parameter_known units p has =
    let outer = placed_known (λ (u : ℕ). unit_locations) (λ (u : ℕ) (l : ℕ) (unit : UnitDrawn). function_parameters u 0 l unit) 0 0 units [] p has in
    let unit : UnitDrawn = unit_among units outer.k in
    let mid = placed_known function_locations (λ (i : ℕ) (l : ℕ) (f : FunctionDrawn). parameters_placed outer.number i f.size l f.parameters) 0 outer.at unit no_function p outer.one in
    let f : FunctionDrawn = function_among units outer.k mid.k in
    let say : Parameter → List ℕ = located_bytes (function_offset mid.number) f.size in
    let inner = placed_known (λ (n : ℕ) (q : Parameter). say q) (λ (n : ℕ) (l : ℕ) (q : Parameter). record { unit = outer.number; number = mid.number; size = f.size; parameter = q; at = 12 + l } ∷ []) 0 mid.at f.parameters p.parameter p mid.one in
    let q : Parameter = slice_index_or f.parameters inner.k p.parameter in
    let one : p ≡ record { unit = outer.number; number = mid.number; size = f.size; parameter = q; at = 12 + inner.at } = only_one (record { unit = outer.number; number = mid.number; size = f.size; parameter = q; at = 12 + inner.at }) p inner.one in
    let u : outer.number ≡ outer.k = omega (arith, outer.numbered) in
    let i : mid.number ≡ mid.k = omega (arith, mid.numbered) in
    let here : length (concat (map say (take inner.k f.parameters))) ≡ length (concat (map (located_bytes (function_offset mid.k) f.size) (take inner.k f.parameters))) = ap (λ (z : ℕ). length (concat (map (located_bytes (function_offset z) f.size) (take inner.k f.parameters)))) i in
    let at : inner.at ≡ located_before units outer.k mid.k inner.k = omega (arith, outer.stands, mid.stands, inner.stands, length_joined unit_locations (take outer.k units), length_joined say (take inner.k f.parameters), here) in
    let stands_at : ℕ = 12 + located_before units outer.k mid.k inner.k in
    let placed : ParameterPlaced = record { unit = outer.k; number = mid.k; size = f.size; parameter = q; at = stands_at } in
    let whole : p ≡ placed = same_parameter p outer.number outer.k mid.number mid.k f.size q inner.at (located_before units outer.k mid.k inner.k) one u i at in
    parameter_as units p placed whole (record { unit_known = outer.inside; known = mid.inside; size_is = refl; k = inner.k; counted = inner.inside; parameter_is = get_or_default f.parameters inner.k p.parameter q inner.inside; stands = refl {a = stands_at} })

-- and each is placed
pub parameter_placed_there : (units : List UnitDrawn) (u i k : ℕ) (d : Parameter) → u < length units → i < length (unit_among units u) → k < length (function_among units u i).parameters → Contains (unit_parameters 0 0 units) (record { unit = u; number = i; size = (function_among units u i).size; parameter = slice_index_or (function_among units u i).parameters k d; at = 12 + located_before units u i k })
parameter_placed_there units u i k d known inside counted =
    let unit : UnitDrawn = unit_among units u in
    let f : FunctionDrawn = function_among units u i in
    let p : ParameterPlaced = record { unit = u; number = i; size = f.size; parameter = slice_index_or f.parameters k d; at = 12 + located_before units u i k } in
    let say : Parameter → List ℕ = located_bytes (function_offset i) f.size in
    let before : ℕ = length (locations_bytes (take u units)) in
    let at : located_before units u i k ≡ locations_before units u i + length (join_from (λ (n : ℕ) (q : Parameter). say q) 0 (take k f.parameters)) = omega (arith, length_joined say (take k f.parameters)) in
    let inner : Contains (parameters_placed u i f.size (locations_before units u i) f.parameters) p = placed_there (λ (n : ℕ) (q : Parameter). say q) (λ (n : ℕ) (l : ℕ) (q : Parameter). record { unit = u; number = i; size = f.size; parameter = q; at = 12 + l } ∷ []) 0 (locations_before units u i) f.parameters d p k k (located_before units u i k) counted (omega arith) at (0, omega arith, refl) in
    let mid : Contains (function_parameters u 0 before unit) p = placed_there function_locations (λ (n : ℕ) (l : ℕ) (one : FunctionDrawn). parameters_placed u n one.size l one.parameters) 0 before unit no_function p i i (locations_before units u i) inside (omega arith) refl inner in
    placed_there (λ (n : ℕ). unit_locations) (λ (n : ℕ) (l : ℕ) (one : UnitDrawn). function_parameters n 0 l one) 0 0 units [] p u u before known (omega arith) (omega (arith, length_joined unit_locations (take u units))) mid

pub parameter_once : (units : List UnitDrawn) (p q : ParameterPlaced) → Contains (unit_parameters 0 0 units) p → Contains (unit_parameters 0 0 units) q → p.at ≡ q.at → p ≡ q
parameter_once units p q first second same = place_once (λ (z : ParameterPlaced). z.at) (12 + 0) (12 + (0 + length (locations_bytes units))) (unit_parameters 0 0 units) p q (all_parameters_rise units) first second same

-- the location list of each has a number, and so have its view pairs; each is that of a parameter
pub location_list_of : (units : List UnitDrawn) (p : ParameterPlaced) → Contains (unit_parameters 0 0 units) p → (k : ℕ) × (k < length (location_lists_read units)) × (list_at (location_lists_read units) k ≡ location_list_read p)
location_list_of units p has = read_of_placed location_list_read (unit_parameters 0 0 units) p (record { at = 0; part = 0; raws = [] }) has

pub parameter_of_list : (units : List UnitDrawn) (k : ℕ) → k < length (location_lists_read units) → (p : ParameterPlaced) × Contains (unit_parameters 0 0 units) p × (list_at (location_lists_read units) k ≡ location_list_read p)
parameter_of_list units k inside = placed_of_read location_list_read (unit_parameters 0 0 units) no_parameter k (record { at = 0; part = 0; raws = [] }) inside

pub view_of : (units : List UnitDrawn) (p : ParameterPlaced) → Contains (unit_parameters 0 0 units) p → (k : ℕ) × (k < length (views_read units)) × (view_at (views_read units) k ≡ view_read p)
view_of units p has = read_of_placed view_read (unit_parameters 0 0 units) p (record { list = 0; at = 0; pairs = [] }) has

pub parameter_of_view : (units : List UnitDrawn) (k : ℕ) → k < length (views_read units) → (p : ParameterPlaced) × Contains (unit_parameters 0 0 units) p × (view_at (views_read units) k ≡ view_read p)
parameter_of_view units k inside = placed_of_read view_read (unit_parameters 0 0 units) no_parameter k (record { list = 0; at = 0; pairs = [] }) inside

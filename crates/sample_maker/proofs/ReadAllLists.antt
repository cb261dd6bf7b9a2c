-- All lists and view pairs as they are read: that they are, and that their places rise.
use Rattle.std.proofs.Common.{◌≡◌, ◌≤◌, ◌<◌, ◌+◌, ◌*◌, ◌^◌, ℕ, suc, List, [], ◌∷◌, ◌++◌, length, map, ◌∙◌, sym, ap, refl, subst, arith, inl}
use Rattle.std.specs.Prelude.{slice_index_or}
use Rattle.std.specs.List.{All, concat}
use Rattle.std.proofs.lemmas.List.{append-nil, length-append}
use Rattle.std.proofs.lemmas.List.Elements.{All-nil, All-cons}
use Rattle.list_model.specs.Contributions.{ContributionsTile}
use Rattle.value_links.specs.Reading.{ListRead, ViewRead, list_at, view_at}
use Rattle.value_links.specs.Lists.{AreViewsApart}
use Rattle.sample_maker.specs.declared.drawn.Parameter.{Parameter}
use Rattle.sample_maker.specs.Numbered.{join_from}
use Rattle.sample_maker.specs.Drawn.{FunctionDrawn, UnitDrawn}
use Rattle.sample_maker.specs.Places.{function_offset, function_address}
use Rattle.sample_maker.specs.inside.Bytes.{range_entries, range_bytes, block_list, located_bytes, part_bytes}
use Rattle.sample_maker.specs.inside.Files.{function_locations, function_ranges, unit_locations, unit_ranges, locations_bytes, ranges_bytes}
use Rattle.sample_maker.specs.inside.Small.{IsParameterSmall, IsFunctionSmall, IsUnitSmall}
use Rattle.sample_maker.specs.inside.ReadLists.{part_read, section_read, BlockPlaced, range_list_read, block_placed, function_blocks, unit_blocks, range_lists_read, ParameterPlaced, location_list_read, view_read, parameters_placed, function_parameters, unit_parameters, location_lists_read, views_read, IsBlockRead, IsParameterRead}
use Rattle.sample_maker.proofs.Lengths.{join_length, unit_locations_length, unit_ranges_length}
use Rattle.sample_maker.proofs.ReadContributions.{part_tiles}
use Rattle.sample_maker.proofs.ReadRanges.{block_is_read}
use Rattle.sample_maker.proofs.ReadLocations.{parameter_is_read}
use Rattle.sample_maker.proofs.Placing.{all_placed, concat_joined, Rise, placed_rise, read_apart}

-- BLOCKS

one_block : (lists before after : List ℕ) (u i n : ℕ) (sizes : List ℕ) → lists ≡ before ++ (block_list (function_address u i) sizes ++ after) → n ≡ length before → u < 4096 → i < 8 → length sizes ≤ 3 → All (λ (size : ℕ). size < 16) sizes → All (IsBlockRead (part_bytes lists) (part_read lists)) (block_placed u i n sizes)
one_block lists before after u i n [] is place few_u few_i few small = All-nil (IsBlockRead (part_bytes lists) (part_read lists))
one_block lists before after u i n (size ∷ sizes) is place few_u few_i few small =
    let P : BlockPlaced → Type 0 = IsBlockRead (part_bytes lists) (part_read lists) in
    All-cons P (record { unit = u; number = i; sizes = size ∷ sizes; at = 12 + n }) [] (block_is_read lists before after n u i (size ∷ sizes) is place few_u few_i few small) (All-nil P)

function_blocks_read : (lists before after : List ℕ) (u n : ℕ) (unit : UnitDrawn) → lists ≡ before ++ (unit_ranges u unit ++ after) → n ≡ length before → u < 4096 → IsUnitSmall unit → All (IsBlockRead (part_bytes lists) (part_read lists)) (function_blocks u 0 n unit)
function_blocks_read lists before after u n unit is place few_u small =
    all_placed (IsBlockRead (part_bytes lists) (part_read lists)) IsFunctionSmall (function_ranges u) (λ (i : ℕ) (r : ℕ) (f : FunctionDrawn). block_placed u i r f.ranges) lists 8 (λ front rest i r f there counted few function. one_block lists front rest u i r f.ranges there counted few_u few function.few_ranges function.ranges) before after 0 n unit is place (omega (arith, small.few)) small.functions

block_rises : (u i n : ℕ) (sizes : List ℕ) → Rise (λ (b : BlockPlaced). b.at) (12 + n) (block_placed u i n sizes) (12 + (n + length (block_list (function_address u i) sizes)))
unfolding range_bytes
block_rises u i n [] = omega arith
block_rises u i n (size ∷ sizes) =
    let address : ℕ = function_address u i in
    (omega arith, omega (arith, length-append (range_entries address (size ∷ sizes)) (0 ∷ [])))

function_blocks_rise : (u n : ℕ) (unit : UnitDrawn) → Rise (λ (b : BlockPlaced). b.at) (12 + n) (function_blocks u 0 n unit) (12 + (n + length (unit_ranges u unit)))
function_blocks_rise u n unit = placed_rise (λ (b : BlockPlaced). b.at) (function_ranges u) (λ (i : ℕ) (r : ℕ) (f : FunctionDrawn). block_placed u i r f.ranges) 12 (λ i r f. block_rises u i r f.ranges) 0 n unit

pub blocks_rise : (units : List UnitDrawn) → Rise (λ (b : BlockPlaced). b.at) (12 + 0) (unit_blocks 0 0 units) (12 + (0 + length (ranges_bytes 0 units)))
blocks_rise units = placed_rise (λ (b : BlockPlaced). b.at) unit_ranges (λ (u : ℕ) (r : ℕ) (unit : UnitDrawn). function_blocks u 0 r unit) 12 (λ u r unit. function_blocks_rise u r unit) 0 0 units

-- PARAMETERS

function_parameters_read : (lists before after : List ℕ) (u i n : ℕ) (f : FunctionDrawn) → lists ≡ before ++ (function_locations i f ++ after) → n ≡ length before → u < 4096 → i < 8 → IsFunctionSmall f → All (IsParameterRead (part_bytes lists) (part_read lists)) (parameters_placed u i f.size n f.parameters)
function_parameters_read lists before after u i n f is place few_u few_i small =
    let P : ParameterPlaced → Type 0 = IsParameterRead (part_bytes lists) (part_read lists) in
    let say : Parameter → List ℕ = located_bytes (function_offset i) f.size in
    let joined : lists ≡ before ++ (join_from (λ (k : ℕ). say) 0 f.parameters ++ after) = is ∙ ap (λ (z : List ℕ). before ++ (z ++ after)) (sym (concat_joined say 0 f.parameters)) in
    all_placed P IsParameterSmall (λ (k : ℕ) (p : Parameter). say p) (λ (k : ℕ) (l : ℕ) (p : Parameter). record { unit = u; number = i; size = f.size; parameter = p; at = 12 + l } ∷ []) lists (length f.parameters) (λ front rest k l p there counted few parameter. All-cons P (record { unit = u; number = i; size = f.size; parameter = p; at = 12 + l }) [] (parameter_is_read lists front rest l u i f.size p there counted few_u few_i small.size parameter) (All-nil P)) before after 0 n f.parameters joined place (omega arith) small.parameters

unit_parameters_read : (lists before after : List ℕ) (u n : ℕ) (unit : UnitDrawn) → lists ≡ before ++ (unit_locations unit ++ after) → n ≡ length before → u < 4096 → IsUnitSmall unit → All (IsParameterRead (part_bytes lists) (part_read lists)) (function_parameters u 0 n unit)
unit_parameters_read lists before after u n unit is place few_u small =
    all_placed (IsParameterRead (part_bytes lists) (part_read lists)) IsFunctionSmall function_locations (λ (i : ℕ) (l : ℕ) (f : FunctionDrawn). parameters_placed u i f.size l f.parameters) lists 8 (λ front rest i l f there counted few function. function_parameters_read lists front rest u i l f there counted few_u few function) before after 0 n unit is place (omega (arith, small.few)) small.functions

some_located : (offset size : ℕ) (p : Parameter) → 4 < length (located_bytes offset size p)
unfolding located_bytes
some_located offset size p = omega arith

parameters_rise : (u i size n : ℕ) (ps : List Parameter) → Rise (λ (p : ParameterPlaced). p.at) (12 + n) (parameters_placed u i size n ps) (12 + (n + length (concat (map (located_bytes (function_offset i) size) ps))))
parameters_rise u i size n ps =
    let say : Parameter → List ℕ = located_bytes (function_offset i) size in
    let at : ParameterPlaced → ℕ = λ (p : ParameterPlaced). p.at in
    subst (λ (z : List ℕ). Rise at (12 + n) (parameters_placed u i size n ps) (12 + (n + length z))) (concat_joined say 0 ps) (placed_rise at (λ (k : ℕ) (p : Parameter). say p) (λ (k : ℕ) (l : ℕ) (p : Parameter). record { unit = u; number = i; size = size; parameter = p; at = 12 + l } ∷ []) 12 (λ k l p. (omega arith, omega (arith, some_located (function_offset i) size p))) 0 n ps)

function_parameters_rise : (u n : ℕ) (unit : UnitDrawn) → Rise (λ (p : ParameterPlaced). p.at) (12 + n) (function_parameters u 0 n unit) (12 + (n + length (unit_locations unit)))
function_parameters_rise u n unit = placed_rise (λ (p : ParameterPlaced). p.at) function_locations (λ (i : ℕ) (l : ℕ) (f : FunctionDrawn). parameters_placed u i f.size l f.parameters) 12 (λ i l f. parameters_rise u i f.size l f.parameters) 0 n unit

pub all_parameters_rise : (units : List UnitDrawn) → Rise (λ (p : ParameterPlaced). p.at) (12 + 0) (unit_parameters 0 0 units) (12 + (0 + length (locations_bytes units)))
all_parameters_rise units =
    let at : ParameterPlaced → ℕ = λ (p : ParameterPlaced). p.at in
    subst (λ (z : List ℕ). Rise at (12 + 0) (unit_parameters 0 0 units) (12 + (0 + length z))) (concat_joined unit_locations 0 units) (placed_rise at (λ (u : ℕ). unit_locations) (λ (u : ℕ) (l : ℕ) (unit : UnitDrawn). function_parameters u 0 l unit) 12 (λ u l unit. function_parameters_rise u l unit) 0 0 units)

-- ALL UNITS

pub no_block : BlockPlaced
no_block = record { unit = 0; number = 0; sizes = []; at = 0 }

pub no_parameter : ParameterPlaced
no_parameter = record { unit = 0; number = 0; size = 0; parameter = record { split = 0; register = 0 }; at = 0 }

units_concat_length : (units : List UnitDrawn) → All IsUnitSmall units → length (concat (map unit_locations units)) ≤ 800 * length units
units_concat_length [] small = omega arith
units_concat_length (unit ∷ units) small =
    omega (arith, length-append (unit_locations unit) (concat (map unit_locations units)), unit_locations_length unit (small 0 unit (omega arith)), units_concat_length units (λ k d lt. small (suc k) d (omega (arith, lt))))

module _ (units : List UnitDrawn) (small : All IsUnitSmall units) (few : length units ≤ 4096) where
  -- how many bytes of lists there are at most
  pub few_ranges : length (ranges_bytes 0 units) < 2 ^ 31
  few_ranges = omega (arith, join_length unit_ranges 500 0 units (λ n k d lt. unit_ranges_length n (slice_index_or units k d) (small k d lt)), few)

  pub few_locations : length (locations_bytes units) < 2 ^ 31
  few_locations = omega (arith, units_concat_length units small, few)

  pub range_parts_tile : ContributionsTile (section_read (ranges_bytes 0 units)).section (section_read (ranges_bytes 0 units)).parts
  range_parts_tile = part_tiles (ranges_bytes 0 units) few_ranges

  pub location_parts_tile : ContributionsTile (section_read (locations_bytes units)).section (section_read (locations_bytes units)).parts
  location_parts_tile = part_tiles (locations_bytes units) few_locations

  -- the list of each block and of each parameter is read
  pub blocks_read : All (IsBlockRead (part_bytes (ranges_bytes 0 units)) (part_read (ranges_bytes 0 units))) (unit_blocks 0 0 units)
  blocks_read =
      let lists : List ℕ = ranges_bytes 0 units in
      all_placed (IsBlockRead (part_bytes lists) (part_read lists)) IsUnitSmall unit_ranges (λ (u : ℕ) (r : ℕ) (unit : UnitDrawn). function_blocks u 0 r unit) lists 4096 (λ front rest u r unit there counted low one. function_blocks_read lists front rest u r unit there counted low one) [] [] 0 0 units (sym (append-nil lists)) refl (omega (arith, few)) small

  pub parameters_read : All (IsParameterRead (part_bytes (locations_bytes units)) (part_read (locations_bytes units))) (unit_parameters 0 0 units)
  parameters_read =
      let lists : List ℕ = locations_bytes units in
      let joined : lists ≡ [] ++ (join_from (λ (u : ℕ). unit_locations) 0 units ++ []) = sym (concat_joined unit_locations 0 units) ∙ sym (append-nil (join_from (λ (u : ℕ). unit_locations) 0 units)) in
      all_placed (IsParameterRead (part_bytes lists) (part_read lists)) IsUnitSmall (λ (u : ℕ). unit_locations) (λ (u : ℕ) (l : ℕ) (unit : UnitDrawn). function_parameters u 0 l unit) lists 4096 (λ front rest u l unit there counted low one. unit_parameters_read lists front rest u l unit there counted low one) [] [] 0 0 units joined refl (omega (arith, few)) small

  -- places rise strictly
  pub range_lists_rise : (j k : ℕ) → j < k → k < length (range_lists_read units) → (list_at (range_lists_read units) j).at < (list_at (range_lists_read units) k).at
  range_lists_rise j k before lt = read_apart (λ (b : BlockPlaced). b.at) range_list_read (λ (list : ListRead). list.at) (12 + 0) (12 + (0 + length (ranges_bytes 0 units))) (unit_blocks 0 0 units) j k no_block (record { at = 0; part = 0; raws = [] }) (λ s t less. less) (blocks_rise units) before lt

  pub location_lists_rise : (j k : ℕ) → j < k → k < length (location_lists_read units) → (list_at (location_lists_read units) j).at < (list_at (location_lists_read units) k).at
  location_lists_rise j k before lt = read_apart (λ (p : ParameterPlaced). p.at) location_list_read (λ (list : ListRead). list.at) (12 + 0) (12 + (0 + length (locations_bytes units))) (unit_parameters 0 0 units) j k no_parameter (record { at = 0; part = 0; raws = [] }) (λ s t less. omega (arith, less)) (all_parameters_rise units) before lt

  pub views_rise : (j k : ℕ) → j < k → k < length (views_read units) → AreViewsApart (view_at (views_read units) j) (view_at (views_read units) k)
  views_rise j k before lt = inl (read_apart (λ (p : ParameterPlaced). p.at) view_read (λ (view : ViewRead). view.list) (12 + 0) (12 + (0 + length (locations_bytes units))) (unit_parameters 0 0 units) j k no_parameter (record { list = 0; at = 0; pairs = [] }) (λ s t less. omega (arith, less)) (all_parameters_rise units) before lt)

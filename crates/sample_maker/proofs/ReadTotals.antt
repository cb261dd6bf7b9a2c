-- How much all lists have together: their entries, the bytes of their expressions and the view pairs keep the limits of any reach.
use Rattle.std.proofs.Common.{◌≡◌, ◌≤◌, ◌+◌, ◌*◌, ℕ, suc, List, [], ◌∷◌, length, map, ap, refl, arith}
use Rattle.std.specs.Prelude.{slice_index_or}
use Rattle.std.specs.List.{All, sum_by}
use Rattle.std.proofs.lemmas.List.{length-append}
use Rattle.std.proofs.lemmas.List.Elements.{All-tail}
use Rattle.std.proofs.lemmas.List.Sums.{sum_by-cons}
use Rattle.dw_base.specs.declared.fault.Reach.{Reach}
use Rattle.dw_base.specs.declared.fault.Reach.TheVariants.{Narrow, Wide}
use Rattle.list_model.specs.declared.entry.RawEntry.{RawEntry}
use Rattle.list_model.specs.Reading.{list_entry_limit}
use Rattle.loc_lists.specs.Views.{view_limit}
use Rattle.value_links.specs.Reading.{ListRead, ViewRead}
use Rattle.value_links.specs.Lists.{pair_total}
use Rattle.value_links.specs.ListFaults.{list_total, entry_total, expression_bytes, expression_limit}
use Rattle.sample_maker.specs.declared.drawn.Parameter.{Parameter}
use Rattle.sample_maker.specs.Drawn.{FunctionDrawn, UnitDrawn}
use Rattle.sample_maker.specs.Places.{function_offset}
use Rattle.sample_maker.specs.inside.Bytes.{located_bytes}
use Rattle.sample_maker.specs.inside.Files.{function_locations, function_ranges, unit_locations, unit_ranges}
use Rattle.sample_maker.specs.inside.Small.{IsParameterSmall, IsFunctionSmall, IsUnitSmall}
use Rattle.sample_maker.specs.inside.ReadLists.{placed_from, range_raw, range_raws, BlockPlaced, block_address, range_list_read, block_placed, function_blocks, unit_blocks, range_lists_read, ParameterPlaced, location_list_read, view_read, parameters_placed, function_parameters, unit_parameters, location_lists_read, views_read}
use Rattle.sample_maker.proofs.ReadAllLists.{blocks_read}

-- SUMS

-- as many as things have together, where each has so many at most
sum_most : {T R : Type 0} (read : T → R) (measure : R → ℕ) (most : ℕ) (ts : List T) → All (λ (t : T). measure (read t) ≤ most) ts → sum_by measure (map read ts) ≤ most * length ts
sum_most read measure most [] each = omega arith
sum_most {T} read measure most (t ∷ ts) each =
    let first : measure (read t) ≤ most = each 0 t (omega arith) in
    let rest : sum_by measure (map read ts) ≤ most * length ts = sum_most read measure most ts (All-tail (λ (x : T). measure (read x) ≤ most) t ts each) in
    omega (arith, sum_by-cons measure (read t) (map read ts), first, rest)

placed_length : {X T : Type 0} (Q : X → Type 0) (say : ℕ → X → List ℕ) (place : ℕ → ℕ → X → List T) (most : ℕ) → ((i n : ℕ) (x : X) → Q x → length (place i n x) ≤ most) → (i n : ℕ) (xs : List X) → All Q xs → length (placed_from say place i n xs) ≤ most * length xs
placed_length Q say place most each i n [] all = omega arith
placed_length Q say place most each i n (x ∷ xs) all =
    let first : length (place i n x) ≤ most = each i n x (all 0 x (omega arith)) in
    let rest : length (placed_from say place (suc i) (n + length (say i x)) xs) ≤ most * length xs = placed_length Q say place most each (suc i) (n + length (say i x)) xs (All-tail Q x xs all) in
    omega (arith, length-append (place i n x) (placed_from say place (suc i) (n + length (say i x)) xs), first, rest)

-- BLOCKS

one_block_most : (u i n : ℕ) (sizes : List ℕ) → length (block_placed u i n sizes) ≤ 1
one_block_most u i n [] = omega arith
one_block_most u i n (size ∷ sizes) = omega arith

unit_blocks_most : (u n : ℕ) (unit : UnitDrawn) → IsUnitSmall unit → length (function_blocks u 0 n unit) ≤ 8
unit_blocks_most u n unit small =
    omega (arith, placed_length IsFunctionSmall (function_ranges u) (λ (i : ℕ) (r : ℕ) (f : FunctionDrawn). block_placed u i r f.ranges) 1 (λ i r f function. one_block_most u i r f.ranges) 0 n unit small.functions, small.few)

entries_counted : (at address : ℕ) (sizes : List ℕ) → length (range_raws at address sizes) ≡ length sizes
entries_counted at address [] = refl
entries_counted at address (size ∷ sizes) = ap suc (entries_counted (at + 17) (address + 4) sizes)

-- a range list has no expressions
no_expressions : (at address : ℕ) (sizes : List ℕ) → expression_bytes (range_raws at address sizes) ≡ 0
no_expressions at address [] = refl
no_expressions at address (size ∷ sizes) =
    omega (arith, sum_by-cons (λ (raw : RawEntry). raw.expr.len) (range_raw at address size) (range_raws (at + 17) (address + 4) sizes), no_expressions (at + 17) (address + 4) sizes)

-- PARAMETERS

function_parameters_most : (u i n : ℕ) (f : FunctionDrawn) → IsFunctionSmall f → length (parameters_placed u i f.size n f.parameters) ≤ 3
function_parameters_most u i n f small =
    let say : Parameter → List ℕ = located_bytes (function_offset i) f.size in
    omega (arith, placed_length {T = ParameterPlaced} IsParameterSmall (λ (k : ℕ) (p : Parameter). say p) (λ (k : ℕ) (l : ℕ) (p : Parameter). record { unit = u; number = i; size = f.size; parameter = p; at = 12 + l } ∷ []) 1 (λ k l p parameter. omega arith) 0 n f.parameters small.parameters, small.few_parameters)

unit_parameters_most : (u n : ℕ) (unit : UnitDrawn) → IsUnitSmall unit → length (function_parameters u 0 n unit) ≤ 24
unit_parameters_most u n unit small =
    omega (arith, placed_length IsFunctionSmall function_locations (λ (i : ℕ) (l : ℕ) (f : FunctionDrawn). parameters_placed u i f.size l f.parameters) 3 (λ i l f function. function_parameters_most u i l f function) 0 n unit small.functions, small.few)

-- THE LIMITS

entries_within : (reach : Reach) (n : ℕ) → n ≤ 300000 → n ≤ list_entry_limit reach
entries_within Narrow n few = omega (arith, few)
entries_within Wide n few = omega (arith, few)

bytes_within : (reach : Reach) (n : ℕ) → n ≤ 300000 → n ≤ expression_limit reach
bytes_within Narrow n few = omega (arith, few)
bytes_within Wide n few = omega (arith, few)

module _ (units : List UnitDrawn) (small : All IsUnitSmall units) (few : length units ≤ 4096) where
  blocks_most : length (unit_blocks 0 0 units) ≤ 8 * length units
  blocks_most = placed_length IsUnitSmall unit_ranges (λ (u : ℕ) (r : ℕ) (unit : UnitDrawn). function_blocks u 0 r unit) 8 (λ u r unit one. unit_blocks_most u r unit one) 0 0 units small

  parameters_most : length (unit_parameters 0 0 units) ≤ 24 * length units
  parameters_most = placed_length IsUnitSmall (λ (u : ℕ). unit_locations) (λ (u : ℕ) (l : ℕ) (unit : UnitDrawn). function_parameters u 0 l unit) 24 (λ u l unit one. unit_parameters_most u l unit one) 0 0 units small

  range_entries_most : entry_total (range_lists_read units) ≤ 3 * length (unit_blocks 0 0 units)
  range_entries_most = sum_most range_list_read (λ (list : ListRead). length list.raws) 3 (unit_blocks 0 0 units) (λ k d lt.
      let b : BlockPlaced = slice_index_or (unit_blocks 0 0 units) k d in
      omega (arith, entries_counted b.at (block_address b) b.sizes, (blocks_read units small few k d lt).few))

  location_entries_most : entry_total (location_lists_read units) ≤ 2 * length (unit_parameters 0 0 units)
  location_entries_most = sum_most location_list_read (λ (list : ListRead). length list.raws) 2 (unit_parameters 0 0 units) (λ k d lt. omega arith)

  range_bytes_none : list_total expression_bytes (range_lists_read units) ≤ 0 * length (unit_blocks 0 0 units)
  range_bytes_none = sum_most range_list_read (λ (list : ListRead). expression_bytes list.raws) 0 (unit_blocks 0 0 units) (λ k d lt.
      let b : BlockPlaced = slice_index_or (unit_blocks 0 0 units) k d in
      omega (arith, no_expressions b.at (block_address b) b.sizes))

  -- one byte and two
  location_bytes_most : list_total expression_bytes (location_lists_read units) ≤ 3 * length (unit_parameters 0 0 units)
  location_bytes_most = sum_most location_list_read (λ (list : ListRead). expression_bytes list.raws) 3 (unit_parameters 0 0 units) (λ k d lt. omega arith)

  pub entries_keep : (reach : Reach) → entry_total (range_lists_read units) + entry_total (location_lists_read units) ≤ list_entry_limit reach
  entries_keep reach = entries_within reach (entry_total (range_lists_read units) + entry_total (location_lists_read units)) (omega (arith, range_entries_most, location_entries_most, blocks_most, parameters_most, few))

  pub bytes_keep : (reach : Reach) → list_total expression_bytes (range_lists_read units) + list_total expression_bytes (location_lists_read units) ≤ expression_limit reach
  bytes_keep reach = bytes_within reach (list_total expression_bytes (range_lists_read units) + list_total expression_bytes (location_lists_read units)) (omega (arith, range_bytes_none, location_bytes_most, blocks_most, parameters_most, few))

  pub pairs_keep : pair_total (views_read units) ≤ view_limit
  pairs_keep =
      let most : pair_total (views_read units) ≤ 2 * length (unit_parameters 0 0 units) = sum_most view_read (λ (view : ViewRead). length view.pairs) 2 (unit_parameters 0 0 units) (λ k d lt. omega arith) in
      omega (arith, most, parameters_most, few)

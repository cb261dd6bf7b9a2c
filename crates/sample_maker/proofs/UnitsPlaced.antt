-- The units of a file by their numbers, as they are placed: what is read of them, and which blocks and parameters they have.
use Rattle.std.proofs.Common.{◌≡◌, ◌≤◌, ◌<◌, ◌+◌, ℕ, zero, suc, List, [], ◌∷◌, length, take, get_or, ap, refl, subst, arith}
use Rattle.std.specs.List.{All, Contains}
use Rattle.value_links.specs.Reading.{unit_starts, program_at, unit_at, no_context, context_at}
use Rattle.value_links.specs.Debug.{UnitMeaning}
use Rattle.sample_maker.specs.Numbered.{map_from, join_from}
use Rattle.sample_maker.specs.Drawn.{UnitDrawn}
use Rattle.sample_maker.specs.Generated.{unit_meaning}
use Rattle.sample_maker.specs.inside.Bytes.{program_bytes}
use Rattle.sample_maker.specs.inside.Files.{unit_bytes, unit_locations, unit_ranges, info_bytes}
use Rattle.sample_maker.specs.inside.Small.{IsUnitSmall}
use Rattle.sample_maker.specs.inside.ReadLists.{context_read, BlockPlaced, function_blocks, unit_blocks, ParameterPlaced, function_parameters, unit_parameters}
use Rattle.sample_maker.specs.inside.ReadUnits.{drawn_at, locations_place, ranges_place, units_read}
use Rattle.sample_maker.specs.inside.ReadImage.{unit_places}
use Rattle.sample_maker.specs.inside.ReadFile.{links_of, placed_at, placed_read}
use Rattle.sample_maker.proofs.Placing.{concat_joined, placed_known, placed_there}
use Rattle.sample_maker.proofs.ProgramsRead.{program_named}
use Rattle.sample_maker.proofs.UnitsRead.{units_count, unit_is_numbered}

-- WHAT IS SAID OF THINGS BY THEIR NUMBERS

pub mapped_count : {X T : Type 0} (say : ℕ → X → T) (i : ℕ) (xs : List X) → length (map_from say i xs) ≡ length xs
mapped_count say i [] = refl
mapped_count say i (x ∷ xs) = ap suc (mapped_count say (suc i) xs)

-- the thing that is `k` behind the first has the number `n`
pub mapped_at : {X T : Type 0} (say : ℕ → X → T) (i k n : ℕ) (d : X) (e : T) (xs : List X) → n ≡ i + k → k < length xs → get_or (map_from say i xs) k e ≡ say n (get_or xs k d)
mapped_at say i k n d e [] is lt = absurd (omega (arith, lt))
mapped_at say i zero n d e (x ∷ xs) is lt =
    let same : i ≡ n = omega (arith, is) in
    ap (λ (z : ℕ). say z x) same
mapped_at say i (suc k) n d e (x ∷ xs) is lt = mapped_at say (suc i) k n d e xs (omega (arith, is)) (omega (arith, lt))

-- where units begin

starts_placed : (info : List ℕ) (at u program l r : ℕ) (units : List UnitDrawn) → unit_starts (units_read info at u program l r units) ≡ unit_places at u program l r units
starts_placed info at u program l r [] = refl
starts_placed info at u program l r (unit ∷ units) =
    ap (λ (z : List ℕ). at ∷ z) (starts_placed info (at + length (unit_bytes u program l r unit)) (suc u) (program + length (program_bytes u unit)) (l + length (unit_locations unit)) (r + length (unit_ranges u unit)) units)

-- BLOCKS AND PARAMETERS

module _ (units : List UnitDrawn) where
  -- those of one unit are among those of all
  pub block_among : (u : ℕ) (b : BlockPlaced) → u < length units → Contains (function_blocks u 0 (ranges_place units u) (drawn_at units u)) b → Contains (unit_blocks 0 0 units) b
  block_among u b inside own = placed_there unit_ranges (λ (n : ℕ) (r : ℕ) (unit : UnitDrawn). function_blocks n 0 r unit) 0 0 units [] b u u (ranges_place units u) inside (omega arith) (omega arith) own

  locations_joined : (u : ℕ) → length (join_from (λ (n : ℕ). unit_locations) 0 (take u units)) ≡ locations_place units u
  locations_joined u = ap length (concat_joined unit_locations 0 (take u units))

  pub parameter_among : (u : ℕ) (q : ParameterPlaced) → u < length units → Contains (function_parameters u 0 (locations_place units u) (drawn_at units u)) q → Contains (unit_parameters 0 0 units) q
  parameter_among u q inside own =
      placed_there (λ (n : ℕ). unit_locations) (λ (n : ℕ) (l : ℕ) (unit : UnitDrawn). function_parameters n 0 l unit) 0 0 units [] q u u (locations_place units u) inside (omega arith) (omega (arith, locations_joined u)) own

  -- and each of all is of one unit
  pub block_unit : (b : BlockPlaced) → Contains (unit_blocks 0 0 units) b → (u : ℕ) × (u < length units) × Contains (function_blocks u 0 (ranges_place units u) (drawn_at units u)) b
  block_unit b has =
      let one = placed_known unit_ranges (λ (n : ℕ) (r : ℕ) (unit : UnitDrawn). function_blocks n 0 r unit) 0 0 units [] b has in
      let number : one.number ≡ one.k = omega (arith, one.numbered) in
      let place : one.at ≡ ranges_place units one.k = omega (arith, one.stands) in
      (one.k, one.inside, subst (λ (z : ℕ). Contains (function_blocks one.k 0 z (drawn_at units one.k)) b) place (subst (λ (z : ℕ). Contains (function_blocks z 0 one.at (drawn_at units one.k)) b) number one.one))

  pub parameter_unit : (q : ParameterPlaced) → Contains (unit_parameters 0 0 units) q → (u : ℕ) × (u < length units) × Contains (function_parameters u 0 (locations_place units u) (drawn_at units u)) q
  parameter_unit q has =
      let one = placed_known (λ (n : ℕ). unit_locations) (λ (n : ℕ) (l : ℕ) (unit : UnitDrawn). function_parameters n 0 l unit) 0 0 units [] q has in
      let number : one.number ≡ one.k = omega (arith, one.numbered) in
      let place : one.at ≡ locations_place units one.k = omega (arith, one.stands, locations_joined one.k) in
      (one.k, one.inside, subst (λ (z : ℕ). Contains (function_parameters one.k 0 z (drawn_at units one.k)) q) place (subst (λ (z : ℕ). Contains (function_parameters z 0 one.at (drawn_at units one.k)) q) number one.one))

  -- ALL UNITS

  pub count_is : length (links_of units).units ≡ length units
  count_is = units_count (info_bytes 0 0 0 0 units) 0 0 0 0 0 units

  pub starts_are : unit_starts (links_of units).units ≡ unit_places 0 0 0 0 0 units
  starts_are = starts_placed (info_bytes 0 0 0 0 units) 0 0 0 0 0 units

  pub context_is : (u : ℕ) → u < length units → context_at (links_of units) u ≡ context_read u
  context_is u inside = mapped_at (λ (v : ℕ) (unit : UnitDrawn). context_read v) 0 u u [] no_context units (omega arith) inside

  pub meaning_is : (u : ℕ) (e : UnitMeaning) → u < length units → get_or (map_from unit_meaning 0 units) u e ≡ unit_meaning u (drawn_at units u)
  meaning_is u e inside = mapped_at unit_meaning 0 u u [] e units (omega arith) inside

  module _ (small : All IsUnitSmall units) (few : length units ≤ 4096) where
    pub unit_is : (u : ℕ) → u < length units → unit_at (links_of units) u ≡ placed_read (info_bytes 0 0 0 0 units) u (placed_at units u)
    unit_is u inside = unit_is_numbered units small few u inside

    pub program_is : (u : ℕ) → u < length units → (u < length (links_of units).programs) × ((program_at (links_of units) u).head.at ≡ (placed_at units u).program)
    program_is u inside = program_named units small few u inside

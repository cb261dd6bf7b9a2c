-- What the writer of expressions asks of a unit that is held.
use Rattle.std.proofs.Common.{◌≡◌, ◌≤◌, ◌<◌, ◌*◌, ◌^◌, ◌∙◌, ℕ, List, [], length, slice_index, get_or, sym, ap, refl, subst, arith}
use Rattle.std.proofs.lemmas.List.{get_or_read}
use Rattle.std.proofs.lemmas.List.Sums.{get_or-le-sum_by}
use Rattle.dw_base.specs.declared.fault.Reach.TheVariants.{Narrow}
use Rattle.entry_arena.specs.Operations.{HeldOps}
use Rattle.entry_read.specs.Expressions.{HasOperations}
use Rattle.entry_read.specs.Units.{HeadAndForest}
use Rattle.value_links.specs.Sections.{debug_info, info_name}
use Rattle.value_links.specs.Reading.{UnitRead, no_unit, unit_at}
use Rattle.value_links.specs.World.{World, operations_at, IsWorldOf}
use Rattle.rewriter.specs.inside.Placed.{unit_in}
use Rattle.rewriter.proofs.DebugSizes.{debug_short}
use Rattle.rewriter.proofs.Standing.{held_unit, held_count}
use Rattle.rewriter.proofs.Final.{unit_reads}

-- the number of a unit's table, as it is read
pub number_read : (world : World) (u : ℕ) (table_of : List ℕ) (i : ℕ) → u < length world.table_of → table_of ≡ world.table_of → i ≡ get_or table_of u i → i ≡ slice_index world.table_of u
number_read world u table_of i inside same is = get_or_read world.table_of u i inside (subst (λ (z : List ℕ). i ≡ get_or z u i) same is) 0

-- the section of a unit within the narrow limits
pub unit_short : (world : World) (u : ℕ) → IsWorldOf world.image Narrow world → u < length world.units → length (unit_in world.units u).forest.section ≤ 2 ^ 28
unit_short world u is known =
    let read = unit_reads world.image world is.r u Narrow is is.holds known in
    let same : (unit_in world.units u).forest.section ≡ debug_info world.image = ap (λ (h : HeadAndForest). h.forest.section) (held_unit world.image world is.r u is.holds) ∙ read.section in
    let short : length (debug_info world.image) ≤ 2 ^ 28 = debug_short world.image info_name refl is.valid in
    omega (arith, ap length same, short)

pub section_short : (world : World) (u : ℕ) → IsWorldOf world.image Narrow world → u < length world.units → length (unit_in world.units u).forest.section < 2 ^ 32
section_short world u is known = let short : length (unit_in world.units u).forest.section ≤ 2 ^ 28 = unit_short world u is known in omega (arith, short)

-- and it has few entries and values
module _ (world : World) (u : ℕ) (is : IsWorldOf world.image Narrow world) (known : u < length world.units) where
  count_read : length world.units ≡ length is.r.links.units
  count_read = held_count world.image world is.r is.holds

  pub entries_few : length (unit_in world.units u).forest.entries ≤ 2 ^ 24
  entries_few =
      let same : length (unit_in world.units u).forest.entries ≡ length (unit_at is.r.links u).forest.entries = ap (λ (h : HeadAndForest). length h.forest.entries) (held_unit world.image world is.r u is.holds) in
      let part : length (unit_at is.r.links u).forest.entries ≤ _ = get_or-le-sum_by (λ (unit : UnitRead). length unit.forest.entries) is.r.links.units u no_unit (omega (arith, count_read, known)) in
      omega (arith, same, part, is.read.links.units.within.entries)

  pub values_few : length (unit_in world.units u).forest.values ≤ 2 ^ 26
  values_few =
      let same : length (unit_in world.units u).forest.values ≡ length (unit_at is.r.links u).forest.values = ap (λ (h : HeadAndForest). length h.forest.values) (held_unit world.image world is.r u is.holds) in
      let part : length (unit_at is.r.links u).forest.values ≤ _ = get_or-le-sum_by (λ (unit : UnitRead). length unit.forest.values) is.r.links.units u no_unit (omega (arith, count_read, known)) in
      omega (arith, same, part, is.read.links.units.within.values)

module _ (world : World) (u : ℕ) (own : HeadAndForest) (operations : HeldOps) (is : IsWorldOf world.image Narrow world) (known : u < length world.units) (own_is : own ≡ unit_in world.units u) (operations_are : operations ≡ operations_at world.operations u) where
  -- the operations are those of its expressions
  pub operations_there : HasOperations Narrow own.forest operations
  operations_there =
      subst (λ (h : HeadAndForest). HasOperations Narrow h.forest operations) (sym own_is) (subst (HasOperations Narrow (unit_in world.units u).forest) (sym operations_are) (is.operations.each u (unit_in [] 0) known))

  -- the new expressions of a section within the narrow limits fit 32 bits
  pub section_room : 3 * length own.forest.section < 2 ^ 32
  section_room = subst (λ (h : HeadAndForest). 3 * length h.forest.section < 2 ^ 32) (sym own_is) (let short : length (unit_in world.units u).forest.section ≤ 2 ^ 28 = unit_short world u is known in omega (arith, short))

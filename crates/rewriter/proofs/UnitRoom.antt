-- How many tables the units of a valid file have, and that there is room for the units, however long they get when they are written anew.
use Rattle.std.proofs.Common.{◌≡◌, ◌≤◌, ◌<◌, ◌+◌, ◌*◌, ◌^◌, ◌∙◌, ℕ, List, [], ◌∷◌, length, map, sym, ap, refl, subst, arith}
use Rattle.std.specs.List.{sum_by}
use Rattle.std.proofs.lemmas.List.Sums.{sum_by-cons}
use Rattle.dw_base.specs.declared.fault.Reach.{Reach}
use Rattle.dw_base.specs.declared.fault.Reach.TheVariants.{Narrow}
use Rattle.entry_read.specs.Heads.{Follow as UnitsFollow}
use Rattle.unit_write.specs.Most.{most_bytes}
use Rattle.value_links.specs.Sections.{debug_info, debug_abbrev, info_name}
use Rattle.value_links.specs.Reading.{UnitRead, unit_heads}
use Rattle.value_links.specs.World.{World, head_and_forest, IsWorldOf}
use Rattle.value_links.proofs.HeldUnits.{few_units}
use Rattle.rewriter.proofs.DebugSizes.{debug_short}

-- each unit has a number of its table, so that there are fewer than 2^32 of these
pub numbers_are_few : (world : World) (reach : Reach) (table_of : List ℕ) → IsWorldOf world.image reach world → table_of ≡ world.table_of → length table_of < 2 ^ 32
numbers_are_few world reach table_of is same =
    let read : length is.r.links.units < 2 ^ 32 = few_units (debug_info world.image) (debug_abbrev world.image) is.r.links.units is.read.links.units in
    subst (λ (z : ℕ). z < 2 ^ 32) (sym (ap length same ∙ is.holds.tables.count)) read

abbrev entries_in : UnitRead → ℕ
entries_in u = length u.forest.entries

abbrev values_in : UnitRead → ℕ
values_in u = length u.forest.values

-- units that fill a section have at most three times its bytes and what entries and values may get
most_follow : (section : List ℕ) (units : List UnitRead) (a e : ℕ) → UnitsFollow section (unit_heads units) a e → 3 * a + sum_by most_bytes (map head_and_forest units) ≡ 3 * e + 4 * sum_by entries_in units + 10 * sum_by values_in units
most_follow section [] a e same = (let s : a ≡ e = same in omega (arith, s))
most_follow section (u ∷ units) a e (first, head, rest) =
    let more : 3 * (a + u.head.len) + sum_by most_bytes (map head_and_forest units) ≡ 3 * e + 4 * sum_by entries_in units + 10 * sum_by values_in units = most_follow section units (a + u.head.len) e rest in
    let bytes : sum_by most_bytes (map head_and_forest (u ∷ units)) ≡ 3 * u.head.len + 4 * length u.forest.entries + 10 * length u.forest.values + sum_by most_bytes (map head_and_forest units) = sum_by-cons most_bytes (head_and_forest u) (map head_and_forest units) in
    let entries : sum_by entries_in (u ∷ units) ≡ length u.forest.entries + sum_by entries_in units = sum_by-cons entries_in u units in
    let values : sum_by values_in (u ∷ units) ≡ length u.forest.values + sum_by values_in units = sum_by-cons values_in u units in
    omega (arith, more, bytes, entries, values)

-- so those of a file within the narrow limits end below 2^31
pub units_have_room : (world : World) → IsWorldOf world.image Narrow world → sum_by most_bytes world.units < 2 ^ 31
units_have_room world is =
    let all : 3 * 0 + sum_by most_bytes (map head_and_forest is.r.links.units) ≡ 3 * length (debug_info world.image) + 4 * sum_by entries_in is.r.links.units + 10 * sum_by values_in is.r.links.units = most_follow (debug_info world.image) is.r.links.units 0 (length (debug_info world.image)) is.read.links.units.tiled in
    let same : sum_by most_bytes world.units ≡ sum_by most_bytes (map head_and_forest is.r.links.units) = ap (sum_by most_bytes) is.holds.units in
    let short : length (debug_info world.image) ≤ 2 ^ 28 = debug_short world.image info_name refl is.valid in
    let entries : sum_by entries_in is.r.links.units ≤ 2 ^ 24 = omega (arith, is.read.links.units.within.entries) in
    let values : sum_by values_in is.r.links.units ≤ 2 ^ 26 = omega (arith, is.read.links.units.within.values) in
    omega (arith, all, same, short, entries, values)

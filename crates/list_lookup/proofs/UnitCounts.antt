-- How many units a valid file has.
use Rattle.std.proofs.Common.{◌<◌, ◌^◌, ℕ, length, sym, subst}
use Rattle.dw_base.specs.declared.fault.Reach.{Reach}
use Rattle.value_links.specs.Sections.{debug_info, debug_abbrev}
use Rattle.value_links.specs.World.{World, IsWorldOf}
use Rattle.value_links.proofs.HeldUnits.{few_units, held_count}

-- each unit has an entry, so that they are fewer than 2^32
pub units_are_few : (world : World) (reach : Reach) → IsWorldOf world.image reach world → length world.units < 2 ^ 32
units_are_few world reach is =
    let read : length is.r.links.units < 2 ^ 32 = few_units (debug_info world.image) (debug_abbrev world.image) is.r.links.units is.read.links.units in
    subst (λ (z : ℕ). z < 2 ^ 32) (sym (held_count is.r.links.units world.units is.holds.units)) read

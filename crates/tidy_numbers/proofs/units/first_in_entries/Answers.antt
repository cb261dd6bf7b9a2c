use Rattle.std.proofs.Common.{◌≡◌, ◌<◌, ◌^◌, ℕ, length, ap, subst, arith}
use Rattle.tidy_places.specs.Firsts.{IsLeastFound}
use Rattle.tidy_numbers.specs.LongUnits.{IsLongInUnit}
use Rattle.tidy_numbers.specs.inside.LongEntries.{unit_held}
use Rattle.tidy_numbers.proofs.HeldEntries.{few_held, units_looked, table_there, unit_there, unit_more}
use Rattle.tidy_numbers.proofs.units.first_in_entries.Goals as goal

pub overflow_cast-number : goal.overflow_cast-number
overflow_cast-number c =
    let count : c.len-number-end.result ≡ length c.args.world.now.units = omega (arith, ap length c.units-units.ensures) in
    let few : length c.args.world.now.units < 2 ^ 32 = few_held c.args.world.now c.requires in
    omega arith

pub first_in_unit-requires : goal.first_in_unit-requires
first_in_unit-requires c =
    let count : c.len-number-end.result ≡ length c.args.world.now.units = omega (arith, ap length c.units-units.ensures) in
    record {
      table = table_there c.args.world.now c.requires c.loop-number.number (omega arith) c.units-units.result.now.items c.index.result.now c.table-table.result.now c.units-units.ensures c.index.ensures c.table-table.ensures;
      unit = unit_there c.args.world.now c.requires c.loop-number.number (omega arith) c.units-units.result.now.items c.index.result.now c.table-table.result.now c.units-units.ensures c.index.ensures c.table-table.ensures;
    }

pub loop-number-preserved : goal.loop-number-preserved
loop-number-preserved c =
    let count : c.len-number-end.result ≡ length c.args.world.now.units = omega (arith, ap length c.units-units.ensures) in
    unit_more c.args.world.now c.requires c.loop-number.number (omega arith) c.units-units.result.now.items c.index.result.now c.table-table.result.now c.units-units.ensures c.index.ensures c.table-table.ensures c.loop-number.first c.first_in_unit.result c.earlier-first.result c.loop-number.invariant c.first_in_unit.ensures c.earlier-first.ensures

pub returns : goal.returns
returns c =
    let count : c.len-number-end.result ≡ length c.args.world.now.units = omega (arith, ap length c.units-units.ensures) in
    let whole : c.loop-number.number ≡ length c.args.world.now.units = omega arith in
    λ s read holds. units_looked c.args.world.now s holds c.loop-number.first (subst (λ (n : ℕ). IsLeastFound (λ p. (u : ℕ) × (u < n) × IsLongInUnit (unit_held c.args.world.now u) p) c.loop-number.first) whole c.loop-number.invariant)

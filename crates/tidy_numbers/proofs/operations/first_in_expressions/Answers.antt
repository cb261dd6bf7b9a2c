use Rattle.std.proofs.Common.{◌≡◌, ◌<◌, length, ap, arith}
use Rattle.tidy_numbers.proofs.FoundAmong.{below_next}
use Rattle.tidy_numbers.proofs.HeldExpressions.{IsLongOf, forest_there, operations_there, operations_inside, found_held, unit_found, units_found}
use Rattle.tidy_numbers.proofs.operations.first_in_expressions.Goals as goal

pub first_in_values-requires : goal.first_in_values-requires
first_in_values-requires c =
    let world = c.args.world.now in
    let u = c.loop-unit.unit in
    let count : length c.units.result.now.items ≡ length c.args.world.now.units = ap length c.units.ensures in
    let known : c.loop-unit.unit < length c.args.world.now.units = omega (arith, c.loop-unit-test.true, c.len-unit-end.ensures, count) in
    let forest = forest_there world u c.units-in-loop-unit.result.now.items c.index.result.now c.forest-forest.result.now known c.units-in-loop-unit.ensures c.index.ensures c.forest-forest.ensures in
    let held = operations_there world u c.operations.result.now.items c.index-operations.result.now (operations_inside world c.requires.0 c.requires.1 u known) c.operations.ensures c.index-operations.ensures in
    found_held world c.requires.0 c.requires.1 u known c.forest-forest.result.now c.index-operations.result.now forest held

pub loop-unit-preserved : goal.loop-unit-preserved
loop-unit-preserved c =
    let world = c.args.world.now in
    let u = c.loop-unit.unit in
    let count : length c.units.result.now.items ≡ length c.args.world.now.units = ap length c.units.ensures in
    let known : c.loop-unit.unit < length c.args.world.now.units = omega (arith, c.loop-unit-test.true, c.len-unit-end.ensures, count) in
    let forest = forest_there world u c.units-in-loop-unit.result.now.items c.index.result.now c.forest-forest.result.now known c.units-in-loop-unit.ensures c.index.ensures c.forest-forest.ensures in
    below_next (IsLongOf world) u c.loop-unit.found c.first_in_values.result c.earlier-found.result c.loop-unit.invariant (unit_found world u c.forest-forest.result.now c.first_in_values.result forest c.first_in_values.ensures) c.earlier-found.ensures

pub returns : goal.returns
returns c = λ s read holds.
    let count : length c.units.result.now.items ≡ length c.args.world.now.units = ap length c.units.ensures in
    units_found c.args.world.now s c.loop-unit.unit c.loop-unit.found holds (omega (arith, c.loop-unit-test.false, c.len-unit-end.ensures, count)) c.loop-unit.invariant

use Rattle.std.proofs.Common.{◌≤◌, ◌+◌, length, sym, subst}
use Rattle.entry_arena.specs.Arena.{Arena}
use Rattle.same_meaning.proofs.ValueExpressions.{forest_there, value_inside, found_operations, found_linked}
use Rattle.same_meaning.proofs.expressions.held_value.Goals as goal

pub bytes-requires : goal.bytes-requires
bytes-requires c =
    let world = c.args.world.now in
    let forest = forest_there world c.args.unit c.units.result.now.items c.index.result.now c.forest.result.now c.requires.unit c.units.ensures c.index.ensures c.forest.ensures in
    subst (λ (z : Arena). c.args.span.at + c.args.span.len ≤ length z.section) (sym forest) (value_inside world c.requires.world.0 c.requires.world.1 c.args.unit c.requires.unit c.args.number c.args.span c.requires.stands c.units_lie.ensures.lie)

pub returns-clause-ops : goal.returns-clause-ops
returns-clause-ops c =
    let world = c.args.world.now in
    let forest = forest_there world c.args.unit c.units.result.now.items c.index.result.now c.forest.result.now c.requires.unit c.units.ensures c.index.ensures c.forest.ensures in
    found_operations world c.requires.world.0 c.requires.world.1 c.args.unit c.requires.unit c.args.number c.args.span c.requires.stands c.forest.result.now c.bytes.result.now c.operations.result.now.items c.index-2.result.now c.of_value.result.now forest c.bytes.ensures c.operations.ensures c.index-2.ensures c.of_value.ensures c.narrow_is_wide.ensures

pub returns-clause-linked : goal.returns-clause-linked
returns-clause-linked c =
    let world = c.args.world.now in
    let forest = forest_there world c.args.unit c.units.result.now.items c.index.result.now c.forest.result.now c.requires.unit c.units.ensures c.index.ensures c.forest.ensures in
    found_linked world c.requires.world.0 c.requires.world.1 c.args.unit c.requires.unit c.args.number c.args.span c.requires.stands c.forest.result.now c.bytes.result.now c.operations.result.now.items c.index-2.result.now c.of_value.result.now forest c.bytes.ensures c.operations.ensures c.index-2.ensures c.of_value.ensures c.one_reading.ensures.reading c.one_reading-2.ensures c.narrow_is_wide.ensures c.units_lie.ensures.belong

use Rattle.std.proofs.Common.{arith}
use Rattle.sample_maker.specs.Drawn.{function_of, unit_of}
use Rattle.sample_maker.specs.inside.Files.{type_place}
use Rattle.sample_maker.proofs.Joining.{held}
use Rattle.sample_maker.proofs.Entering.{place_one_more}
use Rattle.sample_maker.proofs.SmallUnits.{item_small, function_number, function_size_small}
use Rattle.sample_maker.proofs.units.type_place.Goals as goal

pub function_bytes-place-requires : goal.function_bytes-place-requires
function_bytes-place-requires c =
    let (inside, is) = held c.args.unit.now.functions.items c.deref-function-items.result.now c.loop-function.function-index c.function-item.result c.deref-function-items.ensures.value c.loop-function-test.true c.function-item.is in
    item_small c.args.unit.now.functions.items c.loop-function.function-index c.function-item.result c.requires inside is

pub overflow_add-place : goal.overflow_add-place
overflow_add-place c =
    let (inside, is) = held c.args.unit.now.functions.items c.deref-function-items.result.now c.loop-function.function-index c.function-item.result c.deref-function-items.ensures.value c.loop-function-test.true c.function-item.is in
    let small = item_small c.args.unit.now.functions.items c.loop-function.function-index c.function-item.result c.requires inside is in
    let few = function_number c.args.unit.now.functions.items c.loop-function.function-index c.requires inside in
    record { fits = omega (arith, few, c.loop-function.invariant.low, c.function_bytes-place.ensures, function_size_small (function_of c.function-item.result) small) }

pub loop-function-preserved : goal.loop-function-preserved
loop-function-preserved c =
    let fs = c.args.unit.now.functions.items in
    let i = c.loop-function.function-index in
    let (inside, is) = held fs c.deref-function-items.result.now i c.function-item.result c.deref-function-items.ensures.value c.loop-function-test.true c.function-item.is in
    let small = item_small fs i c.function-item.result c.requires inside is in
    record {
      left = place_one_more fs i c.function-item.result c.loop-function.place c.function_bytes-place.result (type_place (unit_of c.args.unit.now)) inside is c.function_bytes-place.ensures c.loop-function.invariant.left;
      low = omega (arith, c.loop-function.invariant.low, c.function_bytes-place.ensures, function_size_small (function_of c.function-item.result) small);
    }

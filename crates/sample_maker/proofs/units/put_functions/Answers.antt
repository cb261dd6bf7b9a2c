use Rattle.std.proofs.Common.{◌++◌, ◌∙◌, length, arith}
use Rattle.sample_maker.specs.Drawn.{function_of, unit_of}
use Rattle.sample_maker.specs.inside.Files.{function_locations, function_ranges, functions_bytes, unit_locations, unit_ranges}
use Rattle.sample_maker.proofs.Joining.{held, join_one_more}
use Rattle.sample_maker.proofs.Entering.{longer, functions_one_more}
use Rattle.sample_maker.proofs.SmallUnits.{item_small, function_number, function_size_small}
use Rattle.sample_maker.proofs.units.put_functions.Goals as goal

pub function_bytes-sibling-requires : goal.function_bytes-sibling-requires
function_bytes-sibling-requires c =
    let (inside, is) = held c.args.unit.now.functions.items c.deref-function-items.result.now c.loop-i.i c.function-item.result c.deref-function-items.ensures.value c.loop-i-test.true c.function-item.is in
    item_small c.args.unit.now.functions.items c.loop-i.i c.function-item.result c.requires.small inside is

pub overflow_add-sibling : goal.overflow_add-sibling
overflow_add-sibling c =
    let (inside, is) = held c.args.unit.now.functions.items c.deref-function-items.result.now c.loop-i.i c.function-item.result c.deref-function-items.ensures.value c.loop-i-test.true c.function-item.is in
    let small = item_small c.args.unit.now.functions.items c.loop-i.i c.function-item.result c.requires.small inside is in
    let few = function_number c.args.unit.now.functions.items c.loop-i.i c.requires.small inside in
    record { fits = omega (arith, few, c.loop-i.invariant.low, c.function_bytes-sibling.ensures, function_size_small (function_of c.function-item.result) small) }

pub put_function-requires-clause-small : goal.put_function-requires-clause-small
put_function-requires-clause-small c =
    let (inside, is) = held c.args.unit.now.functions.items c.deref-function-items.result.now c.loop-i.i c.function-item.result c.deref-function-items.ensures.value c.loop-i-test.true c.function-item.is in
    item_small c.args.unit.now.functions.items c.loop-i.i c.function-item.result c.requires.small inside is

pub loop-i-preserved : goal.loop-i-preserved
loop-i-preserved c =
    let fs = c.args.unit.now.functions.items in
    let i = c.loop-i.i in
    let old = c.args.sections.now in
    let mid = c.loop-i.sections in
    let new = c.put_function.new.sections in
    let f = c.function-item.result in
    let put = c.in_ok-put_function.ensures in
    let (inside, is) = held fs c.deref-function-items.result.now i f c.deref-function-items.ensures.value c.loop-i-test.true c.function-item.is in
    let small = item_small fs i f c.requires.small inside is in
    record {
      info = functions_one_more c.args.number c.args.base_type i c.loop-i.sibling (length mid.locations.items) (length mid.ranges.items) c.function_bytes-sibling.result (length new.locations.items) (length new.ranges.items) fs f mid.info.items new.info.items (old.info.items ++ functions_bytes c.args.number c.args.base_type 0 46 (length old.locations.items) (length old.ranges.items) (unit_of c.args.unit.now)) inside is c.function_bytes-sibling.ensures (longer mid.locations.items new.locations.items (function_locations i (function_of f)) put.locations) (longer mid.ranges.items new.ranges.items (function_ranges c.args.number i (function_of f)) put.ranges) c.loop-i.invariant.info put.info;
      locations = join_one_more function_of function_locations fs i f mid.locations.items new.locations.items (old.locations.items ++ unit_locations (unit_of c.args.unit.now)) inside is c.loop-i.invariant.locations put.locations;
      ranges = join_one_more function_of (function_ranges c.args.number) fs i f mid.ranges.items new.ranges.items (old.ranges.items ++ unit_ranges c.args.number (unit_of c.args.unit.now)) inside is c.loop-i.invariant.ranges put.ranges;
      lines = put.lines ∙ c.loop-i.invariant.lines;
      aranges = put.aranges ∙ c.loop-i.invariant.aranges;
      low = omega (arith, c.loop-i.invariant.low, c.function_bytes-sibling.ensures, function_size_small (function_of f) small);
    }

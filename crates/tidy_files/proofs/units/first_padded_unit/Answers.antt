use Rattle.std.proofs.Common.{◌<◌, ◌+◌, ◌^◌, ◌∙◌, length, ap, subst, arith}
use Rattle.entry_read.specs.Units.{end_of}
use Rattle.tidy_files.specs.inside.Paddings.{IsTreeEnd}
use Rattle.tidy_files.proofs.PaddedUnits.{all_full, unit_held, unit_counted, full_more, end_counted, unit_inside, padded_least}
use Rattle.tidy_files.proofs.units.first_padded_unit.Goals as goal

pub tree_end-requires-clause-held : goal.tree_end-requires-clause-held
tree_end-requires-clause-held c =
    unit_held c.args.world.now c.requires c.loop-unit.unit-index c.deref-unit-items.result.now (c.deref-unit-items.ensures.value ∙ c.units.ensures) c.loop-unit-test.true c.unit-item.result c.unit-item.is

pub tree_end-requires-clause-room : goal.tree_end-requires-clause-room
tree_end-requires-clause-room c =
    unit_counted c.args.world.now c.requires c.loop-unit.unit-index c.deref-unit-items.result.now (c.deref-unit-items.ensures.value ∙ c.units.ensures) c.loop-unit-test.true c.unit-item.result c.unit-item.is

pub overflow_add-head : goal.overflow_add-head
overflow_add-head c =
    let fits : c.head-head.result.at + c.head-head.result.len < 2 ^ 64 = end_counted c.args.world.now c.requires c.loop-unit.unit-index c.deref-unit-items.result.now (c.deref-unit-items.ensures.value ∙ c.units.ensures) c.loop-unit-test.true c.unit-item.result c.unit-item.is c.head-head.result c.head-head.ensures in
    omega arith

pub offset_in_file-requires : goal.offset_in_file-requires
offset_in_file-requires c =
    unit_inside c.args.world.now c.requires c.loop-unit.unit-index c.deref-unit-items.result.now (c.deref-unit-items.ensures.value ∙ c.units.ensures) c.loop-unit-test.true c.unit-item.result c.unit-item.is c.head-head.result c.head-head.ensures c.as_slice.result.now c.as_slice.ensures

pub returns-then-tree_end-head : goal.returns-then-tree_end-head
returns-then-tree_end-head c =
    padded_least c.args.world.now c.requires c.loop-unit.unit-index c.deref-unit-items.result.now (c.deref-unit-items.ensures.value ∙ c.units.ensures) c.loop-unit-test.true c.unit-item.result c.unit-item.is c.head-head.result c.head-head.ensures c.as_slice.result.now c.as_slice.ensures c.loop-unit.invariant c.tree_end.result c.tree_end.ensures c.if-tree_end-head.true c.offset_in_file.result c.offset_in_file.ensures

pub loop-unit-preserved : goal.loop-unit-preserved
loop-unit-preserved c =
    let end = c.if-tree_end-head.false ∙ ap end_of c.head-head.ensures in
    full_more c.args.world.now c.requires c.loop-unit.unit-index c.deref-unit-items.result.now (c.deref-unit-items.ensures.value ∙ c.units.ensures) c.loop-unit-test.true c.unit-item.result c.unit-item.is c.loop-unit.invariant (subst (IsTreeEnd c.unit-item.result) end c.tree_end.ensures)

pub returns : goal.returns
returns c = all_full c.args.world.now c.requires c.loop-unit.unit-index (omega (arith, ap length (c.deref-unit-items.ensures.value ∙ c.units.ensures))) c.loop-unit.invariant

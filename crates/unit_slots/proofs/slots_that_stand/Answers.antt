use Rattle.std.proofs.Common.{[], refl}
use Rattle.entry_read.specs.Slots.{operations_in}
use Rattle.unit_slots.proofs.WorldUnits.{debug_short, unit_found, operations_found, section_short, operations_there, named_there}
use Rattle.unit_slots.proofs.ListItemsStand.{lists_stand}
use Rattle.unit_slots.proofs.MadeSlots.{own_made, spots_there, done}
use Rattle.unit_slots.proofs.slots_that_stand.Goals as goal

pub own_sizes-requires-clause-operations : goal.own_sizes-requires-clause-operations
own_sizes-requires-clause-operations c =
    let world = c.args.world.now in
    let own_is = unit_found world.units c.units.result.now.items c.args.unit c.index-own.result.now c.requires.unit c.units.ensures c.index-own.ensures in
    let operations_are = operations_found world c.requires.world c.operations.result.now.items c.args.unit c.index-operations.result.now c.requires.unit c.operations.ensures c.index-operations.ensures in
    operations_there world c.requires.world c.args.unit c.requires.unit c.index-own.result.now c.table.result.now c.index-operations.result.now own_is c.table.ensures operations_are

pub own_sizes-requires-clause-short : goal.own_sizes-requires-clause-short
own_sizes-requires-clause-short c =
    let world = c.args.world.now in
    let own_is = unit_found world.units c.units.result.now.items c.args.unit c.index-own.result.now c.requires.unit c.units.ensures c.index-own.ensures in
    let operations_are = operations_found world c.requires.world c.operations.result.now.items c.args.unit c.index-operations.result.now c.requires.unit c.operations.ensures c.index-operations.ensures in
    section_short world c.requires.world c.args.unit c.requires.unit c.index-own.result.now c.table.result.now c.index-operations.result.now own_is c.table.ensures operations_are

pub own_slots-requires-clause-operations : goal.own_slots-requires-clause-operations
own_slots-requires-clause-operations c =
    let world = c.args.world.now in
    let own_is = unit_found world.units c.units.result.now.items c.args.unit c.index-own.result.now c.requires.unit c.units.ensures c.index-own.ensures in
    let operations_are = operations_found world c.requires.world c.operations.result.now.items c.args.unit c.index-operations.result.now c.requires.unit c.operations.ensures c.index-operations.ensures in
    operations_there world c.requires.world c.args.unit c.requires.unit c.index-own.result.now c.table.result.now c.index-operations.result.now own_is c.table.ensures operations_are

pub own_slots-requires-clause-short : goal.own_slots-requires-clause-short
own_slots-requires-clause-short c =
    let world = c.args.world.now in
    let own_is = unit_found world.units c.units.result.now.items c.args.unit c.index-own.result.now c.requires.unit c.units.ensures c.index-own.ensures in
    let operations_are = operations_found world c.requires.world c.operations.result.now.items c.args.unit c.index-operations.result.now c.requires.unit c.operations.ensures c.index-operations.ensures in
    section_short world c.requires.world c.args.unit c.requires.unit c.index-own.result.now c.table.result.now c.index-operations.result.now own_is c.table.ensures operations_are

pub own_slots-requires-clause-named : goal.own_slots-requires-clause-named
own_slots-requires-clause-named c =
    let world = c.args.world.now in
    let own_is = unit_found world.units c.units.result.now.items c.args.unit c.index-own.result.now c.requires.unit c.units.ensures c.index-own.ensures in
    let operations_are = operations_found world c.requires.world c.operations.result.now.items c.args.unit c.index-operations.result.now c.requires.unit c.operations.ensures c.index-operations.ensures in
    named_there world c.requires.world c.args.unit c.requires.unit c.index-own.result.now c.table.result.now c.index-operations.result.now own_is c.table.ensures operations_are

pub push_lists-requires-clause-begun : goal.push_lists-requires-clause-begun
push_lists-requires-clause-begun c =
    let unit = c.index-own.result.now in
    let table = c.table.result.now in
    let operations = c.index-operations.result.now in
    let sizes = c.in_ok-sizes.field-0.sizes.items in
    let starts = c.in_ok-sizes.field-0.starts.items in
    let has = spots_there unit table operations sizes c.deref.result.now starts c.in_ok-spots.spots c.in_ok-sizes.ensures c.deref.ensures.value c.in_ok-spots.ensures in
    (operations_in unit.forest operations, sizes, [], [], has, own_made unit table operations sizes starts c.in_ok-sizes.ensures c.in_ok-slots.slots.items (c.in_ok-slots.ensures sizes has))

pub push_lists-requires-clause-short : goal.push_lists-requires-clause-short
push_lists-requires-clause-short c =
    let world = c.args.world.now in
    let own_is = unit_found world.units c.units.result.now.items c.args.unit c.index-own.result.now c.requires.unit c.units.ensures c.index-own.ensures in
    let operations_are = operations_found world c.requires.world c.operations.result.now.items c.args.unit c.index-operations.result.now c.requires.unit c.operations.ensures c.index-operations.ensures in
    section_short world c.requires.world c.args.unit c.requires.unit c.index-own.result.now c.table.result.now c.index-operations.result.now own_is c.table.ensures operations_are

pub push_lists-requires-clause-lists : goal.push_lists-requires-clause-lists
push_lists-requires-clause-lists c =
    let world = c.args.world.now in
    let own_is = unit_found world.units c.units.result.now.items c.args.unit c.index-own.result.now c.requires.unit c.units.ensures c.index-own.ensures in
    lists_stand world c.requires.world c.args.unit c.requires.unit c.index-own.result.now c.args.lists.now own_is (c.requires.lists c.requires.world.1.r c.requires.world.1.read)

pub push_lists-requires-clause-brief : goal.push_lists-requires-clause-brief
push_lists-requires-clause-brief c = debug_short c.args.world.now.image _ c.requires.world.0 refl c.requires.world.1.valid

pub returns : goal.returns
returns c =
    let world = c.args.world.now in
    let unit = c.index-own.result.now in
    let table = c.table.result.now in
    let operations = c.index-operations.result.now in
    let sizes = c.in_ok-sizes.field-0.sizes.items in
    let starts = c.in_ok-sizes.field-0.starts.items in
    let own_is = unit_found world.units c.units.result.now.items c.args.unit c.index-own.result.now c.requires.unit c.units.ensures c.index-own.ensures in
    let operations_are = operations_found world c.requires.world c.operations.result.now.items c.args.unit c.index-operations.result.now c.requires.unit c.operations.ensures c.index-operations.ensures in
    let has = spots_there unit table operations sizes c.deref.result.now starts c.in_ok-spots.spots c.in_ok-sizes.ensures c.deref.ensures.value c.in_ok-spots.ensures in
    let is = done world c.requires.world c.args.unit c.requires.unit unit table operations own_is c.table.ensures operations_are c.args.lists.now c.requires.lists sizes starts c.in_ok-sizes.ensures c.in_ok-slots.slots.items c.push_lists.new.made.slots.items c.push_lists.new.made.sizes.items
    (c.in_ok-slots.ensures sizes has) (c.in_ok-push_lists.ensures.added (operations_in unit.forest operations) sizes has) in
    record { stand = is.stand; few = is.few; inside = is.inside; fitting = is.fitting; sized = is.sized }

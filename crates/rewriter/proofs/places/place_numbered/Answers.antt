use Rattle.std.proofs.Common.{◌≡◌, ◌≤◌, ◌<◌, ◌+◌, ◌^◌, ℕ, List, length, slice_index, sym, ap, refl, subst, arith}
use Rattle.std.proofs.lemmas.Grind.{common_steps}
use Rattle.dw_base.specs.declared.fault.Reach.TheVariants.{Narrow}
use Rattle.entry_arena.specs.Operations.{HeldOps}
use Rattle.slot_layout.specs.Rows.{most_slots}
use Rattle.fixed_width.specs.InitialLengths.{least_reserved}
use Rattle.unit_write.specs.declared.slots.ListSlot.{ListSlot}
use Rattle.unit_write.specs.Most.{most_bytes}
use Rattle.unit_write.specs.Slots.{AreListSlots}
use Rattle.list_lookup.proofs.UnitCounts.{units_are_few}
use Rattle.rewriter.specs.inside.Placed.{unit_in}
use Rattle.rewriter.proofs.Meant.{taken_is}
use Rattle.rewriter.proofs.Final.{named_is, new_table_is}
use Rattle.rewriter.proofs.TakenLaws.{taken_operations, taken_list_slots, taken_most}
use Rattle.rewriter.proofs.OpNumbers.{operations_count, operations_read}
use Rattle.rewriter.proofs.UnitExpressions.{number_read, operations_there}
use Rattle.rewriter.proofs.PlacedUnits.{has_tables, spots_few, writable_however, spots_there, placed_back}
use Rattle.rewriter.proofs.places.place_numbered.Goals as goal

pub index-operations-requires : goal.index-operations-requires
index-operations-requires c =
    let inside : c.args.number < length c.operations.result.now.items = subst (λ (z : List HeldOps). c.args.number < length z) (sym c.operations.ensures) (operations_count c.args.world.now (Narrow, c.requires.world) c.args.number c.requires.known) in
    grind (arith, common_steps, inside)

pub overflow_cast-number : goal.overflow_cast-number
overflow_cast-number c =
    let few : length c.args.world.now.units < 2 ^ 32 = units_are_few c.args.world.now Narrow c.requires.world in
    let known : c.args.number < length c.args.world.now.units = c.requires.known in
    record { fits = omega (arith, few, known) }

pub overflow_cast-number-2 : goal.overflow_cast-number-2
overflow_cast-number-2 c =
    let few : length c.args.world.now.units < 2 ^ 32 = units_are_few c.args.world.now Narrow c.requires.world in
    let known : c.args.number < length c.args.world.now.units = c.requires.known in
    record { fits = omega (arith, few, known) }

pub index-requires : goal.index-requires
index-requires c =
    let has = has_tables c.args.world.now c.args.tables.now.items c.args.number c.requires.world c.requires.writable c.requires.known in
    let inside : c.args.number < length c.table_numbers.result.now.items = subst (λ (z : List ℕ). c.args.number < length z) (sym c.table_numbers.ensures) has.numbered in
    grind (arith, common_steps, inside)

pub index-requires-2 : goal.index-requires-2
index-requires-2 c =
    let has = has_tables c.args.world.now c.args.tables.now.items c.args.number c.requires.world c.requires.writable c.requires.known in
    let at = number_read c.args.world.now c.args.number c.table_numbers.result.now.items c.index.result.now has.numbered c.table_numbers.ensures c.index.ensures in
    let inside : slice_index c.args.world.now.table_of c.args.number < length c.args.world.now.tables = has.old in
    let size : length c.tables.result.now.items ≡ length c.args.world.now.tables = ap length c.tables.ensures in
    grind (arith, common_steps, at, inside, size)

pub index-new-requires : goal.index-new-requires
index-new-requires c =
    let has = has_tables c.args.world.now c.args.tables.now.items c.args.number c.requires.world c.requires.writable c.requires.known in
    let at = number_read c.args.world.now c.args.number c.table_numbers.result.now.items c.index.result.now has.numbered c.table_numbers.ensures c.index.ensures in
    let inside : slice_index c.args.world.now.table_of c.args.number < length c.args.tables.now.items = has.new in
    grind (arith, common_steps, at, inside)

pub lay_out-requires-clause-operations : goal.lay_out-requires-clause-operations
lay_out-requires-clause-operations c =
    let world = c.args.world.now in
    let operations = operations_read c.args.world.now c.args.number c.operations.result.now.items c.index-operations.result.now (operations_count c.args.world.now (Narrow, c.requires.world) c.args.number c.requires.known) c.operations.ensures c.index-operations.ensures in
    let taken = taken_is world c.args.tables.now.items c.args.number c.written_unit-unit.result.now c.requires.taken c.requires.known c.written_unit-unit.ensures in
    taken_operations (unit_in world.units c.args.number) c.written_unit-unit.result.now taken Narrow c.index-operations.result.now (operations_there world c.args.number (unit_in world.units c.args.number) c.index-operations.result.now c.requires.world c.requires.known refl operations)

pub lay_out-requires-clause-writable : goal.lay_out-requires-clause-writable
lay_out-requires-clause-writable c =
    let operations = operations_read c.args.world.now c.args.number c.operations.result.now.items c.index-operations.result.now (operations_count c.args.world.now (Narrow, c.requires.world) c.args.number c.requires.known) c.operations.ensures c.index-operations.ensures in
    let has = has_tables c.args.world.now c.args.tables.now.items c.args.number c.requires.world c.requires.writable c.requires.known in
    let old = named_is c.args.world.now c.args.number c.tables.result.now.items c.table_numbers.result.now.items c.index.result.now c.index-2.result.now has.numbered has.old c.tables.ensures c.table_numbers.ensures c.index.ensures c.index-2.ensures in
    let new = new_table_is c.args.world.now c.args.tables.now.items c.args.number c.table_numbers.result.now.items c.index.result.now c.index-new.result.now has c.table_numbers.ensures c.index.ensures c.index-new.ensures in
    writable_however c.args.world.now c.args.tables.now.items c.args.number c.written_unit-unit.result.now c.index-operations.result.now c.index-2.result.now c.index-new.result.now c.written_unit-unit.ensures operations old new c.requires.writable c.requires.known

pub lay_out-requires-clause-room : goal.lay_out-requires-clause-room
lay_out-requires-clause-room c =
    let taken = taken_is c.args.world.now c.args.tables.now.items c.args.number c.written_unit-unit.result.now c.requires.taken c.requires.known c.written_unit-unit.ensures in
    let most = taken_most (unit_in c.args.world.now.units c.args.number) c.written_unit-unit.result.now taken in
    omega (arith, most, c.requires.room)

pub lay_out-requires-clause-few : goal.lay_out-requires-clause-few
lay_out-requires-clause-few c =
    let taken = taken_is c.args.world.now c.args.tables.now.items c.args.number c.written_unit-unit.result.now c.requires.taken c.requires.known c.written_unit-unit.ensures in
    let few = spots_few c.args.world.now c.args.number c.written_unit-unit.result.now c.requires.world c.requires.known taken c.in_ok-spots.spots.items c.in_ok-lists.lists.items c.slots_fit.ensures c.in_ok-spots.ensures c.in_ok-lists.ensures.few in
    subst (λ (z : List ListSlot). length c.in_ok-spots.spots.items + length z ≤ most_slots) (sym c.deref.ensures.value) few

pub lay_out-requires-clause-lists : goal.lay_out-requires-clause-lists
lay_out-requires-clause-lists c =
    let taken = taken_is c.args.world.now c.args.tables.now.items c.args.number c.written_unit-unit.result.now c.requires.taken c.requires.known c.written_unit-unit.ensures in
    let (more, told, are) = c.in_ok-lists.ensures.slots in
    (more, subst (AreListSlots c.written_unit-unit.result.now more) (sym c.deref.ensures.value) (taken_list_slots (unit_in c.args.world.now.units c.args.number) c.written_unit-unit.result.now taken more c.in_ok-lists.lists.items are))

pub lay_out-requires-clause-spots : goal.lay_out-requires-clause-spots
lay_out-requires-clause-spots c =
    let operations = operations_read c.args.world.now c.args.number c.operations.result.now.items c.index-operations.result.now (operations_count c.args.world.now (Narrow, c.requires.world) c.args.number c.requires.known) c.operations.ensures c.index-operations.ensures in
    let has = has_tables c.args.world.now c.args.tables.now.items c.args.number c.requires.world c.requires.writable c.requires.known in
    let old = named_is c.args.world.now c.args.number c.tables.result.now.items c.table_numbers.result.now.items c.index.result.now c.index-2.result.now has.numbered has.old c.tables.ensures c.table_numbers.ensures c.index.ensures c.index-2.ensures in
    let new = new_table_is c.args.world.now c.args.tables.now.items c.args.number c.table_numbers.result.now.items c.index.result.now c.index-new.result.now has c.table_numbers.ensures c.index.ensures c.index-new.ensures in
    spots_there c.args.world.now c.args.tables.now.items c.args.number c.written_unit-unit.result.now c.index-operations.result.now c.index-2.result.now c.index-new.result.now c.written_unit-unit.ensures operations old new c.in_ok-spots.spots.items c.in_ok-spots.ensures

pub moved_to-requires-clause-placed : goal.moved_to-requires-clause-placed
moved_to-requires-clause-placed c = (c.written_unit-unit.result.now, c.index-2.result.now.table, c.index-new.result.now.columns.items, c.index-new.result.now.numbers.items, c.in_ok-laid.laid.lens.items, c.in_ok-laid.ensures.placed)

pub moved_to-requires-clause-room : goal.moved_to-requires-clause-room
moved_to-requires-clause-room c =
    let unit = c.written_unit-unit.result.now in
    let old = unit_in c.args.world.now.units c.args.number in
    let taken = taken_is c.args.world.now c.args.tables.now.items c.args.number unit c.requires.taken c.requires.known c.written_unit-unit.ensures in
    let same : most_bytes unit ≡ most_bytes old = taken_most old unit taken in
    let most : c.in_ok-laid.laid.places.end ≤ most_bytes unit = c.in_ok-laid.ensures.most in
    let room : c.args.start + most_bytes old < 2 ^ 31 = c.requires.room in
    omega arith

pub returns-clause-placed : goal.returns-clause-placed
returns-clause-placed c =
    let operations = operations_read c.args.world.now c.args.number c.operations.result.now.items c.index-operations.result.now (operations_count c.args.world.now (Narrow, c.requires.world) c.args.number c.requires.known) c.operations.ensures c.index-operations.ensures in
    let has = has_tables c.args.world.now c.args.tables.now.items c.args.number c.requires.world c.requires.writable c.requires.known in
    let old = named_is c.args.world.now c.args.number c.tables.result.now.items c.table_numbers.result.now.items c.index.result.now c.index-2.result.now has.numbered has.old c.tables.ensures c.table_numbers.ensures c.index.ensures c.index-2.ensures in
    let new = new_table_is c.args.world.now c.args.tables.now.items c.args.number c.table_numbers.result.now.items c.index.result.now c.index-new.result.now has c.table_numbers.ensures c.index.ensures c.index-new.ensures in
    let (more, told, are) = c.in_ok-lists.ensures.slots in
    let taken = taken_is c.args.world.now c.args.tables.now.items c.args.number c.written_unit-unit.result.now c.requires.taken c.requires.known c.written_unit-unit.ensures in
    let listed = subst (AreListSlots c.written_unit-unit.result.now more) (sym c.deref.ensures.value) (taken_list_slots (unit_in c.args.world.now.units c.args.number) c.written_unit-unit.result.now taken more c.in_ok-lists.lists.items are) in
    let same : most_bytes c.written_unit-unit.result.now ≡ most_bytes (unit_in c.args.world.now.units c.args.number) = taken_most (unit_in c.args.world.now.units c.args.number) c.written_unit-unit.result.now taken in
    let most : c.in_ok-laid.laid.places.end ≤ most_bytes c.written_unit-unit.result.now = c.in_ok-laid.ensures.most in
    let end : c.moved_to.result.end ≡ c.args.start + c.in_ok-laid.laid.places.end = c.moved_to.ensures.end in
    let room : c.args.start + most_bytes (unit_in c.args.world.now.units c.args.number) < 2 ^ 31 = c.requires.room in
    let fits : c.moved_to.result.end < least_reserved = omega arith in
    placed_back c.args.world.now c.args.tables.now.items c.args.number c.written_unit-unit.result.now c.index-operations.result.now c.index-2.result.now c.index-new.result.now c.written_unit-unit.ensures operations old new c.in_ok-laid.laid.lens.items c.in_ok-laid.laid.ranks.items c.args.start c.args.records.now.items c.put_record.new.out.items c.moved_to.result
    (record {
      spots = c.in_ok-spots.spots.items;
      named = c.in_ok-spots.ensures;
      owned = c.args.owned.now;
      owns = c.requires.owned;
      more = more;
      told = told;
      lists = c.deref.result.now;
      listed = listed;
      laid_out = c.in_ok-laid.ensures.laid_out more listed;
    })
    c.in_ok-put_record.ensures c.moved_to.ensures.start fits (c.moved_to.ensures.placed c.written_unit-unit.result.now c.index-2.result.now.table c.index-new.result.now.columns.items c.index-new.result.now.numbers.items c.in_ok-laid.laid.lens.items c.in_ok-laid.ensures.placed)

pub returns-clause-most : goal.returns-clause-most
returns-clause-most c =
    let unit = c.written_unit-unit.result.now in
    let old = unit_in c.args.world.now.units c.args.number in
    let taken = taken_is c.args.world.now c.args.tables.now.items c.args.number unit c.requires.taken c.requires.known c.written_unit-unit.ensures in
    let same : most_bytes unit ≡ most_bytes old = taken_most old unit taken in
    let most : c.in_ok-laid.laid.places.end ≤ most_bytes unit = c.in_ok-laid.ensures.most in
    let end : c.moved_to.result.end ≡ c.args.start + c.in_ok-laid.laid.places.end = c.moved_to.ensures.end in
    omega arith

pub spots_of-requires-clause-own : goal.spots_of-requires-clause-own
spots_of-requires-clause-own c =
    taken_is c.args.world.now c.args.tables.now.items c.args.number c.written_unit-unit.result.now c.requires.taken c.requires.known c.written_unit-unit.ensures

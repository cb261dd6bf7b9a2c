use Rattle.std.proofs.Common.{◌≡◌, ◌<◌, ◌^◌, ◌∙◌, ℕ, List, length, sym, ap, refl, subst, arith}
use Rattle.std.proofs.lemmas.Grind.{common_steps}
use Rattle.std.proofs.lemmas.List.Elements.{All-from_get_or}
use Rattle.dw_base.specs.declared.fault.Reach.TheVariants.{Narrow}
use Rattle.entry_arena.specs.Operations.{HeldOps}
use Rattle.rewriter.specs.inside.Tables.{TableAnew}
use Rattle.rewriter.specs.inside.Held.{HasType}
use Rattle.rewriter.proofs.Arranged.{all_placed}
use Rattle.rewriter.proofs.Links.{own_is, placed_read, places_read}
use Rattle.rewriter.proofs.Meant.{taken_is, unit_means, has_type}
use Rattle.rewriter.proofs.Final.{has_anew, new_table_is}
use Rattle.rewriter.proofs.OpNumbers.{operations_count, operations_read}
use Rattle.rewriter.proofs.UnitExpressions.{operations_there, section_room}
use Rattle.rewriter.proofs.NewExpressions.{are_new_numbers}
use Rattle.rewriter.proofs.numbers.new_numbers.Goals as goal

pub new_held-requires-clause-unit : goal.new_held-requires-clause-unit
new_held-requires-clause-unit c =
    let taken = taken_is c.args.world.now c.args.tables.now.items c.args.unit c.args.own.now c.requires.taken c.requires.unit c.requires.own in
    unit_means c.args.world.now c.args.unit Narrow c.requires.world c.requires.unit c.args.own.now taken

pub new_held-requires-clause-placed : goal.new_held-requires-clause-placed
new_held-requires-clause-placed c = all_placed c.args.world.now c.args.tables.now.items c.args.places.now.items c.requires.places.0 c.requires.places.1

pub op_numbers-requires-clause-world : goal.op_numbers-requires-clause-world
op_numbers-requires-clause-world c = (Narrow, c.requires.world)

pub op_numbers-requires-clause-placed : goal.op_numbers-requires-clause-placed
op_numbers-requires-clause-placed c = all_placed c.args.world.now c.args.tables.now.items c.args.places.now.items c.requires.places.0 c.requires.places.1

pub index-operations-requires : goal.index-operations-requires
index-operations-requires c =
    let inside : c.args.unit < length c.operations.result.now.items = subst (λ (z : List HeldOps). c.args.unit < length z) (sym c.operations.ensures) (operations_count c.args.world.now (Narrow, c.requires.world) c.args.unit c.requires.unit) in
    grind (arith, common_steps, inside)

pub write_expressions-requires-clause-operations : goal.write_expressions-requires-clause-operations
write_expressions-requires-clause-operations c =
    let read = own_is c.args.world.now c.args.unit c.units.result.now.items c.index-old.result.now c.requires.unit c.units.ensures c.index-old.ensures in
    let operations = operations_read c.args.world.now c.args.unit c.operations.result.now.items c.index-operations.result.now (operations_count c.args.world.now (Narrow, c.requires.world) c.args.unit c.requires.unit) c.operations.ensures c.index-operations.ensures in
    operations_there c.args.world.now c.args.unit c.index-old.result.now c.index-operations.result.now c.requires.world c.requires.unit read operations

pub write_expressions-requires-clause-room : goal.write_expressions-requires-clause-room
write_expressions-requires-clause-room c =
    let read = own_is c.args.world.now c.args.unit c.units.result.now.items c.index-old.result.now c.requires.unit c.units.ensures c.index-old.ensures in
    let operations = operations_read c.args.world.now c.args.unit c.operations.result.now.items c.index-operations.result.now (operations_count c.args.world.now (Narrow, c.requires.world) c.args.unit c.requires.unit) c.operations.ensures c.index-operations.ensures in
    section_room c.args.world.now c.args.unit c.index-old.result.now c.index-operations.result.now c.requires.world c.requires.unit read operations

pub write_expressions-requires-clause-numbers : goal.write_expressions-requires-clause-numbers
write_expressions-requires-clause-numbers c =
    let operations = operations_read c.args.world.now c.args.unit c.operations.result.now.items c.index-operations.result.now (operations_count c.args.world.now (Narrow, c.requires.world) c.args.unit c.requires.unit) c.operations.ensures c.index-operations.ensures in
    (c.in_ok-numbers.ensures.size ∙ ap (λ (h : HeldOps). length h.ops) (sym operations), All-from_get_or (λ (n : ℕ). n < 2 ^ 32) c.in_ok-numbers.numbers.items 0 c.in_ok-numbers.ensures.fit)

pub new_type_offset-requires-clause-placed : goal.new_type_offset-requires-clause-placed
new_type_offset-requires-clause-placed c =
    let all = all_placed c.args.world.now c.args.tables.now.items c.args.places.now.items c.requires.places.0 c.requires.places.1 in
    placed_read c.args.world.now c.args.places.now.items c.args.unit c.units.result.now.items c.index-old.result.now c.index-new.result.now all c.requires.unit c.units.ensures c.index-old.ensures c.index-new.ensures

pub new_type_offset-requires-clause-typed : goal.new_type_offset-requires-clause-typed
new_type_offset-requires-clause-typed c =
    let read = own_is c.args.world.now c.args.unit c.units.result.now.items c.index-old.result.now c.requires.unit c.units.ensures c.index-old.ensures in
    subst HasType (sym read) (has_type c.args.world.now c.args.unit Narrow c.requires.world c.requires.unit)

pub returns : goal.returns
returns c = record {
  numbers = λ file r holds.
      let read = own_is c.args.world.now c.args.unit c.units.result.now.items c.index-old.result.now c.requires.unit c.units.ensures c.index-old.ensures in
      let operations = operations_read c.args.world.now c.args.unit c.operations.result.now.items c.index-operations.result.now (operations_count c.args.world.now (Narrow, c.requires.world) c.args.unit c.requires.unit) c.operations.ensures c.index-operations.ensures in
      let count : length c.args.places.now.items ≡ length c.args.world.now.units = c.requires.places.1.count in
      let known : c.args.unit < length c.args.world.now.units = c.requires.unit in
      let mine = places_read c.args.places.now.items c.args.unit c.index-new.result.now (omega arith) c.index-new.ensures in
      let has = has_anew c.args.world.now c.requires.tables.0 c.args.tables.now.items c.args.unit (Narrow, c.requires.world) c.requires.tables.3 c.requires.unit in
      let table = new_table_is c.args.world.now c.args.tables.now.items c.args.unit c.table_numbers.result.now.items c.index.result.now c.index-2.result.now has c.table_numbers.ensures c.index.ensures c.index-2.ensures in
      let taken = taken_is c.args.world.now c.args.tables.now.items c.args.unit c.args.own.now c.requires.taken c.requires.unit c.requires.own in
      are_new_numbers file c.args.world.now r c.args.tables.now.items c.args.places.now.items c.args.new_places.now c.args.unit c.index-old.result.now c.args.own.now c.index-new.result.now (record { end = c.index-new.result.now.end; table = c.index-2.result.now.at; type_offset = c.new_type_offset.result; held = c.in_ok-held.held; expressions = c.in_ok-expressions.expressions }) c.requires.world holds c.requires.unit c.requires.own taken c.index-operations.result.now read operations mine refl (ap (λ (t : TableAnew). t.at) table) c.new_type_offset.ensures c.in_ok-held.ensures c.in_ok-numbers.numbers.items c.in_ok-numbers.ensures c.in_ok-expressions.ensures.ends c.in_ok-expressions.ensures.written;
}

use Rattle.std.proofs.Common.{◌≡◌, ◌<◌, length, slice_index, arith}
use Rattle.tidy_tables.specs.inside.WrittenTables.{place_in, NamesOther}
use Rattle.tidy_tables.proofs.TablePlaces.{further_more, further_fine, number_there, written_there, among_all}
use Rattle.tidy_tables.proofs.table_places.first_further.Goals as goal
use Rattle.tidy_tables.proofs.table_places.first_further.Goals.{then-index-number, else-index-number}

pub loop-unit-preserved : goal.loop-unit-preserved
loop-unit-preserved c =
    let written = c.args.written.now.items in
    let old_of = c.args.old_of.now.items in
    let new_of = c.args.new_of.now.items in
    let tables = c.args.tables.now.items in
    let u = c.loop-unit.unit in
    let found = c.loop-unit.least in
    let number = c.index-number.result.now in
    let as_number = c.index-in-loop-unit.result.now in
    let inside : u < length new_of = omega arith in
    let inside_old : u < length old_of = omega arith in
    let number_is : number ≡ slice_index new_of u = number_there new_of u number inside c.index-number.ensures in
    let as_is : as_number ≡ slice_index written (slice_index old_of u) = written_there written old_of u c.index.result.now as_number inside_old (c.requires.known u inside_old) c.index.ensures c.index-in-loop-unit.ensures in
    elim c.if-index-number.branch [
      | then-index-number w ↦ further_more written old_of new_of tables c.requires.numbers u as_number number w.index-then-index-number.result.now found w.lesser-least.result c.if-index-number.least inside as_is number_is c.loop-unit.invariant w.if-index-number.true w.index-then-index-number.ensures w.lesser-least.ensures w.least-is
      | else-index-number w ↦ further_fine written old_of new_of tables u as_number number found c.if-index-number.least as_is number_is c.loop-unit.invariant w.if-index-number.false w.least-is
    ]

pub returns : goal.returns
returns c =
    let same : c.loop-unit.unit ≡ length c.args.new_of.now.items = omega arith in
    among_all (NamesOther c.args.written.now.items c.args.old_of.now.items c.args.new_of.now.items) (λ u. place_in c.args.tables.now.items (slice_index c.args.new_of.now.items u)) c.loop-unit.unit (length c.args.new_of.now.items) c.loop-unit.least same c.loop-unit.invariant

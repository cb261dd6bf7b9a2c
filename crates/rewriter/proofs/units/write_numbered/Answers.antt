use Rattle.std.proofs.Common.{◌≡◌, ◌<◌, length, arith}
use Rattle.dw_base.specs.declared.fault.Reach.TheVariants.{Narrow}
use Rattle.fixed_width.specs.InitialLengths.{least_reserved}
use Rattle.rewriter.specs.inside.Placed.{places_at}
use Rattle.rewriter.proofs.Final.{named_is, new_table_is, has_anew}
use Rattle.rewriter.proofs.Behind.{unit_ends, placed_with, writable_anew, placed_there, written_there, held_counted, ends_there, filled_there, type_none, table_fits}
use Rattle.rewriter.proofs.units.write_numbered.Goals as goal

pub write_unit-requires-clause-ends : goal.write_unit-requires-clause-ends
write_unit-requires-clause-ends c =
    let is = c.requires.world in
    let numbers = c.in_ok-new.ensures.numbers c.args.world.now.image is.r is.holds in
    let has = has_anew c.args.world.now c.args.tables.now.bytes.items c.args.tables.now.tables.items c.args.number (Narrow, c.requires.world) c.requires.tables.1 c.requires.known in
    let unit = c.written_unit-unit.ensures in
    let old = named_is c.args.world.now c.args.number c.tables.result.now.items c.table_numbers.result.now.items c.index.result.now c.index-old.result.now has.numbered has.old c.tables.ensures c.table_numbers.ensures c.index.ensures c.index-old.ensures in
    let anew = new_table_is c.args.world.now c.args.tables.now.tables.items c.args.number c.table_numbers.result.now.items c.index.result.now c.index-anew.result.now has c.table_numbers.ensures c.index.ensures c.index-anew.ensures in
    let placed = placed_with c.args.world.now.image c.args.world.now is.r c.args.tables.now.tables.items c.args.places.now.items c.args.new_places.now c.args.number c.in_ok-new.new is is.holds c.requires.taken c.requires.known numbers c.layouts_hold.ensures (c.requires.places.1.each c.args.number c.requires.known) in
    ((places_at c.args.places.now.items c.args.number).entries, (places_at c.args.places.now.items c.args.number).ends, placed_there c.args.world.now c.args.tables.now.tables.items c.args.number c.written_unit-unit.result.now c.index-old.result.now c.index-anew.result.now unit old anew c.args.world.now.image is.r c.args.places.now.items c.args.new_places.now c.in_ok-new.new is is.holds c.requires.taken c.requires.known numbers (length c.args.info.now.items) c.in_ok-new.new.end c.requires.behind numbers.ends placed)

pub write_unit-requires-clause-fits : goal.write_unit-requires-clause-fits
write_unit-requires-clause-fits c =
    let is = c.requires.world in
    let numbers = c.in_ok-new.ensures.numbers c.args.world.now.image is.r is.holds in
    let below : (places_at c.args.places.now.items c.args.number).end < least_reserved = unit_ends c.args.world.now c.args.tables.now.tables.items c.args.places.now.items c.requires.places.0 c.args.number c.requires.places.1 c.requires.known in
    let same : c.in_ok-new.new.end ≡ (places_at c.args.places.now.items c.args.number).end = numbers.ends in
    omega arith

pub write_unit-requires-clause-writable : goal.write_unit-requires-clause-writable
write_unit-requires-clause-writable c =
    let is = c.requires.world in
    let numbers = c.in_ok-new.ensures.numbers c.args.world.now.image is.r is.holds in
    let has = has_anew c.args.world.now c.args.tables.now.bytes.items c.args.tables.now.tables.items c.args.number (Narrow, c.requires.world) c.requires.tables.1 c.requires.known in
    let unit = c.written_unit-unit.ensures in
    let old = named_is c.args.world.now c.args.number c.tables.result.now.items c.table_numbers.result.now.items c.index.result.now c.index-old.result.now has.numbered has.old c.tables.ensures c.table_numbers.ensures c.index.ensures c.index-old.ensures in
    let anew = new_table_is c.args.world.now c.args.tables.now.tables.items c.args.number c.table_numbers.result.now.items c.index.result.now c.index-anew.result.now has c.table_numbers.ensures c.index.ensures c.index-anew.ensures in
    writable_anew c.args.world.now c.args.tables.now.tables.items c.args.number c.written_unit-unit.result.now c.index-old.result.now c.index-anew.result.now unit old anew c.args.world.now.image is.r c.args.places.now.items c.args.new_places.now c.in_ok-new.new is is.holds c.requires.taken c.requires.known numbers c.requires.writable

pub write_unit-requires-clause-held : goal.write_unit-requires-clause-held
write_unit-requires-clause-held c =
    let is = c.requires.world in
    let numbers = c.in_ok-new.ensures.numbers c.args.world.now.image is.r is.holds in
    let has = has_anew c.args.world.now c.args.tables.now.bytes.items c.args.tables.now.tables.items c.args.number (Narrow, c.requires.world) c.requires.tables.1 c.requires.known in
    let unit = c.written_unit-unit.ensures in
    let old = named_is c.args.world.now c.args.number c.tables.result.now.items c.table_numbers.result.now.items c.index.result.now c.index-old.result.now has.numbered has.old c.tables.ensures c.table_numbers.ensures c.index.ensures c.index-old.ensures in
    let anew = new_table_is c.args.world.now c.args.tables.now.tables.items c.args.number c.table_numbers.result.now.items c.index.result.now c.index-anew.result.now has c.table_numbers.ensures c.index.ensures c.index-anew.ensures in
    (held_counted c.args.world.now c.args.tables.now.tables.items c.args.number c.written_unit-unit.result.now c.index-old.result.now c.index-anew.result.now unit old anew c.args.world.now.image is.r c.args.places.now.items c.args.new_places.now c.in_ok-new.new is is.holds c.requires.taken c.requires.known numbers, numbers.fit)

pub write_unit-requires-clause-expressions : goal.write_unit-requires-clause-expressions
write_unit-requires-clause-expressions c =
    let is = c.requires.world in
    let numbers = c.in_ok-new.ensures.numbers c.args.world.now.image is.r is.holds in
    let has = has_anew c.args.world.now c.args.tables.now.bytes.items c.args.tables.now.tables.items c.args.number (Narrow, c.requires.world) c.requires.tables.1 c.requires.known in
    let unit = c.written_unit-unit.ensures in
    let old = named_is c.args.world.now c.args.number c.tables.result.now.items c.table_numbers.result.now.items c.index.result.now c.index-old.result.now has.numbered has.old c.tables.ensures c.table_numbers.ensures c.index.ensures c.index-old.ensures in
    let anew = new_table_is c.args.world.now c.args.tables.now.tables.items c.args.number c.table_numbers.result.now.items c.index.result.now c.index-anew.result.now has c.table_numbers.ensures c.index.ensures c.index-anew.ensures in
    (ends_there c.args.world.now c.args.tables.now.tables.items c.args.number c.written_unit-unit.result.now c.index-old.result.now c.index-anew.result.now unit old anew c.args.world.now.image is.r c.args.places.now.items c.args.new_places.now c.in_ok-new.new is is.holds c.requires.taken c.requires.known numbers, filled_there c.args.world.now c.args.tables.now.tables.items c.args.number c.written_unit-unit.result.now c.index-old.result.now c.index-anew.result.now unit old anew c.args.world.now.image is.r c.args.places.now.items c.args.new_places.now c.in_ok-new.new is is.holds c.requires.taken c.requires.known numbers)

pub write_unit-requires-clause-narrow : goal.write_unit-requires-clause-narrow
write_unit-requires-clause-narrow c =
    let is = c.requires.world in
    let numbers = c.in_ok-new.ensures.numbers c.args.world.now.image is.r is.holds in
    let has = has_anew c.args.world.now c.args.tables.now.bytes.items c.args.tables.now.tables.items c.args.number (Narrow, c.requires.world) c.requires.tables.1 c.requires.known in
    let unit = c.written_unit-unit.ensures in
    let old = named_is c.args.world.now c.args.number c.tables.result.now.items c.table_numbers.result.now.items c.index.result.now c.index-old.result.now has.numbered has.old c.tables.ensures c.table_numbers.ensures c.index.ensures c.index-old.ensures in
    let anew = new_table_is c.args.world.now c.args.tables.now.tables.items c.args.number c.table_numbers.result.now.items c.index.result.now c.index-anew.result.now has c.table_numbers.ensures c.index.ensures c.index-anew.ensures in
    (table_fits c.args.world.now c.args.tables.now.tables.items c.args.number c.written_unit-unit.result.now c.index-old.result.now c.index-anew.result.now unit old anew c.args.world.now.image is.r c.args.places.now.items c.args.new_places.now c.in_ok-new.new is is.holds c.requires.taken c.requires.known numbers c.args.tables.now.bytes.items c.requires.tables.1 has.old c.requires.narrow, numbers.type_fits)

pub write_unit-requires-clause-type_offset : goal.write_unit-requires-clause-type_offset
write_unit-requires-clause-type_offset c =
    let is = c.requires.world in
    let numbers = c.in_ok-new.ensures.numbers c.args.world.now.image is.r is.holds in
    let has = has_anew c.args.world.now c.args.tables.now.bytes.items c.args.tables.now.tables.items c.args.number (Narrow, c.requires.world) c.requires.tables.1 c.requires.known in
    let unit = c.written_unit-unit.ensures in
    let old = named_is c.args.world.now c.args.number c.tables.result.now.items c.table_numbers.result.now.items c.index.result.now c.index-old.result.now has.numbered has.old c.tables.ensures c.table_numbers.ensures c.index.ensures c.index-old.ensures in
    let anew = new_table_is c.args.world.now c.args.tables.now.tables.items c.args.number c.table_numbers.result.now.items c.index.result.now c.index-anew.result.now has c.table_numbers.ensures c.index.ensures c.index-anew.ensures in
    type_none c.args.world.now c.args.tables.now.tables.items c.args.number c.written_unit-unit.result.now c.index-old.result.now c.index-anew.result.now unit old anew c.args.world.now.image is.r c.args.places.now.items c.args.new_places.now c.in_ok-new.new is is.holds c.requires.taken c.requires.known numbers

pub returns-clause-written : goal.returns-clause-written
returns-clause-written c =
    let is = c.requires.world in
    let numbers = c.in_ok-new.ensures.numbers c.args.world.now.image is.r is.holds in
    let has = has_anew c.args.world.now c.args.tables.now.bytes.items c.args.tables.now.tables.items c.args.number (Narrow, c.requires.world) c.requires.tables.1 c.requires.known in
    let unit = c.written_unit-unit.ensures in
    let old = named_is c.args.world.now c.args.number c.tables.result.now.items c.table_numbers.result.now.items c.index.result.now c.index-old.result.now has.numbered has.old c.tables.ensures c.table_numbers.ensures c.index.ensures c.index-old.ensures in
    let anew = new_table_is c.args.world.now c.args.tables.now.tables.items c.args.number c.table_numbers.result.now.items c.index.result.now c.index-anew.result.now has c.table_numbers.ensures c.index.ensures c.index-anew.ensures in
    record {
      numbers = c.in_ok-new.new;
      numbered = c.in_ok-new.ensures.numbers;
      placed = placed_with c.args.world.now.image c.args.world.now is.r c.args.tables.now.tables.items c.args.places.now.items c.args.new_places.now c.args.number c.in_ok-new.new is is.holds c.requires.taken c.requires.known numbers c.layouts_hold.ensures (c.requires.places.1.each c.args.number c.requires.known);
      written = written_there c.args.world.now c.args.tables.now.tables.items c.args.number c.written_unit-unit.result.now c.index-old.result.now c.index-anew.result.now unit old anew c.in_ok-new.new (places_at c.args.places.now.items c.args.number).start (length c.args.info.now.items) c.write_unit.new.out.items c.requires.behind c.in_ok-write_unit.ensures.written;
    }

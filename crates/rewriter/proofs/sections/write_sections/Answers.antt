use Rattle.std.proofs.Common.{◌∙◌, length, sym, ap, refl, arith}
use Rattle.rewriter.proofs.Arranged.{all_placed}
use Rattle.rewriter.proofs.ListsRead.{list_places, views_held_count, view_places}
use Rattle.rewriter.proofs.SectionsAnew.{parts_of, recorded_of, are_anew, are_for, taken, writable, places_are_new, places_fit}
use Rattle.rewriter.proofs.sections.write_sections.Goals as goal

pub place_units-requires-clause-taken : goal.place_units-requires-clause-taken
place_units-requires-clause-taken c = taken c.args.world.now c.requires.world c.in_ok-tables.tables.bytes.items c.in_ok-tables.tables.tables.items c.in_ok-tables.ensures.written

pub place_units-requires-clause-writable : goal.place_units-requires-clause-writable
place_units-requires-clause-writable c =
    writable c.values_have_sizes.ensures.numbers c.values_have_sizes.ensures.expressions c.values_have_sizes.ensures.others c.args.world.now c.requires.world c.in_ok-tables.tables.bytes.items c.in_ok-tables.tables.tables.items c.in_ok-tables.ensures.written

pub write_kind-requires-clause-placed : goal.write_kind-requires-clause-placed
write_kind-requires-clause-placed c =
    all_placed c.args.world.now c.in_ok-tables.tables.tables.items c.in_ok-places.field-0.places.items c.in_ok-places.ensures.placed.0 c.in_ok-places.ensures.placed.1

pub write_kind-requires-2-clause-placed : goal.write_kind-requires-2-clause-placed
write_kind-requires-2-clause-placed c =
    all_placed c.args.world.now c.in_ok-tables.tables.tables.items c.in_ok-places.field-0.places.items c.in_ok-places.ensures.placed.0 c.in_ok-places.ensures.placed.1

pub moved_views-requires : goal.moved_views-requires
moved_views-requires c =
    let w = c.requires.world in
    views_held_count w.read (c.in_ok-locations.ensures.written w.r w.holds) c.args.world.now w.holds ∙ sym (ap length c.views.ensures)

pub write_units-requires-clause-narrow : goal.write_units-requires-clause-narrow
write_units-requires-clause-narrow c = let fits = c.in_ok-tables.ensures.fits in omega (arith, fits)

pub write_units-requires-clause-taken : goal.write_units-requires-clause-taken
write_units-requires-clause-taken c = taken c.args.world.now c.requires.world c.in_ok-tables.tables.bytes.items c.in_ok-tables.tables.tables.items c.in_ok-tables.ensures.written

pub write_units-requires-clause-writable : goal.write_units-requires-clause-writable
write_units-requires-clause-writable c =
    writable c.values_have_sizes.ensures.numbers c.values_have_sizes.ensures.expressions c.values_have_sizes.ensures.others c.args.world.now c.requires.world c.in_ok-tables.tables.bytes.items c.in_ok-tables.tables.tables.items c.in_ok-tables.ensures.written

pub write_units-requires-clause-new_places : goal.write_units-requires-clause-new_places
write_units-requires-clause-new_places c =
    let w = c.requires.world in
    let fits = c.in_ok-lines.ensures.fits in
    places_are_new _ c.args.world.now c.in_ok-lines.lines.bytes.items _ c.in_ok-lines.ensures.stand (omega (arith, fits))
    (list_places w.read (c.in_ok-ranges.ensures.written w.r w.holds) c.args.world.now w.holds _ refl refl)
    (list_places w.read (c.in_ok-locations.ensures.written w.r w.holds) c.args.world.now w.holds _ refl refl)
    (view_places w.read (c.in_ok-locations.ensures.written w.r w.holds) c.args.world.now w.holds _ (rw c.views.ensures at c.in_ok-moved_views.ensures))

pub write_aranges-requires-clause-fit : goal.write_aranges-requires-clause-fit
write_aranges-requires-clause-fit c =
    places_fit c.args.world.now c.in_ok-tables.tables.tables.items c.in_ok-places.field-0.places.items c.in_ok-places.ensures.placed.0 c.in_ok-places.ensures.placed.1

pub returns-clause-anew : goal.returns-clause-anew
returns-clause-anew c =
    λ r read holds.
    let parts = parts_of holds c.in_ok-lines.ensures.stand (c.in_ok-ranges.ensures.written r holds) (c.in_ok-locations.ensures.written r holds) (rw c.views.ensures at c.in_ok-moved_views.ensures) c.in_ok-tables.ensures.written c.in_ok-places.ensures.placed.1.count c.in_ok-places.ensures.placed.1.each (c.in_ok-info.ensures.written c.args.world.now.image r holds) c.in_ok-aranges.ensures.tiled c.in_ok-aranges.ensures.others c.in_ok-aranges.ensures.size in
    let recorded = recorded_of c.in_ok-certificate.ensures c.in_ok-lines.ensures.records (c.in_ok-ranges.ensures.recorded r holds) (c.in_ok-locations.ensures.recorded r holds) c.in_ok-places.ensures.records in
    are_anew parts read c.ranges_written.ensures c.locations_written.ensures _ _ refl refl refl refl refl refl recorded

pub returns-clause-sections : goal.returns-clause-sections
returns-clause-sections c =
    let w = c.requires.world in
    let parts = parts_of w.holds c.in_ok-lines.ensures.stand (c.in_ok-ranges.ensures.written w.r w.holds) (c.in_ok-locations.ensures.written w.r w.holds) (rw c.views.ensures at c.in_ok-moved_views.ensures) c.in_ok-tables.ensures.written c.in_ok-places.ensures.placed.1.count c.in_ok-places.ensures.placed.1.each (c.in_ok-info.ensures.written c.args.world.now.image w.r w.holds) c.in_ok-aranges.ensures.tiled c.in_ok-aranges.ensures.others c.in_ok-aranges.ensures.size in
    let info = c.in_ok-info.ensures.fits in
    let ranges = c.in_ok-ranges.ensures.fits in
    let locations = c.in_ok-locations.ensures.fits in
    are_for parts w.read w.valid _ refl refl refl refl refl refl (omega (arith, info)) c.in_ok-tables.ensures.fits c.in_ok-lines.ensures.fits (omega (arith, ranges)) (omega (arith, locations))

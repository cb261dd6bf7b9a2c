use Rattle.std.proofs.Common.{◌≡◌, ap, sym, subst, length, arith}
use Rattle.std.proofs.lemmas.Grind.{common_steps}
use Rattle.entry_read.specs.Units.{HeadAndForest}
use Rattle.value_links.specs.Linked.{IsTargetAt}
use Rattle.rewriter.proofs.Links.{section_place, refers_section, section_held, section_moved, moves_read, own_is, placed_read}
use Rattle.rewriter.proofs.numbers.section_number.Goals as goal

pub unreachable-requires : goal.unreachable-requires
unreachable-requires c =
    let m = c.requires.means in
    section_place m.r.links c.args.unit c.args.id c.args.name c.args.old c.link_of.result (c.link_of.ensures m.file m.r m.holds) c.in_default.not-Place

pub index-there-requires : goal.index-there-requires
index-there-requires c =
    let m = c.requires.means in
    let is = section_held m.file c.args.world.now m.r c.args.old c.in-Place.other c.in-Place.target m.holds (refers_section m.r.links c.args.unit c.args.id c.args.name c.args.old c.in-Place.other c.in-Place.target (c.in-Place.ensures m.file m.r m.holds)) in
    grind (arith, common_steps, is.0, ap length c.units.ensures)

pub index-requires : goal.index-requires
index-requires c =
    let m = c.requires.means in
    let is = section_held m.file c.args.world.now m.r c.args.old c.in-Place.other c.in-Place.target m.holds (refers_section m.r.links c.args.unit c.args.id c.args.name c.args.old c.in-Place.other c.in-Place.target (c.in-Place.ensures m.file m.r m.holds)) in
    let size : length c.args.places.now.items ≡ length c.args.world.now.units = c.requires.placed.count in
    grind (arith, common_steps, is.0)

pub new_place-requires-clause-placed : goal.new_place-requires-clause-placed
new_place-requires-clause-placed c =
    let m = c.requires.means in
    let is = section_held m.file c.args.world.now m.r c.args.old c.in-Place.other c.in-Place.target m.holds (refers_section m.r.links c.args.unit c.args.id c.args.name c.args.old c.in-Place.other c.in-Place.target (c.in-Place.ensures m.file m.r m.holds)) in
    placed_read c.args.world.now c.args.places.now.items c.in-Place.other c.units.result.now.items c.index-there.result.now c.index.result.now c.requires.placed is.0 c.units.ensures c.index-there.ensures c.index.ensures

pub new_place-requires-clause-stands : goal.new_place-requires-clause-stands
new_place-requires-clause-stands c =
    let m = c.requires.means in
    let is = section_held m.file c.args.world.now m.r c.args.old c.in-Place.other c.in-Place.target m.holds (refers_section m.r.links c.args.unit c.args.id c.args.name c.args.old c.in-Place.other c.in-Place.target (c.in-Place.ensures m.file m.r m.holds)) in
    let there = own_is c.args.world.now c.in-Place.other c.units.result.now.items c.index-there.result.now is.0 c.units.ensures c.index-there.ensures in
    subst (λ (h : HeadAndForest). IsTargetAt h.forest c.in-Place.target c.args.old) (sym there) is.1

pub returns-clause-number : goal.returns-clause-number
returns-clause-number c = λ new_places file r holds.
    let m = c.requires.means in
    let is = section_held m.file c.args.world.now m.r c.args.old c.in-Place.other c.in-Place.target m.holds (refers_section m.r.links c.args.unit c.args.id c.args.name c.args.old c.in-Place.other c.in-Place.target (c.in-Place.ensures m.file m.r m.holds)) in
    section_moved file c.args.world.now r c.args.places.now.items c.in-Place.other c.args.old c.new_place.result holds is.0 (moves_read c.args.world.now c.args.places.now.items c.in-Place.other c.units.result.now.items c.index-there.result.now c.index.result.now c.args.old c.new_place.result c.requires.placed is.0 c.units.ensures c.index-there.ensures c.index.ensures c.new_place.ensures.moves)

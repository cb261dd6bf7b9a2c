use Rattle.std.proofs.Common.{◌+◌, sym, subst}
use Rattle.entry_read.specs.Units.{HeadAndForest}
use Rattle.value_links.specs.Linked.{IsTargetAt}
use Rattle.rewriter.proofs.Links.{local_place, refers_local, local_held, own_is, placed_read}
use Rattle.rewriter.proofs.numbers.local_number.Goals as goal

pub unreachable-requires : goal.unreachable-requires
unreachable-requires c =
    let m = c.requires.means in
    local_place m.r.links c.args.unit c.args.id c.args.name c.args.old c.link_of.result (c.link_of.ensures m.file m.r m.holds) c.in_default.not-Place

pub new_place-requires-clause-placed : goal.new_place-requires-clause-placed
new_place-requires-clause-placed c =
    placed_read c.args.world.now c.args.places.now.items c.args.unit c.units.result.now.items c.index-own.result.now c.index-new.result.now c.requires.placed c.requires.unit c.units.ensures c.index-own.ensures c.index-new.ensures

pub new_place-requires-clause-stands : goal.new_place-requires-clause-stands
new_place-requires-clause-stands c =
    let m = c.requires.means in
    let stands = local_held m.file c.args.world.now m.r c.args.unit c.args.old c.in-Place.target m.holds (refers_local m.r.links c.args.unit c.args.id c.args.name c.args.old c.in-Place.field-0 c.in-Place.target (c.in-Place.ensures m.file m.r m.holds)) in
    let own = own_is c.args.world.now c.args.unit c.units.result.now.items c.index-own.result.now c.requires.unit c.units.ensures c.index-own.ensures in
    subst (IsTargetAt c.index-own.result.now.forest c.in-Place.target) (sym c.place_in.ensures) (subst (λ (h : HeadAndForest). IsTargetAt h.forest c.in-Place.target (h.head.at + c.args.old)) (sym own) stands)

pub place_in-requires : goal.place_in-requires
place_in-requires c =
    let m = c.requires.means in
    let stands = local_held m.file c.args.world.now m.r c.args.unit c.args.old c.in-Place.target m.holds (refers_local m.r.links c.args.unit c.args.id c.args.name c.args.old c.in-Place.field-0 c.in-Place.target (c.in-Place.ensures m.file m.r m.holds)) in
    let own = own_is c.args.world.now c.args.unit c.units.result.now.items c.index-own.result.now c.requires.unit c.units.ensures c.index-own.ensures in
    (c.in-Place.target, subst (λ (h : HeadAndForest). IsTargetAt h.forest c.in-Place.target (h.head.at + c.args.old)) (sym own) stands)

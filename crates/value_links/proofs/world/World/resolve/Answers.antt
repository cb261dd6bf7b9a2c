use Rattle.std.proofs.Common.{◌<◌, List, length, sym, subst}
use Rattle.form_codec.specs.Values.{meant_in}
use Rattle.value_links.specs.Sections.{debug_info, debug_abbrev}
use Rattle.value_links.specs.Reading.{UnitRead, unit_among}
use Rattle.value_links.specs.Links.{held_at}
use Rattle.value_links.specs.World.{World}
use Rattle.value_links.specs.inside.World.{IsHeldIn}
use Rattle.value_links.proofs.HeldLists.{lists_held}
use Rattle.value_links.proofs.HeldLinks.{link_held}
use Rattle.value_links.proofs.world.World.resolve.Goals as goal

pub returns : goal.returns
returns c = λ file r holds.
    let world : World = c.args.self.now in
    let held : IsHeldIn world.image c.self.inside.parts world = subst (λ (w : World). IsHeldIn w.image c.self.inside.parts w) c.self.view_is c.self.invariant in
    link_held world c.self.inside.parts held file r holds c.args.unit c.args.id c.args.name (λ (us : List UnitRead). meant_in (unit_among us c.args.unit).forest.section c.args.value.now) c.resolve.result (λ f s parts. c.resolve.ensures f s parts)

pub resolve-requires-clause-lists : goal.resolve-requires-clause-lists
resolve-requires-clause-lists c =
    let world : World = c.args.self.now in
    let held : IsHeldIn world.image c.self.inside.parts world = subst (λ (w : World). IsHeldIn w.image c.self.inside.parts w) c.self.view_is c.self.invariant in
    lists_held world.image held.is.r.links c.self.inside.parts held.parts_are

pub resolve-requires-clause-held : goal.resolve-requires-clause-held
resolve-requires-clause-held c =
    let world : World = c.args.self.now in
    let held : IsHeldIn world.image c.self.inside.parts world = subst (λ (w : World). IsHeldIn w.image c.self.inside.parts w) c.self.view_is c.self.invariant in
    (debug_info world.image, debug_abbrev world.image, record { read = held.is.r.links.units; units = held.parts_are.read.units; holds = held.parts_are.units })

pub resolve-requires-clause-id : goal.resolve-requires-clause-id
resolve-requires-clause-id c = subst (λ (w : World). c.args.id < length (held_at w.units c.args.unit).forest.entries) (sym c.self.view_is) c.requires.id

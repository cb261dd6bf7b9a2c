use Rattle.std.proofs.Common.{subst}
use Rattle.value_links.specs.World.{World}
use Rattle.value_links.specs.inside.World.{IsHeldIn}
use Rattle.value_links.proofs.HeldLinks.{place_held}
use Rattle.value_links.proofs.world.World.resolve_place.Goals as goal

pub returns : goal.returns
returns c = λ file r holds.
    let world : World = c.args.self.now in
    let held : IsHeldIn world.image c.self.inside.parts world = subst (λ (w : World). IsHeldIn w.image c.self.inside.parts w) c.self.view_is c.self.invariant in
    place_held world c.self.inside.parts held file r holds c.args.place c.section_entry.result c.section_entry.ensures

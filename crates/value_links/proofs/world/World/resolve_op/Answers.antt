use Rattle.std.proofs.Common.{subst}
use Rattle.value_links.specs.World.{World}
use Rattle.value_links.specs.inside.World.{IsHeldIn}
use Rattle.value_links.proofs.HeldLinks.{op_link_held}
use Rattle.value_links.proofs.world.World.resolve_op.Goals as goal

pub returns : goal.returns
returns c = λ file r holds.
    let world : World = c.args.self.now in
    let held : IsHeldIn world.image c.self.inside.parts world = subst (λ (w : World). IsHeldIn w.image c.self.inside.parts w) c.self.view_is c.self.invariant in
    op_link_held world c.self.inside.parts held file r holds c.args.unit c.args.op.now c.resolve_op.result c.resolve_op.ensures

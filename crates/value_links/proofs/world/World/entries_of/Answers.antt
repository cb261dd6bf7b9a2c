use Rattle.std.proofs.Common.{subst}
use Rattle.value_links.specs.World.{World}
use Rattle.value_links.specs.inside.World.{IsHeldIn}
use Rattle.value_links.proofs.NumberedValues.{own_stands, own_owners}
use Rattle.value_links.proofs.world.World.entries_of.Goals as goal

pub returns-clause-table : goal.returns-clause-table
returns-clause-table c =
    let world : World = c.args.self.now in
    let held : IsHeldIn world.image c.self.inside.parts world = subst (λ (w : World). IsHeldIn w.image c.self.inside.parts w) c.self.view_is c.self.invariant in
    own_stands world held.reach held.is c.args.unit c.requires

pub returns-clause-owned : goal.returns-clause-owned
returns-clause-owned c =
    let world : World = c.args.self.now in
    let held : IsHeldIn world.image c.self.inside.parts world = subst (λ (w : World). IsHeldIn w.image c.self.inside.parts w) c.self.view_is c.self.invariant in
    own_owners world held.reach held.is c.args.unit c.requires

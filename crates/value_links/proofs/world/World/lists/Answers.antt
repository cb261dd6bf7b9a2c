use Rattle.std.proofs.Common.{sym, ap, subst}
use Rattle.list_model.specs.declared.entry.ListKind.TheVariants.{Ranges, Locations}
use Rattle.list_arena.specs.Held.{AreListsApart}
use Rattle.value_links.specs.World.{World}
use Rattle.value_links.specs.inside.World.{IsHeldIn}
use Rattle.value_links.proofs.Followed.{lists_apart}
use Rattle.value_links.proofs.world.World.lists.Goals as goal

pub returns-in-Ranges-clause-rising : goal.returns-in-Ranges-clause-rising
returns-in-Ranges-clause-rising c =
    let world : World = c.args.self.now in
    let held : IsHeldIn world.image c.self.inside.parts world = subst (λ (w : World). IsHeldIn w.image c.self.inside.parts w) c.self.view_is c.self.invariant in
    let apart : AreListsApart world.ranges = lists_apart held.is.r.links Ranges held.is.r.range_lists world.ranges (held.is.read.lists Ranges) (held.is.holds.lists Ranges) in
    subst AreListsApart (sym (ap (λ (w : World). w.ranges) c.self.view_is)) apart

pub returns-in-Locations-clause-rising : goal.returns-in-Locations-clause-rising
returns-in-Locations-clause-rising c =
    let world : World = c.args.self.now in
    let held : IsHeldIn world.image c.self.inside.parts world = subst (λ (w : World). IsHeldIn w.image c.self.inside.parts w) c.self.view_is c.self.invariant in
    let apart : AreListsApart world.locations = lists_apart held.is.r.links Locations held.is.r.location_lists world.locations (held.is.read.lists Locations) (held.is.holds.lists Locations) in
    subst AreListsApart (sym (ap (λ (w : World). w.locations) c.self.view_is)) apart

use Rattle.std.proofs.Common.{List, ℕ, sym, subst}
use Rattle.value_links.specs.declared.link.Link.{Link}
use Rattle.value_links.specs.declared.link.Link.TheVariants.{List as AtList}
use Rattle.value_links.specs.Reading.{Reading}
use Rattle.value_links.specs.ListPlaces.{IsSlot}
use Rattle.value_links.specs.Links.{IsFollowed}
use Rattle.value_links.specs.declared.list_places.Contributions.{Contributions}
use Rattle.value_links.specs.Parts.{section_held}
use Rattle.value_links.specs.World.{World, Holds}
use Rattle.value_links.specs.inside.World.{IsHeldIn}
use Rattle.value_links.proofs.Followed.{slot_follows}
use Rattle.value_links.proofs.world.World.followed.Goals as goal

pub returns-in-Slot : goal.returns-in-Slot
returns-in-Slot c = λ (file : List ℕ) (r : Reading) (holds : Holds file c.args.self.now r).
    let world : World = c.args.self.now in
    let held : IsHeldIn world.image c.self.inside.parts world = subst (λ (w : World). IsHeldIn w.image c.self.inside.parts w) c.self.view_is c.self.invariant in
    let (other, s, to, own, followed) = c.requires in
    let slot = subst (λ (z : Contributions). IsSlot (section_held z) c.in-Slot.part c.in-Slot.slot c.told_by.result) c.lists.ensures c.told_by.ensures in
    let told = subst (λ (z : Link). IsFollowed s.links z to) c.in-Slot.is followed in
    subst (λ (z : Link). IsFollowed r.links z (AtList c.in-Slot.kind c.told_by.result)) (sym c.in-Slot.is) (slot_follows world c.self.inside.parts held c.in-Slot.kind c.in-Slot.part c.in-Slot.slot c.told_by.result slot file other r s holds own to told)

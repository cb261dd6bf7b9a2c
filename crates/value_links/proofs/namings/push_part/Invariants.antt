use Rattle.value_links.specs.Parts.{section_held}
use Rattle.value_links.specs.inside.Namings.{AreJoined, IsSlotNaming, AreSlotsFollowed}
use Rattle.value_links.proofs.namings.push_part.Given as goal

abbrev pub invariant-loop-slot : goal.invariant-loop-slot
invariant-loop-slot l = AreJoined l.fn.namings.items l.namings.items (IsSlotNaming (section_held l.contributions) l.part l.slot) × AreSlotsFollowed (section_held l.contributions) l.part l.slot

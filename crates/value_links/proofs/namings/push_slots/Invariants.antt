use Rattle.value_links.specs.Parts.{section_held}
use Rattle.value_links.specs.inside.Namings.{AreJoined, IsPartNaming, ArePartsFollowed}
use Rattle.value_links.proofs.namings.push_slots.Given as goal

abbrev pub invariant-loop-part : goal.invariant-loop-part
invariant-loop-part l = AreJoined l.fn.namings.items l.namings.items (IsPartNaming (section_held l.contributions) l.part) × ArePartsFollowed (section_held l.contributions) l.part

use Rattle.std.proofs.Common.{ℕ, below_more}
use Rattle.value_links.specs.Reading.{ListSection, part_at}
use Rattle.value_links.specs.Parts.{section_held}
use Rattle.value_links.specs.inside.Namings.{IsSlotNaming, AreSlotsFollowed}
use Rattle.value_links.proofs.NamingLists.{below_next}
use Rattle.value_links.proofs.namings.push_slots.Goals as goal

pub loop-part-preserved : goal.loop-part-preserved
loop-part-preserved c =
    let section : ListSection = section_held c.args.contributions.now in (
      below_next (λ p y. IsSlotNaming section p (part_at section p).slots y) c.args.namings.now.items c.loop-part.namings.items c.push_part.new.namings.items c.loop-part.part c.loop-part.invariant.0 c.in_ok-push_part.ensures.joined,
      below_more (λ (p : ℕ). AreSlotsFollowed section p (part_at section p).slots) c.loop-part.part c.loop-part.invariant.1 c.in_ok-push_part.ensures.followed,
    )

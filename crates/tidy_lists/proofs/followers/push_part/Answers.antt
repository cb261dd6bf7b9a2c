use Rattle.std.proofs.Common.{◌≡◌, ◌<◌, ℕ, arith}
use Rattle.std.proofs.lemmas.Grind.{common_steps}
use Rattle.value_links.specs.Reading.{of_kind, part_at}
use Rattle.value_links.specs.World.{contribution_at}
use Rattle.tidy_lists.specs.inside.NamedNumbers.{ArePairedBySlot}
use Rattle.tidy_lists.proofs.AddedPairs.{below_next, below_all}
use Rattle.tidy_lists.proofs.SlotLists.{slots_are}
use Rattle.tidy_lists.proofs.followers.push_part.Goals as goal

pub loop-slot-preserved : goal.loop-slot-preserved
loop-slot-preserved c = λ r s read holds also held.
    below_next (ArePairedBySlot c.args.kind r s c.args.part) c.loop-slot.slot c.args.pairs.now.items c.loop-slot.pairs.items c.push_slot.new.pairs.items (c.loop-slot.invariant r s read holds also held) (c.in_ok-push_slot.ensures r s read holds also held)

pub returns : goal.returns
returns c = λ r s read holds also held.
    let a = c.args.before.now in
    let b = c.args.after.now in
    let kind = c.args.kind in
    let p : ℕ = c.args.part in
    let first : (contribution_at a kind p).slots ≡ (part_at (of_kind r.links kind) p).slots = slots_are a r kind p holds in
    let second : (contribution_at b kind p).slots ≡ (part_at (of_kind s.links kind) p).slots = slots_are b s kind p held in
    below_all (ArePairedBySlot kind r s p) c.loop-slot.slot c.args.pairs.now.items c.loop-slot.pairs.items (λ i k m (here, there).
    (let before : i < (part_at (of_kind r.links kind) p).slots = here.1.0.counted in
    let after : i < (part_at (of_kind s.links kind) p).slots = there.1.0.counted in
    grind (arith, common_steps))) (c.loop-slot.invariant r s read holds also held)

use Rattle.tidy_lists.specs.inside.NamedNumbers.{ArePairedBySlot}
use Rattle.tidy_lists.proofs.AddedPairs.{adds_one, on_ok}
use Rattle.tidy_lists.proofs.ToldNumbers.{slots_only}
use Rattle.tidy_lists.proofs.followers.push_slot.Goals as goal

pub returns : goal.returns
returns c = on_ok c.push_pair.result (λ adds r s read holds also held.
    adds_one (ArePairedBySlot c.args.kind r s c.args.part c.args.slot) c.named_by_slot-old.result c.named_by_slot-new.result c.args.pairs.now.items c.push_pair.new.pairs.items adds
    (slots_only c.args.kind r s c.args.part c.args.slot c.named_by_slot-old.result c.named_by_slot-new.result (c.named_by_slot-old.ensures r read holds) (c.named_by_slot-new.ensures s also held))) c.push_pair.ensures

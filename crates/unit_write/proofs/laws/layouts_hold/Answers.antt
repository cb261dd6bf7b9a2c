use Rattle.unit_write.proofs.SlotLayouts.{layouts_hold}
use Rattle.unit_write.proofs.laws.layouts_hold.Goals as goal

pub returns : goal.returns
returns c = layouts_hold c.needed_are_shortest.ensures c.lengths_split.ensures

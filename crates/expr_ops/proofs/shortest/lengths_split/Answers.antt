use Rattle.expr_ops.proofs.SizeSplits.{lengths_split}
use Rattle.expr_ops.proofs.shortest.lengths_split.Goals as goal

pub returns : goal.returns
returns c = lengths_split

use Rattle.line_sums.proofs.Bound.{no_shorter}
use Rattle.line_sums.proofs.no_shorter.Goals as goal

pub returns : goal.returns
returns c = no_shorter

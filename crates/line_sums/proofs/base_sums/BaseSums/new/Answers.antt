use Rattle.line_sums.proofs.RunningLaws.{sums_none}
use Rattle.line_sums.proofs.base_sums.BaseSums.new.Goals as goal

pub returns : goal.returns
returns c = λ place h. rw c.in_ok-zeros.ensures (sums_none 257 place)

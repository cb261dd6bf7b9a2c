use Rattle.line_sums.proofs.RunningLaws.{sums_none}
use Rattle.line_sums.proofs.base_sums.BaseSums.clear.Goals as goal

pub returns : goal.returns
returns c = λ place h. rw (c.fill.ensures.items (λ y is. is)) (sums_none _ place)

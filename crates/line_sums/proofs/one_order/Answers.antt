use Rattle.line_sums.proofs.Ordering.{one_order}
use Rattle.line_sums.proofs.one_order.Goals as goal

pub returns : goal.returns
returns c = one_order

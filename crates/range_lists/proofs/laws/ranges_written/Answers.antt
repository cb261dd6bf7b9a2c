use Rattle.range_lists.proofs.RangeLaws.{written}
use Rattle.range_lists.proofs.laws.ranges_written.Goals as goal

pub returns : goal.returns
returns c = written

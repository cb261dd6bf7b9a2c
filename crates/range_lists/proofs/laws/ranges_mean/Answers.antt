use Rattle.range_lists.proofs.RangeLaws.{one_meaning, items_whole}
use Rattle.range_lists.proofs.laws.ranges_mean.Goals as goal

pub returns-clause-one : goal.returns-clause-one
returns-clause-one c = one_meaning c.entries_say.ensures.said c.entries_say.ensures.walk

pub returns-clause-whole : goal.returns-clause-whole
returns-clause-whole c = items_whole c.entries_say.ensures.whole

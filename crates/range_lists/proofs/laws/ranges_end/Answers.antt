use Rattle.range_lists.proofs.RangeLaws.{ranges_once, one_list, spelled, ranges_whole}
use Rattle.range_lists.proofs.laws.ranges_end.Goals as goal

pub returns-clause-unique : goal.returns-clause-unique
returns-clause-unique c = let law = c.entries_end.ensures in ranges_once law.unique law.apart law.whole law.ended

pub returns-clause-one : goal.returns-clause-one
returns-clause-one c = let law = c.entries_end.ensures in one_list law.unique law.apart law.whole law.ended

pub returns-clause-spelled : goal.returns-clause-spelled
returns-clause-spelled c = spelled

pub returns-clause-whole : goal.returns-clause-whole
returns-clause-whole c = let law = c.entries_end.ensures in ranges_whole law.unique law.apart law.whole law.ended

use Rattle.loc_lists.proofs.ItemLaws.{one_meaning, items_whole, items_said, bounds_each, bounds_counted}
use Rattle.loc_lists.proofs.laws.locations_mean.Goals as goal

pub returns-clause-one : goal.returns-clause-one
returns-clause-one c = one_meaning c.entries_say.ensures.said c.entries_say.ensures.walk

pub returns-clause-whole : goal.returns-clause-whole
returns-clause-whole c = items_whole c.entries_say.ensures.whole

pub returns-clause-items : goal.returns-clause-items
returns-clause-items c = items_said

pub returns-clause-each : goal.returns-clause-each
returns-clause-each c = bounds_each

pub returns-clause-counted : goal.returns-clause-counted
returns-clause-counted c = bounds_counted

use Rattle.loc_lists.proofs.LocationLaws.{once, apart, faultless, locations_once, one_list, spelled, locations_whole}
use Rattle.loc_lists.proofs.laws.locations_end.Goals as goal

pub returns-clause-entries : goal.returns-clause-entries
returns-clause-entries c = let law = c.entries_end.ensures in once law.unique law.apart law.whole law.ended

pub returns-clause-apart : goal.returns-clause-apart
returns-clause-apart c = let law = c.entries_end.ensures in apart law.unique law.apart law.whole law.ended

pub returns-clause-sound : goal.returns-clause-sound
returns-clause-sound c = let law = c.entries_end.ensures in faultless law.unique law.apart law.whole law.ended

pub returns-clause-unique : goal.returns-clause-unique
returns-clause-unique c = let law = c.entries_end.ensures in locations_once law.unique law.apart law.whole law.ended

pub returns-clause-one : goal.returns-clause-one
returns-clause-one c = let law = c.entries_end.ensures in one_list law.unique law.apart law.whole law.ended

pub returns-clause-spelled : goal.returns-clause-spelled
returns-clause-spelled c = spelled

pub returns-clause-whole : goal.returns-clause-whole
returns-clause-whole c = let law = c.entries_end.ensures in locations_whole law.unique law.apart law.whole law.ended

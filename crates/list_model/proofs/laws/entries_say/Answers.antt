use Rattle.list_model.proofs.WalkLaws.{one_saying, one_walk, closest_base, walk_whole, walk_settled}
use Rattle.list_model.proofs.laws.entries_say.Goals as goal

pub returns-clause-said : goal.returns-clause-said
returns-clause-said c = one_saying

pub returns-clause-walk : goal.returns-clause-walk
returns-clause-walk c = one_walk

pub returns-clause-whole : goal.returns-clause-whole
returns-clause-whole c = walk_whole

pub returns-clause-settled : goal.returns-clause-settled
returns-clause-settled c = walk_settled

pub returns-clause-closest : goal.returns-clause-closest
returns-clause-closest c = closest_base

use Rattle.list_model.proofs.EntryLaws.{entries_once, entries_whole, ends_whole}
use Rattle.list_model.proofs.laws.entries_end.Goals as goal

pub returns-clause-unique : goal.returns-clause-unique
returns-clause-unique c = entries_once

pub returns-clause-whole : goal.returns-clause-whole
returns-clause-whole c = entries_whole

pub returns-clause-ended : goal.returns-clause-ended
returns-clause-ended c = ends_whole

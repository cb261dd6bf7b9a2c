use Rattle.loc_lists.proofs.ViewLaws.{one_run, runs_whole, views_whole}
use Rattle.loc_lists.proofs.laws.views_read.Goals as goal

pub returns-clause-one : goal.returns-clause-one
returns-clause-one c = one_run

pub returns-clause-runs : goal.returns-clause-runs
returns-clause-runs c = runs_whole

pub returns-clause-whole : goal.returns-clause-whole
returns-clause-whole c = views_whole

use Rattle.check_lists.proofs.Verdicts.{never_both, one_refused}
use Rattle.check_lists.proofs.one_verdict.Goals as goal

pub returns-clause-never_both : goal.returns-clause-never_both
returns-clause-never_both c = never_both

pub returns-clause-one_refused : goal.returns-clause-one_refused
returns-clause-one_refused c = one_refused

use Rattle.entry_arena.proofs.RunLaws.{whole_runs}
use Rattle.entry_arena.proofs.PreorderLaws.{preorders_are_forests}
use Rattle.entry_arena.proofs.laws.runs.Goals as goal

pub returns-clause-walks : goal.returns-clause-walks
returns-clause-walks c = whole_runs

pub returns-clause-preorders : goal.returns-clause-preorders
returns-clause-preorders c = preorders_are_forests

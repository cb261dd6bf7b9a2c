use Rattle.entry_arena.proofs.SpellingLaws.{forest_spelled, forest_found, forests_end}
use Rattle.entry_arena.proofs.laws.forests_spelled.Goals as goal

pub returns-clause-told : goal.returns-clause-told
returns-clause-told c = forest_spelled

pub returns-clause-found : goal.returns-clause-found
returns-clause-found c = forest_found

pub returns-clause-ends : goal.returns-clause-ends
returns-clause-ends c = forests_end

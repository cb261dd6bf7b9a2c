use Rattle.entry_arena.proofs.FrontLaws.{walks_spelled, comes_to_entry, comes_to_end}
use Rattle.entry_arena.proofs.laws.places_follow.Goals as goal

pub returns-clause-spelled : goal.returns-clause-spelled
returns-clause-spelled c = walks_spelled

pub returns-clause-entries : goal.returns-clause-entries
returns-clause-entries c = comes_to_entry

pub returns-clause-ends : goal.returns-clause-ends
returns-clause-ends c = comes_to_end

use Rattle.entry_arena.proofs.StandingLaws.{entries_stand}
use Rattle.entry_arena.proofs.laws.entries_stand.Goals as goal

pub returns : goal.returns
returns c = entries_stand

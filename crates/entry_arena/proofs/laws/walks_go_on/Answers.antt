use Rattle.entry_arena.proofs.OnwardLaws.{walks_go_on as go_on}
use Rattle.entry_arena.proofs.laws.walks_go_on.Goals as goal

pub returns : goal.returns
returns c = go_on

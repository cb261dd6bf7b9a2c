use Rattle.list_arena.specs.inside.Lists.{entry_held}
use Rattle.list_arena.proofs.lists.entry_of.Goals as goal

pub returns : goal.returns
unfolding entry_held
returns c = cc

use Rattle.list_arena.specs.inside.Lists.{item_held}
use Rattle.list_arena.proofs.lists.item_of.Goals as goal

pub returns : goal.returns
unfolding item_held
returns c = cc

use Rattle.list_arena.specs.inside.Views.{pair_held}
use Rattle.list_arena.proofs.views.pair_of.Goals as goal

pub returns : goal.returns
unfolding pair_held
returns c = cc

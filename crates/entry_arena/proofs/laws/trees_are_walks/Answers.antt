use Rattle.entry_arena.proofs.TreeLaws.{trees_are_walks}
use Rattle.entry_arena.proofs.laws.trees_are_walks.Goals as goal

pub returns : goal.returns
returns c = trees_are_walks

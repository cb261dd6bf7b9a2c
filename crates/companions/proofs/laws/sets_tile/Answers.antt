use Rattle.companions.proofs.Tiling.{one_tile, sets_whole}
use Rattle.companions.proofs.laws.sets_tile.Goals as goal

pub returns-clause-unique : goal.returns-clause-unique
returns-clause-unique c = λ section starts sets others rising. one_tile section starts sets others 0 rising

pub returns-clause-whole : goal.returns-clause-whole
returns-clause-whole c = sets_whole

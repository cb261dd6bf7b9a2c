use Rattle.list_model.proofs.Tiling.{one_tile, parts_whole, one_holder}
use Rattle.list_model.proofs.laws.contributions_tile.Goals as goal

pub returns-clause-unique : goal.returns-clause-unique
returns-clause-unique c = λ section parts others. one_tile section parts others 0

pub returns-clause-whole : goal.returns-clause-whole
returns-clause-whole c = parts_whole

pub returns-clause-holder : goal.returns-clause-holder
returns-clause-holder c = one_holder

use Rattle.entry_read.proofs.RiseLaws.{units_rise}
use Rattle.entry_read.proofs.Tiling.{one_tile, heads_whole}
use Rattle.entry_read.proofs.laws.heads_tile.Goals as goal

pub returns-clause-unique : goal.returns-clause-unique
returns-clause-unique c = λ info heads others. one_tile info heads others 0

pub returns-clause-whole : goal.returns-clause-whole
returns-clause-whole c = heads_whole

pub returns-clause-rise : goal.returns-clause-rise
returns-clause-rise c = units_rise

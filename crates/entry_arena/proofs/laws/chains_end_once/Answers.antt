use Rattle.entry_arena.proofs.EndLaws.{whole_ends}
use Rattle.entry_arena.proofs.laws.chains_end_once.Goals as goal

pub returns : goal.returns
returns c section ds start forest whole = whole_ends ds section start forest whole

use Rattle.unit_write.proofs.Placed.{one_placing}
use Rattle.unit_write.proofs.ValueLaws.{one_size}
use Rattle.unit_write.proofs.laws.one_placing.Goals as goal

pub returns : goal.returns
returns c = one_placing one_size

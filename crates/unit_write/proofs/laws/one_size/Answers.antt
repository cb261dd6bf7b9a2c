use Rattle.unit_write.proofs.ValueLaws.{one_size}
use Rattle.unit_write.proofs.laws.one_size.Goals as goal

pub returns : goal.returns
returns c = one_size

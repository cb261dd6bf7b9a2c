use Rattle.std.proofs.lemmas.List.{take_rest}
use Rattle.fixed_width.specs.Numbers.{number}
use Rattle.fixed_width.proofs.read.u32_at.Goals as goal

pub returns : goal.returns
unfolding number
returns c = rw take_rest at c.read_u32.ensures

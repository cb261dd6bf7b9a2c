use Rattle.std.proofs.Common.{refl}
use Rattle.entry_arena.specs.inside.Values.{values_held}
use Rattle.entry_arena.proofs.values.Values.new.Goals as goal

pub returns : goal.returns
unfolding values_held
returns c = rw c.new.ensures.items refl

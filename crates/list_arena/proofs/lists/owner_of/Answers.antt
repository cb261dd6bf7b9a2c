use Rattle.std.proofs.Common.{arith}
use Rattle.std.proofs.lemmas.Bool.Decides.{nat_tests}
use Rattle.list_arena.specs.inside.Lists.{owner_held}
use Rattle.list_arena.proofs.lists.owner_of.Goals as goal

pub returns-then-number-eq-NO_OWNER : goal.returns-then-number-eq-NO_OWNER
unfolding owner_held
returns-then-number-eq-NO_OWNER c = grind (arith, nat_tests)

pub returns-else-number-eq-NO_OWNER : goal.returns-else-number-eq-NO_OWNER
unfolding owner_held
returns-else-number-eq-NO_OWNER c = grind (arith, nat_tests)

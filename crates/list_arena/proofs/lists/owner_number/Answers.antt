use Rattle.std.proofs.Common.{sym, arith}
use Rattle.std.proofs.lemmas.Bool.Decides.{nat_tests}
use Rattle.list_arena.specs.inside.Lists.{owner_held}
use Rattle.list_arena.proofs.lists.owner_number.Goals as goal

pub returns-in-None : goal.returns-in-None
unfolding owner_held
returns-in-None c = sym c.in-None.is

pub returns-in-Some : goal.returns-in-Some
unfolding owner_held
returns-in-Some c = grind (arith, nat_tests)

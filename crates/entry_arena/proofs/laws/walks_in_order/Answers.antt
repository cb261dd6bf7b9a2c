use Rattle.entry_arena.proofs.WalkPlaces.{walked_orderly}
use Rattle.entry_arena.proofs.laws.walks_in_order.Goals as goal

pub returns-clause-order : goal.returns-clause-order
returns-clause-order c = λ section ds start items now chains walked. (walked_orderly section ds start items now chains walked).order

pub returns-clause-after : goal.returns-clause-after
returns-clause-after c = λ section ds start items now chains walked. (walked_orderly section ds start items now chains walked).after

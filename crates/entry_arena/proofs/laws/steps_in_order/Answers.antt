use Rattle.entry_arena.proofs.WalkPlaces.{walked_orderly, walked_value, entry_next, end_next}
use Rattle.entry_arena.proofs.laws.steps_in_order.Goals as goal

pub returns-clause-value : goal.returns-clause-value
returns-clause-value c = walked_value

pub returns-clause-entry : goal.returns-clause-entry
returns-clause-entry c = λ section ds start items now chains walked number new added. entry_next section ds number now new chains (walked_orderly section ds start items now chains walked) added

pub returns-clause-chain_end : goal.returns-clause-chain_end
returns-clause-chain_end c = λ section ds start items now chains walked id outer new e added. end_next section id now new chains outer (walked_orderly section ds start items now chains walked) e added

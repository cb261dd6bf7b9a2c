use Rattle.entry_arena.proofs.GrowingLaws.{sections_grow, walks_push}
use Rattle.entry_arena.proofs.laws.walks_stay.Goals as goal

pub returns-clause-stay : goal.returns-clause-stay
returns-clause-stay c = sections_grow

pub returns-clause-push : goal.returns-clause-push
returns-clause-push c = walks_push

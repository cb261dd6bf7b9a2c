use Rattle.std.specs.Prelude.{◌≡◌, ℕ, List}
use Rattle.list_model.specs.declared.context.Context.{Context}
use Rattle.list_model.specs.declared.item.Item.{Item}
use Rattle.list_least.specs.inside.Ways.{IsSearched, IsWay}
use Rattle.list_least.proofs.forward.picks_of.Given as goal

abbrev pub invariant-loop-i : goal.invariant-loop-i
invariant-loop-i l = (addr : List ℕ) (context : Context) (items : List Item) → context.base ≡ l.first_base → IsSearched addr context items l.costs l.potentials l.choices → IsWay l.list addr context items l.potentials l.i l.base l.picks.items l.left

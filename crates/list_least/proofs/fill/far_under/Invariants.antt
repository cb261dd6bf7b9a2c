use Rattle.std.specs.Prelude.{◌≤◌, ◌<◌, ◌^◌, ◌*◌, ◌-◌, ℕ, List, map, drop}
use Rattle.list_model.specs.declared.context.Context.{Context}
use Rattle.list_model.specs.declared.item.Item.{Item}
use Rattle.list_least.specs.Plans.{bounds_of}
use Rattle.list_least.specs.inside.Search.{AreAllCosts}
use Rattle.list_least.specs.inside.Ways.{IsScanned}
use Rattle.list_least.proofs.fill.far_under.Given as goal

abbrev pub invariant-loop-at : goal.invariant-loop-at
invariant-loop-at l =
    (l.sum ≤ 17 * (l.at - l.from))
    × (l.best < 2 ^ 64)
    × ((addr : List ℕ) (context : Context) (items : List Item) → AreAllCosts addr context items l.costs → IsScanned addr context l.base (map bounds_of (drop l.from items)) (drop l.from l.potentials) (l.at - l.from) l.sum l.best)

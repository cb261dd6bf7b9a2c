use Rattle.std.specs.Prelude.{◌≡◌, ◌≤◌, ◌+◌, ◌-◌, ℕ, List, length, slice_index}
use Rattle.list_model.specs.declared.context.Context.{Context}
use Rattle.list_model.specs.declared.item.Item.{Item}
use Rattle.list_least.specs.inside.Search.{AreAllCosts}
use Rattle.list_least.specs.inside.Ways.{AreFilled}
use Rattle.list_least.proofs.fill.left_under.Given as goal

abbrev pub invariant-loop-i : goal.invariant-loop-i
invariant-loop-i l =
    (l.from ≤ l.i)
    × (l.i ≤ l.to)
    × (length l.bytes.items ≡ l.to - l.i + 1)
    × (l.left ≡ slice_index l.bytes.items (l.to - l.i))
    × ((addr : List ℕ) (context : Context) (items : List Item) → AreAllCosts addr context items l.costs → AreFilled addr context l.base items l.potentials l.i l.to l.bytes.items)

abbrev pub decreases-loop-i : goal.decreases-loop-i
decreases-loop-i l = l.i

use Rattle.std.proofs.Common.{◌≡◌, ◌<◌, ℕ, length}
use Rattle.list_model.specs.declared.entry.ListKind.TheVariants.{Ranges}
use Rattle.list_least.specs.Plans.{bounds_of, IsItemOf, item_at}
use Rattle.measure.proofs.ranges.items_of.Given as goal

abbrev pub invariant-loop-i : goal.invariant-loop-i
invariant-loop-i l = (length l.items.items ≡ l.i) × ((i : ℕ) → i < length l.items.items → IsItemOf Ranges (bounds_of (item_at l.items.items i)))

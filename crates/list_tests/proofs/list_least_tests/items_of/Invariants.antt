use Rattle.std.proofs.Common.{◌≡◌, ◌<◌, ℕ, length}
use Rattle.list_model.specs.declared.entry.ListKind.TheVariants.{Ranges}
use Rattle.list_least.specs.Plans.{bounds_of, IsItemOf, item_at}
use Rattle.list_tests.proofs.list_least_tests.items_of.Given as goal

abbrev pub invariant-loop-start : goal.invariant-loop-start
invariant-loop-start l = (length l.items.items ≡ l.start-index) × ((i : ℕ) → i < length l.items.items → IsItemOf Ranges (bounds_of (item_at l.items.items i)))

use Rattle.std.proofs.Common.{◌<◌, ℕ, length, slice_index_or}
use Rattle.list_model.specs.declared.item.Item.{Item}
use Rattle.same_meaning.specs.inside.Lists.{CoversSame}
use Rattle.same_meaning.proofs.lists.have_same_bounds.Given as goal

abbrev pub invariant-loop-old : goal.invariant-loop-old
invariant-loop-old l = (k : ℕ) (d : Item) → k < length l.yielded → CoversSame (slice_index_or l.before k d) (slice_index_or l.after k d)

use Rattle.std.proofs.Common.{◌<◌, ℕ, length, slice_index_or}
use Rattle.list_model.specs.declared.entry.RawEntry.{RawEntry}
use Rattle.same_meaning.specs.inside.Lists.{IsSameEntry}
use Rattle.same_meaning.proofs.lists.have_same_entries.Given as goal

abbrev pub invariant-loop-old : goal.invariant-loop-old
invariant-loop-old l = (k : ℕ) (d : RawEntry) → k < length l.yielded → IsSameEntry (slice_index_or l.before k d) (slice_index_or l.after k d)

use Rattle.std.proofs.Common.{◌≡◌, ◌+◌, length}
use Rattle.std.specs.Prelude.{slice_range}
use Rattle.rewriter.specs.inside.Runs.{AreRunsUpTo}
use Rattle.rewriter.proofs.lists.runs_with.Given as goal

abbrev pub invariant-loop-number : goal.invariant-loop-number
invariant-loop-number l = (l.from + length l.runs.items ≡ l.number) × AreRunsUpTo (slice_range l.views l.from l.to) l.list (length l.runs.items) l.runs.items

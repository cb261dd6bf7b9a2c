use Rattle.std.specs.Prelude.{◌≤◌}
use Rattle.tidy_lists.proofs.LooseSpans.{AreWalked}
use Rattle.tidy_lists.proofs.loose.first_gap.Given as goal

abbrev pub invariant-loop-start : goal.invariant-loop-start
invariant-loop-start l = AreWalked l.spans l.start-index l.covered × (l.covered ≤ l.end)

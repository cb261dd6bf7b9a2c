use Rattle.std.specs.Prelude.{◌≤◌}
use Rattle.list_least.specs.inside.Search.{AddsDown}
use Rattle.list_least.proofs.runs.push_run.Given as goal

abbrev pub invariant-loop-bottom : goal.invariant-loop-bottom
invariant-loop-bottom l = (l.lowest ≤ l.bottom) × (l.bottom ≤ l.top) × AddsDown l.costs l.gain l.top l.bottom l.fn.runs.items l.runs.items

abbrev pub decreases-loop-bottom : goal.decreases-loop-bottom
decreases-loop-bottom l = l.bottom

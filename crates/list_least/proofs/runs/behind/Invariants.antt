use Rattle.std.specs.Prelude.{◌+◌}
use Rattle.list_least.specs.inside.Search.{IsBehindTo}
use Rattle.list_least.proofs.runs.behind.Given as goal

abbrev pub invariant-loop-i : goal.invariant-loop-i
invariant-loop-i l = IsBehindTo l.costs l.most l.fn.runs.items (l.from + l.i) l.new.items

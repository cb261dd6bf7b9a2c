use Rattle.check_records.specs.inside.Pushed.{AddsLists}
use Rattle.check_records.proofs.parts.push_lists.Given as goal

abbrev pub invariant-loop-number : goal.invariant-loop-number
invariant-loop-number l = AddsLists l.classes l.world l.kind l.number l.fn.parts.items l.parts.items

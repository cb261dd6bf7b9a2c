use Rattle.std.proofs.Common.{take}
use Rattle.value_links.specs.Reading.{Linkable}
use Rattle.value_links.specs.inside.Checks.{InEach}
use Rattle.value_links.proofs.ListOperations.{AreOpsRead}
use Rattle.value_links.proofs.list_expressions.read_expression.Given as goal

abbrev pub invariant-loop-op : goal.invariant-loop-op
invariant-loop-op l = InEach l.parts (λ (r : Linkable). AreOpsRead r l.list.owner l.list.torn (take l.op-index l.op-items))

use Rattle.std.proofs.Common.{take}
use Rattle.value_links.specs.Reading.{Linkable}
use Rattle.value_links.specs.inside.Checks.{InEach}
use Rattle.value_links.proofs.ExprLinks.{AreNamed}
use Rattle.value_links.proofs.operations.check_expression.Given as goal

abbrev pub invariant-loop-op : goal.invariant-loop-op
invariant-loop-op l = InEach l.parts (λ (r : Linkable). AreNamed r l.unit (take l.op-index l.ops))

use Rattle.entry_arena.specs.Operations.{ops_of, for_value}
use Rattle.unit_write.proofs.ExprLaws.{AreGathered}
use Rattle.unit_write.proofs.expressions.new_refs.Given as goal

abbrev pub invariant-loop-op : goal.invariant-loop-op
invariant-loop-op l = AreGathered (ops_of l.operations l.number) (for_value l.operations l.numbers.items l.number) l.refs.items l.op-iterator.a.rest.now l.op-iterator.b.rest.now

use Rattle.expr_ops.proofs.SimplePuts.{ArePut}
use Rattle.expr_ops.proofs.simple.put_simple.Given as goal

abbrev pub invariant-loop-op : goal.invariant-loop-op
invariant-loop-op l = ArePut l.refs l.bytes l.ops l.fn.out.items l.out.items l.op-index l.ref_at

use Rattle.std.proofs.Common.{refl, arith}
use Rattle.list_least.proofs.Free.{free_is, free_few}
use Rattle.list_least.proofs.costs.costs_between.Goals as goal

pub returns : goal.returns
returns c = record {
  bounds = refl;
  indexes = λ h. (c.index_of-first.ensures, c.index_of-last.ensures);
  free = free_is c.args.addr.now c.args.context.now c.args.start c.args.end c.index_of-first.result c.index_of-last.result c.free_bytes.result c.index_of-first.ensures c.index_of-last.ensures c.free_bytes.ensures;
  few = omega (arith, c.free_bytes.ensures, free_few c.args.addr.now c.args.context.now c.args.start c.args.end c.index_of-first.result c.index_of-last.result);
}

use Rattle.std.proofs.lemmas.Result.{on_ok_weaker}
use Rattle.list_write.proofs.Putting.{pair_put}
use Rattle.list_write.proofs.list.put_pair.Goals as goal

pub returns : goal.returns
returns c = on_ok_weaker c.put_u-2.result (pair_put (record { first = c.args.first; last = c.args.last }) c.args.out.now.items c.put_u.new.out.items c.put_u-2.new.out.items c.ranges.first.fits c.ranges.last.fits c.in_ok-put_u.ensures.ok) c.put_u-2.ensures.ok

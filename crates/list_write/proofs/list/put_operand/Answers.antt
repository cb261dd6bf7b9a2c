use Rattle.std.proofs.lemmas.Result.{on_ok_weaker}
use Rattle.list_write.proofs.Putting.{address_put}
use Rattle.list_write.proofs.list.put_operand.Goals as goal

pub returns-in-Address : goal.returns-in-Address
returns-in-Address c = on_ok_weaker c.put_low.result (address_put c.args.operand c.args.value c.args.out.now.items c.put_low.new.out.items c.in-Address.is) c.put_low.ensures.ok

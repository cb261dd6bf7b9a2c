use Rattle.std.proofs.lemmas.Result.{on_ok_weaker}
use Rattle.line_params.proofs.Written.{address_written}
use Rattle.line_params.proofs.write.put_set_address.Goals as goal

pub returns-clause-ok : goal.returns-clause-ok
returns-clause-ok c =
    on_ok_weaker c.put_with_u64.result (address_written c.args.address c.args.out.now.items c.put_extended.new.out.items c.put_with_u64.new.out.items c.in_ok-put_extended.ensures.ok) c.put_with_u64.ensures.ok

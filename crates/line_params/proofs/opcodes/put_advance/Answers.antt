use Rattle.std.proofs.lemmas.Result.{on_ok_weaker}
use Rattle.line_params.proofs.Appending.{adds_advance}
use Rattle.line_params.proofs.opcodes.put_advance.Goals as goal

pub returns : goal.returns
returns c =
    on_ok_weaker c.put_fixed.result (adds_advance c.args.advance c.args.out.now.items c.put_if.new.out.items c.put_times.new.out.items c.put_fixed.new.out.items c.in_ok-put_if.ensures c.in_ok-put_times.ensures) c.put_fixed.ensures

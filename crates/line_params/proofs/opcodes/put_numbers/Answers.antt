use Rattle.std.proofs.lemmas.Result.{on_ok_weaker}
use Rattle.line_params.proofs.Appending.{adds_numbers}
use Rattle.line_params.proofs.opcodes.put_numbers.Goals as goal

pub returns : goal.returns
returns c =
    on_ok_weaker c.put_if-3.result (adds_numbers c.args.from.now c.args.row.now c.args.out.now.items c.put_if.new.out.items c.put_if-2.new.out.items c.put_if-3.new.out.items c.in_ok-put_if.ensures c.in_ok-put_if-2.ensures) c.put_if-3.ensures

use Rattle.std.proofs.lemmas.Result.{on_ok_weaker}
use Rattle.line_params.proofs.Appending.{adds_marks}
use Rattle.line_params.proofs.opcodes.put_marks.Goals as goal

pub returns : goal.returns
returns c =
    on_ok_weaker c.put_if-5.result (adds_marks c.args.from.now c.args.row.now c.args.out.now.items c.put_if.new.out.items c.put_if-2.new.out.items c.put_if-3.new.out.items c.put_if-4.new.out.items c.put_if-5.new.out.items c.in_ok-put_if.ensures c.in_ok-put_if-2.ensures c.in_ok-put_if-3.ensures c.in_ok-put_if-4.ensures) c.put_if-5.ensures

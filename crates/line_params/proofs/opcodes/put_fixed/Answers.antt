use Rattle.std.proofs.Common.{◌-◌, refl, arith}
use Rattle.std.proofs.lemmas.Result.{on_ok_weaker}
use Rattle.line_params.proofs.Appending.{adds_fixed}
use Rattle.line_params.proofs.opcodes.put_fixed.Goals as goal

pub returns : goal.returns
returns c =
    on_ok_weaker c.put_opcode.result (adds_fixed c.args.count (c.args.count - 1) c.args.total c.from.result _ c.args.out.now.items c.put_times.new.out.items c.put_opcode.new.out.items (omega arith) c.from.ensures refl c.in_ok-put_times.ensures) c.put_opcode.ensures.ok

use Rattle.std.proofs.lemmas.Result.{on_ok_weaker}
use Rattle.line_params.proofs.Appending.{adds_end}
use Rattle.line_params.proofs.Full.{way_full}
use Rattle.line_params.proofs.opcodes.put_end.Goals as goal

pub put_address-requires : goal.put_address-requires
put_address-requires c = way_full c.args.range c.args.min c.args.distance c.advance_way-way.result c.advance_way-way.ensures.way

pub returns : goal.returns
returns c =
    on_ok_weaker c.put_opcode.result (adds_end c.args.range c.args.min c.args.distance c.args.address c.advance_way-way.result c.args.out.now.items c.put_address.new.out.items c.put_opcode.new.out.items c.advance_way-way.ensures.way c.in_ok-put_address.ensures) c.put_opcode.ensures.ok

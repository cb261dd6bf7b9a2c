use Rattle.line_params.proofs.Appending.{adds_none, adds_more}
use Rattle.line_params.proofs.opcodes.put_times.Goals as goal

pub loop-done-init : goal.loop-done-init
loop-done-init c = adds_none c.args.out.now.items

pub loop-done-preserved : goal.loop-done-preserved
loop-done-preserved c =
    adds_more c.loop-done._done c.args.opcode c.args.out.now.items c.loop-done.out.items c.put_opcode.new.out.items c.loop-done.invariant c.in_ok-put_opcode.ensures.ok

use Rattle.std.proofs.Common.{replicate}
use Rattle.line_params.specs.inside.Appended.{AppendsOpcodes}
use Rattle.line_params.proofs.opcodes.put_times.Given as goal

abbrev pub invariant-loop-done : goal.invariant-loop-done
invariant-loop-done l = AppendsOpcodes (replicate l._done l.opcode) l.fn.out.items l.out.items

use Rattle.std.proofs.Common.{◌≡◌, ◌++◌, drop, map}
use Rattle.sample_maker.specs.Numbered.{join_from}
use Rattle.sample_maker.specs.Drawn.{function_of, unit_of}
use Rattle.sample_maker.specs.inside.Bytes.{sequence_bytes, opcodes_bytes}
use Rattle.sample_maker.proofs.lines.opcodes_of.Given as goal

abbrev pub invariant-loop-i : goal.invariant-loop-i
invariant-loop-i l = l.opcodes.items ++ join_from (sequence_bytes l.number) l.i (map function_of (drop l.i l.unit.functions.items)) ≡ opcodes_bytes l.number (unit_of l.unit)

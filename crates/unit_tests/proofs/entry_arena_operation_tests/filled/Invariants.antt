use Rattle.entry_arena.specs.Operations.{ComesLast}
use Rattle.unit_tests.proofs.entry_arena_operation_tests.filled.Given as goal

abbrev pub invariant-loop-number : goal.invariant-loop-number
invariant-loop-number g l = ComesLast l.held.runs l.last

use Rattle.std.proofs.Common.{sym, arith}
use Rattle.entry_arena.proofs.OperationLaws.{last_is}
use Rattle.entry_arena.proofs.operations.ends_with.Goals as goal

pub returns-then-count-gt0 : goal.returns-then-count-gt0
returns-then-count-gt0 c = sym (last_is c.args.runs.now c.args.value _ (omega (arith, c.if-count-gt0.true)))

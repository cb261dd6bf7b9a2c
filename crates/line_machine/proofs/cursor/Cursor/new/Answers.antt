use Rattle.std.proofs.Common.{refl}
use Rattle.line_machine.proofs.Passing.{near_start, stands_at_start}
use Rattle.line_machine.proofs.cursor.Cursor.new.Goals as goal

pub invariant_of-result : goal.invariant_of-result
invariant_of-result c = near_start c.args.head.now c.start.result (c.start.ensures c.args.head.now refl)

pub returns-clause-start : goal.returns-clause-start
returns-clause-start c = c.start.ensures c.args.head.now refl

pub returns-clause-stands : goal.returns-clause-stands
returns-clause-stands c = λ section h. stands_at_start section c.args.head.now c.args.origin c.start.result (c.start.ensures c.args.head.now refl) h

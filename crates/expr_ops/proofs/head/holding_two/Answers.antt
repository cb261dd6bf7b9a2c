use Rattle.expr_ops.proofs.head.holding_two.Goals as goal

pub returns-in-Unsigned-Unsigned-clause-lies : goal.returns-in-Unsigned-Unsigned-clause-lies
returns-in-Unsigned-Unsigned-clause-lies c = λ size first second. c.holding-head.ensures.lies size first

pub returns-in-Unsigned-Signed-clause-lies : goal.returns-in-Unsigned-Signed-clause-lies
returns-in-Unsigned-Signed-clause-lies c = λ size first second. c.holding-head.ensures.lies size first

pub returns-clause-lies : goal.returns-clause-lies
returns-clause-lies c = λ size first second. c.holding-head.ensures.lies size first

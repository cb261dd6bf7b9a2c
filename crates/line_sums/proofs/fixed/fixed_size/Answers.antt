use Rattle.line_sums.proofs.FixedBytes.{fixed_all}
use Rattle.line_sums.proofs.fixed.fixed_size.Goals as goal

pub returns-clause-is : goal.returns-clause-is
returns-clause-is c = fixed_all c.args.stmt c.loop-row.from c.args.rows.now c.loop-row.row-index c.loop-row.bytes _ c.loop-row-test.false c.loop-row.invariant.all

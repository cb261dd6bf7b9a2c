use Rattle.std.proofs.Common.{arith}
use Rattle.dw_base.specs.declared.fault.Reach.TheVariants.{Narrow}
use Rattle.expr_ops.proofs.PlainLaws.{expression_sized}
use Rattle.expr_ops.proofs.NeededFew.{shortest_less}
use Rattle.expr_ops.proofs.bounds.shortest_is_few.Goals as goal

pub returns : goal.returns
returns c = λ refs os bytes old small.
    let less = shortest_less refs os small in
    let thrice = (expression_sized Narrow os bytes old).thrice in
    omega (arith, less, thrice)

use Rattle.std.proofs.Common.{arith}
use Rattle.tidy_numbers.specs.inside.Expressions.{IsLongInValue}
use Rattle.tidy_numbers.proofs.ExpressionPlaces.{values_found}
use Rattle.tidy_numbers.proofs.FoundAmong.{below_next}
use Rattle.tidy_numbers.proofs.operations.first_in_values.Goals as goal

pub loop-number-preserved : goal.loop-number-preserved
loop-number-preserved c =
    below_next (IsLongInValue c.args.forest.now) c.loop-number.number c.loop-number.found c.first_in_value.result c.earlier-found.result c.loop-number.invariant c.first_in_value.ensures c.earlier-found.ensures

pub returns : goal.returns
returns c = values_found c.args.forest.now c.loop-number.number c.loop-number.found (omega (arith, c.loop-number-test.false)) c.loop-number.invariant

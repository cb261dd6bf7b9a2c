use Rattle.std.proofs.Common.{arith}
use Rattle.std.proofs.lemmas.Int.{ints, clamps}
use Rattle.line_sums.proofs.sums.places_above.Goals as goal

pub returns-clause-before : goal.returns-clause-before
returns-clause-before c = λ place h. omega (arith, ints, clamps, c.max.ensures.value, c.min.ensures.value)

pub returns-clause-after : goal.returns-clause-after
returns-clause-after c = λ place h inside. omega (arith, ints, clamps, c.max.ensures.value, c.min.ensures.value)

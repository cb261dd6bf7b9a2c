use Rattle.std.proofs.Common.{to_z, of_z, arith}
use Rattle.std.specs.Int.{w64}
use Rattle.std.proofs.lemmas.Int.{ints}
use Rattle.line_sums.proofs.RowSums.{max_below}
use Rattle.line_sums.proofs.SpecialParts.{step_least}
use Rattle.line_sums.proofs.sums.step_run.Goals as goal

pub returns-clause-run : goal.returns-clause-run
returns-clause-run c = record {
  least = λ base range scale line d windows by_copy low high.
      step_least base range scale line d c.args.copy c.line_run-wide.result.bytes c.line_run-last.result.bytes c.min-2.result c.args.windows.now windows by_copy
      (c.line_run-wide.ensures.run.each _ (omega (arith, ints, low, c.max.ensures.self_bound)) (omega (arith, ints, high)))
      (c.line_run-last.ensures.run.each _ (omega (arith, ints, low, c.max.ensures.other_bound)) (omega (arith, ints, high)))
      (omega (arith, c.min.ensures, c.min-2.ensures));
}

pub returns-clause-below : goal.returns-clause-below
returns-clause-below c =
    let low = max_below (to_z w64 (of_z w64 c.line_run-wide.result.low)) (to_z w64 (of_z w64 c.line_run-last.result.low)) c.args.left (omega (arith, ints, c.line_run-wide.ensures.below)) (omega (arith, ints, c.line_run-last.ensures.below)) in
    omega (arith, ints, low, c.max.ensures.value)

use Rattle.std.proofs.Common.{arith}
use Rattle.std.proofs.lemmas.Int.{ints}
use Rattle.line_step.proofs.Remainders.{none_best, all_best, near_best, below_greatest, near_len, fits_byte}
use Rattle.line_step.proofs.row.remainder_for.Goals as goal

pub returns-then-line-le0-clause-best : goal.returns-then-line-le0-clause-best
returns-then-line-le0-clause-best c = none_best c.args.line c.args.most (omega (arith, ints))

pub returns-then-line-most_left-clause-best : goal.returns-then-line-most_left-clause-best
returns-then-line-most_left-clause-best c = all_best c.args.line c.args.most _ (omega (arith, ints))

pub greatest_signed-greatest-requires-clause-few : goal.greatest_signed-greatest-requires-clause-few
greatest_signed-greatest-requires-clause-few c =
    let few = near_len _ c.len_s.result c.len_s.ensures.least (omega (arith, ints, c.from-most_left.ensures)) (omega (arith, ints, c.from-most_left.ensures)) in
    omega (arith, few)

pub overflow_cast-result-else-line-greatest : goal.overflow_cast-result-else-line-greatest
overflow_cast-result-else-line-greatest c =
    let below = below_greatest _ c.greatest_signed-greatest.result c.len_s.result c.len_s.ensures.least c.greatest_signed-greatest.ensures in
    fits_byte _ (omega (arith, ints, below, c.from-most_left.ensures)) (omega (arith, ints, below, c.from-most_left.ensures))

pub returns-then-line-greatest-clause-best : goal.returns-then-line-greatest-clause-best
returns-then-line-greatest-clause-best c =
    near_best c.args.line _ c.greatest_signed-greatest.result c.args.most 0 c.len_s.result (omega (arith, ints, c.from-most_left.ensures)) (omega (arith, ints, c.from-most_left.ensures)) c.len_s.ensures.least c.greatest_signed-greatest.ensures (omega (arith, ints)) (omega (arith, ints)) (λ r less. absurd (omega arith))

pub returns-else-line-greatest-clause-within : goal.returns-else-line-greatest-clause-within
returns-else-line-greatest-clause-within c =
    let below = below_greatest _ c.greatest_signed-greatest.result c.len_s.result c.len_s.ensures.least c.greatest_signed-greatest.ensures in
    omega (arith, ints, below, c.from-most_left.ensures)

pub returns-else-line-greatest-clause-best : goal.returns-else-line-greatest-clause-best
returns-else-line-greatest-clause-best c =
    let below = below_greatest _ c.greatest_signed-greatest.result c.len_s.result c.len_s.ensures.least c.greatest_signed-greatest.ensures in
    near_best c.args.line _ c.greatest_signed-greatest.result c.args.most _ c.len_s.result (omega (arith, ints, c.from-most_left.ensures)) (omega (arith, ints, c.from-most_left.ensures)) c.len_s.ensures.least c.greatest_signed-greatest.ensures (omega (arith, ints, below)) (omega (arith, ints, below)) (λ r less. omega (arith, ints, below, less))

use Rattle.std.proofs.Common.{refl, arith, inl}
use Rattle.std.proofs.lemmas.Int.{ints}
use Rattle.line_params.proofs.PairLaws.{taken}
use Rattle.line_params.proofs.search.better_of_range.Goals as goal

pub returns-then-bytes-best-clause-best : goal.returns-then-bytes-best-clause-best
returns-then-bytes-best-clause-best c =
    taken c.args.head.now c.args.counted.now c.args.range 1 c.args.best _ c.fill_sums.new.sums c.first_least-place.result.0 (omega arith) (omega arith) c.requires.best c.fill_sums.ensures.sums c.first_least-place.ensures.first.within (inl c.if-bytes-best.true) (omega (arith, ints, c.first_least-place.ensures.first.within)) refl c.first_least-place.ensures.sum

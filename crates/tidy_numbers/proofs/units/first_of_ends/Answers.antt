use Rattle.std.proofs.Common.{◌≡◌, ◌<◌, ℕ, length, subst, arith}
use Rattle.tidy_places.specs.Firsts.{IsLeastFound}
use Rattle.tidy_numbers.specs.inside.LongEntries.{IsLongEndAt}
use Rattle.tidy_numbers.proofs.UnitNumbers.{end_inside, end_begins, end_more}
use Rattle.tidy_numbers.proofs.units.first_of_ends.Goals as goal

pub is_long-requires-clause-within : goal.is_long-requires-clause-within
is_long-requires-clause-within c = end_inside c.args.info.now c.args.ends.now c.requires c.loop-end.end-index c.loop-end-test.true

pub is_long-requires-clause-number : goal.is_long-requires-clause-number
is_long-requires-clause-number c = end_begins c.args.info.now c.args.ends.now c.requires c.loop-end.end-index c.loop-end-test.true

pub loop-end-preserved : goal.loop-end-preserved
loop-end-preserved c =
    end_more c.args.info.now c.args.ends.now c.requires c.loop-end.end-index c.loop-end-test.true c.is_long.result c.loop-end.first c.then_some-here.result c.earlier-first.result c.is_long.ensures (rw c.from.ensures at c.then_some-here.ensures) c.loop-end.invariant c.earlier-first.ensures

pub returns : goal.returns
returns c =
    let whole : c.loop-end.end-index ≡ length c.args.ends.now = omega arith in
    subst (λ (n : ℕ). IsLeastFound (λ p. (k : ℕ) × (k < n) × IsLongEndAt c.args.info.now c.args.ends.now k p) c.loop-end.first) whole c.loop-end.invariant

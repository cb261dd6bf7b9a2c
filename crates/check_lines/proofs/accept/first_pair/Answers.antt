use Rattle.std.proofs.Common.{◌≡◌, ◌+◌, ◌-◌, ◌*◌, ◌∙◌, arith}
use Rattle.check_lines.proofs.Pairing.{before_place, first_number}
use Rattle.check_lines.proofs.accept.first_pair.Goals as goal

pub loop-below-preserved : goal.loop-below-preserved
loop-below-preserved c =
    let b = c.loop-below.below in
    let e : 256 * b + 256 - 256 * b ≡ 256 = omega arith in
    let first = rw e at c.first_refused-place.ensures.first in
    record {
      accepted = λ pair lt. before_place c.args.min c.args.bytes c.args.counted.now c.args.numbers.now b c.first_refused-place.result c.loop-below.invariant.accepted first pair (omega (arith, lt, c.if-place-lt-BASES.false));
      ways = c.first_refused-place.ensures.ways ∙ c.loop-below.invariant.ways;
    }

pub returns-then-place-lt-BASES : goal.returns-then-place-lt-BASES
returns-then-place-lt-BASES c =
    let b = c.loop-below.below in
    let e : 256 * b + 256 - 256 * b ≡ 256 = omega arith in
    first_number c.args.min c.args.bytes c.args.counted.now c.args.numbers.now b c.first_refused-place.result (omega arith) c.loop-below.invariant.accepted (rw e at c.first_refused-place.ensures.first) c.if-place-lt-BASES.true

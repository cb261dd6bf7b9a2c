use Rattle.std.proofs.Common.{◌+◌, take, arith, rules, refl, below_more}
use Rattle.leb_codec.specs.Leb.{weighed}
use Rattle.leb_codec.proofs.Lebs.{weighed_more, IsLeb-front, wide_not_ok, short_not_wide}
use Rattle.leb_codec.proofs.read.read_front.Goals as goal

pub loop-place-preserved : goal.loop-place-preserved
loop-place-preserved c =
    let rest = c.args.rest.now in
    let place = c.loop-place.place in
    record {
      sum = rw (weighed_more rest place (omega arith)) (c.add_digit-sum.ensures.sum (weighed 0 (take place rest)) c.loop-place.invariant.sum);
      more = below_more _ _ c.loop-place.invariant.more c.if-byte-lt128.false;
    }

pub returns-in-Some-clause-read : goal.returns-in-Some-clause-read
returns-in-Some-clause-read c =
    let rest = c.args.rest.now in
    let place = c.loop-place.place in
    let leb = IsLeb-front rest place (omega arith) (λ j lt. (c.type_inv.rest j).fits) c.loop-place.invariant.more c.if-byte-lt128.true in
    let sum = rw (← weighed_more rest place (omega arith)) at (c.add_digit-sum.ensures.sum (weighed 0 (take place rest)) c.loop-place.invariant.sum) in
    (leb, rw c.in-Some.is at sum)

pub returns-in-Some-clause-wide : goal.returns-in-Some-clause-wide
returns-in-Some-clause-wide c =
    let rest = c.args.rest.now in
    let place = c.loop-place.place in
    let leb = IsLeb-front rest place (omega arith) (λ j lt. (c.type_inv.rest j).fits) c.loop-place.invariant.more c.if-byte-lt128.true in
    let sum = rw (← weighed_more rest place (omega arith)) at (c.add_digit-sum.ensures.sum (weighed 0 (take place rest)) c.loop-place.invariant.sum) in
    (λ e. absurd (search rules), λ wide. absurd (wide_not_ok rest (place + 1) c.in-Some.value (omega arith) leb (rw c.in-Some.is at sum) (rw c.in-Some.is at c.add_digit-sum.ensures.fits) wide))

pub returns-in-None-clause-wide : goal.returns-in-None-clause-wide
returns-in-None-clause-wide c =
    let rest = c.args.rest.now in
    let place = c.loop-place.place in
    let leb = IsLeb-front rest place (omega arith) (λ j lt. (c.type_inv.rest j).fits) c.loop-place.invariant.more c.if-byte-lt128.true in
    let sum = rw (← weighed_more rest place (omega arith)) at (c.add_digit-sum.ensures.sum (weighed 0 (take place rest)) c.loop-place.invariant.sum) in
    (λ _. (place + 1, omega arith, leb, rw c.in-None.is at sum), λ _. refl)

pub returns-clause-wide : goal.returns-clause-wide
returns-clause-wide c = (λ e. absurd (search rules), λ wide. absurd (short_not_wide c.args.rest.now (λ k lt. c.loop-place.invariant.more k (omega arith)) wide))

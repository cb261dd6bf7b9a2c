use Rattle.std.proofs.Common.{◌+◌, take, arith, rules, refl, ◌∙◌, below_more}
use Rattle.std.proofs.lemmas.Int.{to_z-of_z}
use Rattle.leb_codec.specs.Leb.{weighed}
use Rattle.leb_codec.proofs.Lebs.{weighed_more, IsLeb-front}
use Rattle.leb_codec.proofs.Signs.{complement, complement_more, signed_front, wide_not_ok_s, short_not_wide_s}
use Rattle.leb_codec.proofs.signed.read_signed_front.Goals as goal

pub loop-place-preserved : goal.loop-place-preserved
loop-place-preserved c =
    let rest = c.args.rest.now in
    let place = c.loop-place.place in
    record {
      sum = rw (weighed_more rest place (omega arith)) (c.add_digit-sum.ensures.sum (weighed 0 (take place rest)) c.loop-place.invariant.sum);
      other = rw (complement_more rest place (omega arith)) (c.add_digit-other.ensures.sum (complement 0 (take place rest)) c.loop-place.invariant.other);
      more = below_more _ _ c.loop-place.invariant.more c.if-byte-lt128.false;
    }

pub returns-in-Some-clause-read : goal.returns-in-Some-clause-read
returns-in-Some-clause-read c =
    let rest = c.args.rest.now in
    let place = c.loop-place.place in
    let leb = IsLeb-front rest place (omega arith) (λ j lt. (c.type_inv.rest j).fits) c.loop-place.invariant.more c.if-byte-lt128.true in
    let sum = rw (← weighed_more rest place (omega arith)) at (c.add_digit-sum.ensures.sum (weighed 0 (take place rest)) c.loop-place.invariant.sum) in
    let other = rw (← complement_more rest place (omega arith)) at (c.add_digit-other.ensures.sum (complement 0 (take place rest)) c.loop-place.invariant.other) in
    let value = c.in-Some.ensures.value _ _ sum other ∙ signed_front rest place (omega arith) in
    let fits = c.in-Some.ensures.fits in
    (leb, rw to_z-of_z value)

pub returns-in-Some-clause-wide : goal.returns-in-Some-clause-wide
returns-in-Some-clause-wide c =
    let rest = c.args.rest.now in
    let place = c.loop-place.place in
    let leb = IsLeb-front rest place (omega arith) (λ j lt. (c.type_inv.rest j).fits) c.loop-place.invariant.more c.if-byte-lt128.true in
    let sum = rw (← weighed_more rest place (omega arith)) at (c.add_digit-sum.ensures.sum (weighed 0 (take place rest)) c.loop-place.invariant.sum) in
    let other = rw (← complement_more rest place (omega arith)) at (c.add_digit-other.ensures.sum (complement 0 (take place rest)) c.loop-place.invariant.other) in
    let value = c.in-Some.ensures.value _ _ sum other ∙ signed_front rest place (omega arith) in
    (λ e. absurd (search rules), λ wide. absurd (wide_not_ok_s rest (place + 1) (omega arith) leb (rw value at c.in-Some.ensures.fits) wide))

pub returns-in-None-clause-wide : goal.returns-in-None-clause-wide
returns-in-None-clause-wide c =
    let rest = c.args.rest.now in
    let place = c.loop-place.place in
    let leb = IsLeb-front rest place (omega arith) (λ j lt. (c.type_inv.rest j).fits) c.loop-place.invariant.more c.if-byte-lt128.true in
    let sum = rw (← weighed_more rest place (omega arith)) at (c.add_digit-sum.ensures.sum (weighed 0 (take place rest)) c.loop-place.invariant.sum) in
    let other = rw (← complement_more rest place (omega arith)) at (c.add_digit-other.ensures.sum (complement 0 (take place rest)) c.loop-place.invariant.other) in
    let over = rw (signed_front rest place (omega arith)) at (c.in-None.ensures.value _ _ sum other) in
    (λ _. (place + 1, omega arith, leb, over), λ _. refl)

pub returns-clause-wide : goal.returns-clause-wide
returns-clause-wide c =
    (λ e. absurd (search rules), λ wide. absurd (short_not_wide_s c.args.rest.now (λ k lt. c.loop-place.invariant.more k (omega arith)) wide))

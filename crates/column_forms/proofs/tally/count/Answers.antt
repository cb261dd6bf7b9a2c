use Rattle.std.proofs.Common.{refl, arith}
use Rattle.form_codec.specs.Values.{meant_in}
use Rattle.column_forms.proofs.Sums.{summed_more, summed_out, summed_still, shaped_none, shaped_size}
use Rattle.column_forms.proofs.tally.count.Goals as goal

pub returns-then-not-candidate : goal.returns-then-not-candidate
returns-then-not-candidate c = λ name. record {
  form = refl;
  shape = refl;
  few = omega arith;
  summed = λ constant section meanings shaped h one s. summed_still name constant meanings (meant_in section c.args.value.now) c.args.candidate.now c.if-not-candidate.true s;
}

pub returns-in-Some : goal.returns-in-Some
returns-in-Some c = λ name. record {
  form = refl;
  shape = refl;
  few = omega (arith, c.from.ensures, c.in-Some.ensures.fits);
  summed = λ constant section meanings shaped h one s.
      let v = c.args.value.now in
      rw c.from.ensures (summed_more name constant meanings (meant_in section v) c.args.candidate.now c.in-Some.size (shaped_size name constant c.args.candidate.now v c.in-Some.size section shaped c.in-Some.ensures h) s);
}

pub returns-in-None : goal.returns-in-None
returns-in-None c = λ name. record {
  form = refl;
  shape = refl;
  few = omega arith;
  summed = λ constant section meanings shaped h one s.
      let v = c.args.value.now in
      summed_out name constant meanings (meant_in section v) c.args.candidate.now one (shaped_none name constant c.args.candidate.now v section shaped c.in-None.ensures h);
}

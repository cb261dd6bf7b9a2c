use Rattle.measure.proofs.Declared.{long_more, known_more}
use Rattle.measure.proofs.values.drawn_attributes.Goals as goal

pub loop-preserved : goal.loop-preserved
loop-preserved c = record {
  long = long_more _ _ _ _ c.in_ok-push.ensures.items c.loop.invariant.long;
  known = known_more _ _ _ c.in_ok-push.ensures.items c.loop.invariant.known c.drawn_form-form.ensures;
}

use Rattle.rewriter.proofs.Assembled.{apart, movable, few, assembled}
use Rattle.rewriter.proofs.assemble.assemble.Goals as goal

pub place-requires-clause-movable : goal.place-requires-clause-movable
place-requires-clause-movable c = movable c.args.image.now c.args.sections c.in_ok-bodies.bodies.items c.in_ok-bodies.ensures c.requires.image

pub place-requires-clause-apart : goal.place-requires-clause-apart
place-requires-clause-apart c = apart c.args.image.now c.args.sections c.in_ok-bodies.bodies.items c.in_ok-bodies.ensures

pub place-requires-clause-small : goal.place-requires-clause-small
place-requires-clause-small c = few c.args.image.now c.args.sections c.in_ok-bodies.bodies.items c.in_ok-bodies.ensures c.requires.sections

pub returns : goal.returns
returns c = record {
  has = assembled c.args.image.now c.args.sections c.in_ok-bodies.bodies.items (λ out. out.items) c.place.result c.in_ok-bodies.ensures c.requires.image c.requires.sections c.place.ensures.laid_out c.place.ensures.bare c.place.ensures.same c.place.ensures.bodies c.place.ensures.read;
}

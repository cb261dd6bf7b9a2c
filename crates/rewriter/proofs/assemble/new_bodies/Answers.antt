use Rattle.rewriter.proofs.Assembled.{six_added}
use Rattle.rewriter.proofs.assemble.new_bodies.Goals as goal

pub returns : goal.returns
returns c =
    six_added c.args.image.now c.args.sections c.as_slice.result.now c.as_slice-2.result.now c.as_slice-3.result.now c.as_slice-4.result.now c.as_slice-5.result.now c.as_slice-6.result.now c.new-bodies.result.items c.push_body.new.bodies.items c.push_body-2.new.bodies.items c.push_body-3.new.bodies.items c.push_body-4.new.bodies.items c.push_body-5.new.bodies.items c.push_body-6.new.bodies.items c.as_slice.ensures c.as_slice-2.ensures c.as_slice-3.ensures c.as_slice-4.ensures c.as_slice-5.ensures c.as_slice-6.ensures c.new-bodies.ensures.items c.in_ok-push_body.ensures c.in_ok-push_body-2.ensures c.in_ok-push_body-3.ensures c.in_ok-push_body-4.ensures c.in_ok-push_body-5.ensures c.in_ok-push_body-6.ensures

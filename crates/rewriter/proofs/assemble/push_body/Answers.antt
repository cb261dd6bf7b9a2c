use Rattle.std.proofs.Common.{refl, inr}
use Rattle.elf_place.specs.declared.bodies.NewBody.{NewBody}
use Rattle.rewriter.proofs.assemble.push_body.Goals as goal

pub returns-in_ok-push : goal.returns-in_ok-push
returns-in_ok-push c =
    let new : NewBody = record { section = c.in-Some.section; bytes = c.args.bytes } in
    inr (new, record { first = c.in-Some.ensures; holds = refl }, c.in_ok-push.ensures.items)

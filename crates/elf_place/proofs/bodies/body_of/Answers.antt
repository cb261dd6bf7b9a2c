use Rattle.std.proofs.Common.{◌∙◌, sym, subst, Some, None, arith}
use Rattle.elf_place.specs.inside.Bodies.{IsFor}
use Rattle.elf_place.proofs.BodyLaws.{body_after-Some, body_after-None}
use Rattle.elf_place.proofs.bodies.body_of.Goals as goal

pub returns-in-Some : goal.returns-in-Some
returns-in-Some c =
    let bodies = c.args.bodies.now in
    let found : IsFor bodies c.args.i (Some c.in-Some.place) = subst (IsFor bodies c.args.i) c.in-Some.is (c.requires.table c.args.i (omega arith)) in
    let new = c.index-bodies-place.result in
    c.deref.ensures.value ∙ sym (body_after-Some c.args.image.now bodies c.args.i c.in-Some.place new c.requires.apart found.0 (found.1 new))

pub returns-in-None : goal.returns-in-None
returns-in-None c =
    let bodies = c.args.bodies.now in
    let none : IsFor bodies c.args.i None = subst (IsFor bodies c.args.i) c.in-None.is (c.requires.table c.args.i (omega arith)) in
    c.body.ensures ∙ sym (body_after-None c.args.image.now bodies c.args.i none)

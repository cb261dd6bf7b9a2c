use Rattle.std.proofs.Common.{◌∙◌, length, sym, ap}
use Rattle.value_links.specs.Sections.{body_or_none}
use Rattle.commands.proofs.summary.size_named.Goals as goal

pub returns-in-Some : goal.returns-in-Some
returns-in-Some c =
    let file = c.args.image.now in
    let found = (c.sections_found.ensures.found file c.args.name.now c.in-Some.number).1 c.in-Some.ensures in
    ap length (c.body.ensures ∙ sym (ap (body_or_none file) found))

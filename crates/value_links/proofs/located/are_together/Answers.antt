use Rattle.std.proofs.lemmas.Bool.{eqb-true, eq-eqb}
use Rattle.value_links.specs.Parts.{section_held}
use Rattle.value_links.proofs.Locating.{one_part, same_part}
use Rattle.value_links.proofs.located.are_together.Goals as goal

pub returns-in-Some-holder_of : goal.returns-in-Some-holder_of
returns-in-Some-holder_of c =
    let section = section_held c.args.contributions.now in
    let own = c.in-Some-holder_of.own in
    let part = c.in-Some.part in (
      λ yes. one_part section c.requires.tiled.tiled c.args.list c.args.place part c.in-Some.ensures own c.in-Some-holder_of.ensures (eqb-true own part yes),
      λ together. eq-eqb own part (same_part section c.requires.tiled.tiled c.args.list c.args.place part c.in-Some.ensures own c.in-Some-holder_of.ensures together),
    )

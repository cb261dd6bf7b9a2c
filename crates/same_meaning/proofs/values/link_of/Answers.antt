use Rattle.value_links.specs.Reading.{unit_at}
use Rattle.same_meaning.proofs.ReadUnits.{world_means, some_reading}
use Rattle.same_meaning.proofs.StandingValues.{entry_there, meant, resolves}
use Rattle.same_meaning.proofs.LinkMeanings.{told, found_there, no_expression}
use Rattle.same_meaning.proofs.values.link_of.Goals as goal

pub resolve-requires-clause-id : goal.resolve-requires-clause-id
resolve-requires-clause-id c =
    let (r, read, holds) = some_reading c.args.world.now c.requires.world in
    entry_there c.args.world.now r c.args.at.unit c.args.at.id c.args.at.name c.requires.value.number read holds (c.requires.value.stands r read holds)

pub unreachable-requires : goal.unreachable-requires
unreachable-requires c =
    let (r, read, holds) = some_reading c.args.world.now c.requires.world in
    let (debug, means) = world_means c.one_reading.ensures.reading c.args.world.now c.requires.world r read holds in
    let (value, is) = resolves c.args.world.now r c.args.at.unit c.args.at.id c.args.at.name c.requires.value.number read holds (c.requires.value.stands r read holds) c.args.value.now c.requires.value.is debug means in
    c.in-None.ensures c.args.world.now.image r holds is.linked is.links

pub returns-clause-told : goal.returns-clause-told
returns-clause-told c = λ r read holds.
    told c.one_meaning.ensures.linked c.args.world.now.image r c.args.at.unit c.args.at.id c.args.at.name _ c.in-Some.link read (c.requires.value.stands r read holds).0 (no_expression (unit_at r.links c.args.at.unit).forest.section c.args.value.now c.requires.plain) (c.in-Some.ensures c.args.world.now.image r holds)

pub returns-clause-there : goal.returns-clause-there
returns-clause-there c =
    let (r, read, holds) = some_reading c.args.world.now c.requires.world in
    let stands = c.requires.value.stands r read holds in
    found_there c.args.world.now r c.args.at.unit c.args.at.id c.requires.value.number c.args.at.name _ c.in-Some.link read holds stands (meant c.args.world.now r c.args.at.unit c.args.at.id c.args.at.name c.requires.value.number read holds stands c.args.value.now c.requires.value.is) (no_expression (unit_at r.links c.args.at.unit).forest.section c.args.value.now c.requires.plain) (c.in-Some.ensures c.args.world.now.image r holds)

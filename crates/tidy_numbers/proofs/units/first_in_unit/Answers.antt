use Rattle.value_links.specs.Reading.{UnitRead}
use Rattle.tidy_numbers.specs.inside.LongEntries.{unit_by}
use Rattle.tidy_numbers.proofs.UnitNumbers.{ends_there, ends_looked, unit_looked}
use Rattle.tidy_numbers.proofs.units.first_in_unit.Goals as goal

pub first_of_ends-requires : goal.first_of_ends-requires
first_of_ends-requires c =
    let unit : UnitRead = unit_by c.args.unit.now c.args.table.now in
    ends_there unit c.requires.unit c.forest-forest.result.now c.forest-forest.ensures c.section.result.now c.section.ensures c.chain_ends.result.now c.chain_ends.ensures.ends

pub returns : goal.returns
returns c =
    let unit : UnitRead = unit_by c.args.unit.now c.args.table.now in
    let ends = ends_looked unit c.forest-forest.result.now c.forest-forest.ensures c.section.result.now c.section.ensures c.chain_ends.result.now c.chain_ends.ensures.ends c.first_of_ends.result c.first_of_ends.ensures in
    unit_looked unit c.requires.unit c.first_of_entries.result c.first_of_ends.result c.earlier.result c.first_of_entries.ensures ends c.earlier.ensures

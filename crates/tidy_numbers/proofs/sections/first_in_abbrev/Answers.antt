use Rattle.value_links.specs.Sections.{debug_abbrev, abbrev_name}
use Rattle.tidy_numbers.specs.LongNumbers.{IsLongInTables}
use Rattle.tidy_numbers.proofs.FileNumbers.{abbrev_inside, inside_named, least_in_file}
use Rattle.tidy_numbers.proofs.sections.first_in_abbrev.Goals as goal

pub in_file-requires-clause-inside : goal.in_file-requires-clause-inside
in_file-requires-clause-inside c =
    inside_named c.args.world.now.image c.as_slice.result.now abbrev_name c.as_slice.ensures c.first_in_tables.result (abbrev_inside c.args.world.now c.requires c.first_in_tables.result c.first_in_tables.ensures)

pub returns : goal.returns
returns c = λ s read holds.
    least_in_file c.args.world.now.image c.as_slice.result.now abbrev_name c.as_slice.ensures (IsLongInTables (debug_abbrev c.args.world.now.image) s) c.first_in_tables.result c.in_file.result c.in_file.ensures (c.first_in_tables.ensures s read holds)

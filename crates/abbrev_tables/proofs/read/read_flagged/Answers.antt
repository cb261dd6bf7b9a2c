use Rattle.std.proofs.lemmas.List.{take_rest}
use Rattle.abbrev_tables.proofs.Steps.{flagged_read}
use Rattle.abbrev_tables.proofs.read.read_flagged.Goals as goal

pub returns-in-Ok-read_columns-clause-read : goal.returns-in-Ok-read_columns-clause-read
returns-in-Ok-read_columns-clause-read c =
    let read = rw take_rest at c.in-Ok-read_columns.ensures.read in
    flagged_read c.args.specs.now.items c.read_columns.new.specs.items c.args.rest.now c.in-Ok.children c.in-Ok-read_columns.end c.in-Ok.ensures.read.0 c.in-Ok.ensures.read.1 read.0 read.1

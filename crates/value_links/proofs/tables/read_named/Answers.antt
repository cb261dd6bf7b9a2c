use Rattle.std.proofs.Common.{rules}
use Rattle.value_links.proofs.TableFaults.{table_refused}
use Rattle.value_links.proofs.tables.read_named.Goals as goal

pub returns-in_err-table-clause-fault : goal.returns-in_err-table-clause-fault
returns-in_err-table-clause-fault c =
    let refused = table_refused c.args.abbrevs.now c.args.place c.args.origin c.in_err-table.field-0.0 c.requires.inside c.requires.room c.in_err-table.ensures.fault in
    search (rules, refused)

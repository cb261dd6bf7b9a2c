use Rattle.abbrev_tables.proofs.Indexes.{apart_at}
use Rattle.abbrev_tables.proofs.table.insert.Goals as goal

pub returns-clause-apart : goal.returns-clause-apart
returns-clause-apart c = λ q other. c.in_ok-insert.ensures.updates.2 q (apart_at c.args.code q other)

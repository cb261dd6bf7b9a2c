use Rattle.std.proofs.lemmas.Result.{on_ok_weaker}
use Rattle.tidy_tables.proofs.ColumnEntries.{row_held}
use Rattle.tidy_tables.proofs.column_values.ColumnValues.add_row.Goals as goal

pub returns-clause-added : goal.returns-clause-added
returns-clause-added c =
    on_ok_weaker c.add_row.result (λ law section names before after here named adds holds.
    row_held section names c.args.first c.args.head.now c.args.row.now c.args.self.now (record { tallies = c.add_row.new.self; inside = c.see_row.new.inside }) before after c.requires.inside c.see_row.ensures (λ values others adds_row. law section names values others here named adds_row) adds holds) c.add_row.ensures.added

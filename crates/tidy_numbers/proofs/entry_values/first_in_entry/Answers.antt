use Rattle.tidy_numbers.proofs.EntryNumbers.{code_begins, values_there, entry_looked}
use Rattle.tidy_numbers.proofs.entry_values.first_in_entry.Goals as goal

pub is_long-requires-clause-number : goal.is_long-requires-clause-number
is_long-requires-clause-number c = code_begins c.args.info.now c.args.columns.now c.args.at c.requires

pub first_in_values-requires : goal.first_in_values-requires
first_in_values-requires c = values_there c.args.info.now c.args.columns.now c.args.at c.requires c.code_end-values_at.result c.code_end-values_at.ensures

pub returns : goal.returns
returns c =
    entry_looked c.args.info.now c.args.columns.now c.args.at c.requires c.code_end-values_at.result c.code_end-values_at.ensures c.is_long.result c.then_some-code.result c.first_in_values.result c.earlier.result c.is_long.ensures c.then_some-code.ensures c.first_in_values.ensures c.earlier.ensures

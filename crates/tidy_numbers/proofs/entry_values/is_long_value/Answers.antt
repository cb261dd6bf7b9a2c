use Rattle.std.proofs.Common.{FitsSigned, w64, rules}
use Rattle.std.proofs.lemmas.Int.{to_z-of_z}
use Rattle.tidy_numbers.proofs.EntryNumbers.{value_shape, value_long}
use Rattle.tidy_numbers.proofs.entry_values.is_long_value.Goals as goal

pub begins_long-requires-clause-value : goal.begins_long-requires-clause-value
begins_long-requires-clause-value c =
    let fits : FitsSigned w64 c.args.column.constant = search rules in
    let shape = simp to_z-of_z at c.shape.ensures in
    value_shape c.args.info.now c.args.column c.args.at c.requires c.in-Some.form c.in-Some.ensures c.shape.result shape

pub returns : goal.returns
returns c =
    let fits : FitsSigned w64 c.args.column.constant = search rules in
    let shape = simp to_z-of_z at c.shape.ensures in
    value_long c.args.info.now c.args.column c.args.at c.requires c.in-Some.form c.in-Some.ensures c.shape.result shape c.begins_long.result c.begins_long.ensures

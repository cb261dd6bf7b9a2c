use Rattle.std.proofs.Common.{FitsSigned, w64, rules}
use Rattle.std.proofs.lemmas.Int.{to_z-of_z}
use Rattle.entry_read.proofs.ColumnPlaces.{value_ends, value_found}
use Rattle.tidy_numbers.proofs.entry_values.value_end.Goals as goal

pub unreachable-requires : goal.unreachable-requires
unreachable-requires c =
    let fits : FitsSigned w64 c.args.column.constant = search rules in
    let fault = simp to_z-of_z at c.in-Err.ensures.fault in
    let there = c.requires in
    value_found c.args.info.now c.args.column.name c.args.column.form c.args.column.constant there.0 c.args.at there.1 c.in-Err.field-0.kind there.2 fault

pub returns : goal.returns
returns c =
    let fits : FitsSigned w64 c.args.column.constant = search rules in
    let read = simp to_z-of_z at c.in-Ok.ensures.read in
    value_ends c.args.info.now c.args.column.name c.args.column.form c.args.column.constant c.args.at c.in-Ok.read read

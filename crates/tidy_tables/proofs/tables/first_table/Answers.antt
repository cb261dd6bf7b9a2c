use Rattle.std.proofs.Common.{◌∙◌, List, ℕ, length, sym, ap, arith}
use Rattle.value_links.specs.declared.units.NamedTable.{NamedTable}
use Rattle.tidy_tables.proofs.UntidyTables.{some_namer, as_many_units, untidy_least}
use Rattle.tidy_tables.proofs.tables.first_table.Goals as goal

pub written_numbers-requires-clause-units : goal.written_numbers-requires-clause-units
written_numbers-requires-clause-units c =
    ap (λ (z : List ℕ). length z) c.table_numbers-2.ensures ∙ as_many_units c.args.before.now c.args.after.now c.requires.before.0 c.requires.after.0 c.requires.before.1 c.requires.after.1 c.requires.same ∙ sym (ap (λ (z : List ℕ). length z) c.table_numbers.ensures)

pub written_numbers-requires-clause-named : goal.written_numbers-requires-clause-named
written_numbers-requires-clause-named c =
    some_namer c.args.before.now c.requires.before.0 c.requires.before.1 c.table_numbers.result.now.items c.len.result c.table_numbers.ensures (omega (arith, c.tables.result.now.ok.0, ap (λ (z : List NamedTable). length z) c.tables.ensures))

pub first_elsewhere-elsewhere-requires-clause-units : goal.first_elsewhere-elsewhere-requires-clause-units
first_elsewhere-elsewhere-requires-clause-units c = as_many_units c.args.before.now c.args.after.now c.requires.before.0 c.requires.after.0 c.requires.before.1 c.requires.after.1 c.requires.same

pub first_otherwise-requires-clause-units : goal.first_otherwise-requires-clause-units
first_otherwise-requires-clause-units c = as_many_units c.args.before.now c.args.after.now c.requires.before.0 c.requires.after.0 c.requires.before.1 c.requires.after.1 c.requires.same

pub returns : goal.returns
returns c = λ r s read holds again holds_again.
    untidy_least r s c.first_elsewhere-elsewhere.result c.in_ok-otherwise.otherwise c.lesser.result (c.first_elsewhere-elsewhere.ensures r s read holds again holds_again) (c.in_ok-otherwise.ensures r s read holds again holds_again) c.lesser.ensures

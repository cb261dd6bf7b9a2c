use Rattle.tidy_tables.proofs.ColumnMeanings.{units_listed, columns_held}
use Rattle.tidy_tables.proofs.declarations.first_of_table.Goals as goal

pub gather-requires-clause-named : goal.gather-requires-clause-named
gather-requires-clause-named c = (c.requires.section, units_listed c.args.units.now.items c.args.table.now c.args.named.now.items c.requires)

pub first_of_values-requires-clause-values : goal.first_of_values-requires-clause-values
first_of_values-requires-clause-values c =
    (c.args.units.now.items, columns_held c.args.units.now.items c.args.table.now c.args.named.now.items c.requires c.in_ok-values.values c.in_ok-values.ensures)

pub returns : goal.returns
returns c =
    let held = columns_held c.args.units.now.items c.args.table.now c.args.named.now.items c.requires c.in_ok-values.values c.in_ok-values.ensures in
    record {
      least = c.first_of_values.ensures.least c.args.units.now.items held;
      short = c.first_of_values.ensures.short c.args.units.now.items held;
    }

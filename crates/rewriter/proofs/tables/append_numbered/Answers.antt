use Rattle.rewriter.proofs.TableSteps.{table_stands, units_stand, chosen_there, writable_there, renewed_there, chosen_still}
use Rattle.rewriter.proofs.tables.append_numbered.Goals as goal

pub choose_columns-requires-clause-table : goal.choose_columns-requires-clause-table
choose_columns-requires-clause-table c = table_stands c.args.world.now c.requires.world.0 c.requires.world.1 c.args.number c.requires.known c.tables.result.now.items c.tables.ensures c.index.result.now c.index.ensures

pub choose_columns-requires-clause-named : goal.choose_columns-requires-clause-named
choose_columns-requires-clause-named c =
    units_stand c.args.world.now c.requires.world.0 c.requires.world.1 c.args.number c.requires.known c.tables.result.now.items c.tables.ensures c.index.result.now c.index.ensures c.units.result.now.items c.units.ensures c.args.named.now.items c.requires.named

pub append_table-requires-clause-known : goal.append_table-requires-clause-known
append_table-requires-clause-known c = table_stands c.args.world.now c.requires.world.0 c.requires.world.1 c.args.number c.requires.known c.tables.result.now.items c.tables.ensures c.index.result.now c.index.ensures

pub append_table-requires-clause-renewed : goal.append_table-requires-clause-renewed
append_table-requires-clause-renewed c =
    renewed_there c.args.world.now c.requires.world.0 c.requires.world.1 c.args.number c.requires.known c.tables.result.now.items c.tables.ensures c.index.result.now c.index.ensures c.units.result.now.items c.units.ensures c.args.named.now.items c.requires.named c.in_ok-columns.columns.items c.in_ok-columns.ensures

pub append_table-requires-clause-writable : goal.append_table-requires-clause-writable
append_table-requires-clause-writable c =
    writable_there c.args.world.now c.requires.world.0 c.requires.world.1 c.args.number c.requires.known c.tables.result.now.items c.tables.ensures c.index.result.now c.index.ensures c.units.result.now.items c.units.ensures c.args.named.now.items c.requires.named c.in_ok-columns.columns.items c.in_ok-columns.ensures

pub returns-clause-chosen : goal.returns-clause-chosen
returns-clause-chosen c =
    let chosen = chosen_there c.args.world.now c.requires.world.0 c.requires.world.1 c.args.number c.requires.known c.tables.result.now.items c.tables.ensures c.index.result.now c.index.ensures c.units.result.now.items c.units.ensures c.args.named.now.items c.requires.named c.in_ok-columns.columns.items c.in_ok-columns.ensures in
    chosen_still c.args.world.now.units _ c.in_ok-columns.columns.items c.append_table.result chosen c.append_table.ensures.columns

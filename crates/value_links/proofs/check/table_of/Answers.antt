use Rattle.std.proofs.Common.{subst, sym}
use Rattle.abbrev_tables.specs.Listings.{Listing}
use Rattle.value_links.specs.Links.{held_at}
use Rattle.value_links.specs.inside.Checks.{IsUnitWithTable}
use Rattle.value_links.proofs.TabledUnits.{some_with_table, table_from}
use Rattle.value_links.proofs.check.table_of.Goals as goal

pub returns-clause-unit : goal.returns-clause-unit
returns-clause-unit c =
    let same = table_from c.args.held.now c.requires.held c.args.number c.requires.number c.index.result.now c.index-2.result.now c.index.ensures c.index-2.ensures in
    subst (λ (z : Listing). IsUnitWithTable (held_at c.args.held.now.units.items c.args.number) z) (sym same) (some_with_table c.args.held.now c.requires.held c.args.number c.requires.number)

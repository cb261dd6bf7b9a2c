use Rattle.std.proofs.Common.{List, sym, subst}
use Rattle.value_links.specs.declared.units.NamedTable.{NamedTable}
use Rattle.tidy_tables.specs.inside.Codes.{AreTables}
use Rattle.tidy_tables.specs.inside.UseCounts.{AreHeldFor}
use Rattle.tidy_tables.specs.inside.WrittenTables.{AreByPlace}
use Rattle.tidy_tables.proofs.UntidyTables.{tables_stand, held_for, otherwise_least}
use Rattle.tidy_tables.proofs.tables.first_otherwise.Goals as goal

pub first_other-requires-clause-uses : goal.first_other-requires-clause-uses
first_other-requires-clause-uses c =
    subst (λ (z : List NamedTable). AreHeldFor z c.in_ok-old_uses.old_uses.items) (sym c.tables.ensures) (held_for c.args.before.now c.requires.before.0 c.requires.before.1 c.in_ok-old_uses.old_uses.items c.in_ok-old_uses.ensures)

pub first_wasteful-requires-clause-known : goal.first_wasteful-requires-clause-known
first_wasteful-requires-clause-known c =
    subst AreTables (sym c.tables-3.ensures) (tables_stand c.args.after.now c.requires.after.0 c.requires.after.1)

pub first_wasteful-requires-clause-rising : goal.first_wasteful-requires-clause-rising
first_wasteful-requires-clause-rising c =
    subst AreByPlace (sym c.tables-3.ensures) c.requires.after.1.holds.tables.rising

pub first_wasteful-requires-clause-uses : goal.first_wasteful-requires-clause-uses
first_wasteful-requires-clause-uses c =
    subst (λ (z : List NamedTable). AreHeldFor z c.in_ok-new_uses.new_uses.items) (sym c.tables-3.ensures) (held_for c.args.after.now c.requires.after.0 c.requires.after.1 c.in_ok-new_uses.new_uses.items c.in_ok-new_uses.ensures)

pub returns : goal.returns
returns c = λ r s read holds again holds_again.
    otherwise_least c.args.before.now c.args.after.now r s holds.tables holds_again.tables c.requires.units c.args.written.now.items c.requires.written holds.units holds_again.units (tables_stand c.args.after.now c.requires.after.0 c.requires.after.1) c.in_ok-old_uses.old_uses.items c.in_ok-new_uses.new_uses.items c.in_ok-old_uses.ensures c.in_ok-new_uses.ensures c.tables.result.now.items c.tables-2.result.now.items c.tables-3.result.now.items c.tables.ensures c.tables-2.ensures c.tables-3.ensures c.in_ok-other.other c.in_ok-wasteful.wasteful c.lesser.result c.in_ok-other.ensures c.in_ok-wasteful.ensures c.lesser.ensures

use Rattle.std.proofs.Common.{◌∙◌, sym, subst}
use Rattle.entry_read.specs.Readings.{AreKnown}
use Rattle.entry_read.proofs.Declarations.{columns_are, known_columns}
use Rattle.entry_read.proofs.entries.columns_of.Goals as goal

pub returns-clause-columns : goal.returns-clause-columns
returns-clause-columns c = c.columns.ensures ∙ columns_are c.args.table.now c.args.number c.requires.inside

pub returns-clause-known : goal.returns-clause-known
returns-clause-known c =
    let t = c.args.table.now in
    subst AreKnown (sym (c.columns.ensures ∙ columns_are t c.args.number c.requires.inside)) (known_columns t c.args.number c.requires.table c.requires.inside)

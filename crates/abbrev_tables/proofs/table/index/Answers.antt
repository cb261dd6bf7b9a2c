use Rattle.abbrev_tables.proofs.Indexes.{index_same, index_more}
use Rattle.abbrev_tables.proofs.table.index.Goals as goal

pub returns : goal.returns
returns c = index_more c.args.decls.now c.args.others.now c.insert.new.others c.args.decl c.requires.index c.requires.fresh c.in_ok-insert.ensures.here c.in_ok-insert.ensures.apart

pub returns-then-decl-decls : goal.returns-then-decl-decls
returns-then-decl-decls c = index_same c.args.decls.now c.args.others.now c.args.decl c.requires.index c.if-decl-decls.true

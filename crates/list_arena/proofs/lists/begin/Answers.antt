use Rattle.list_arena.specs.declared.lists.ListRow.{ListRow}
use Rattle.list_arena.proofs.RowLaws.{begins_first, begins_behind}
use Rattle.list_arena.specs.inside.Lists.{entry_ends, item_ends}
use Rattle.list_arena.proofs.lists.begin.Goals as goal

pub returns-then-number-eq0-clause-entry : goal.returns-then-number-eq0-clause-entry
returns-then-number-eq0-clause-entry c = begins_first (entry_ends c.args.rows.now) c.args.number c.if-number-eq0.true

pub returns-then-number-eq0-clause-item : goal.returns-then-number-eq0-clause-item
returns-then-number-eq0-clause-item c = begins_first (item_ends c.args.rows.now) c.args.number c.if-number-eq0.true

pub returns-clause-entry : goal.returns-clause-entry
returns-clause-entry c = begins_behind (λ (row : ListRow). row.entries) c.args.rows.now c.args.number _ c.if-number-eq0.false c.requires

pub returns-clause-item : goal.returns-clause-item
returns-clause-item c = begins_behind (λ (row : ListRow). row.items) c.args.rows.now c.args.number _ c.if-number-eq0.false c.requires

use Rattle.list_arena.specs.declared.views.RunRow.{RunRow}
use Rattle.list_arena.proofs.RowLaws.{begins_first, begins_behind}
use Rattle.list_arena.specs.inside.Views.{pair_ends}
use Rattle.list_arena.proofs.views.begin.Goals as goal

pub returns-then-number-eq0 : goal.returns-then-number-eq0
returns-then-number-eq0 c = begins_first (pair_ends c.args.rows.now) c.args.number c.if-number-eq0.true

pub returns : goal.returns
returns c = begins_behind (λ (row : RunRow). row.pairs) c.args.rows.now c.args.number _ c.if-number-eq0.false c.requires

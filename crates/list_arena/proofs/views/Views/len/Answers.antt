use Rattle.std.proofs.Common.{arith}
use Rattle.list_arena.proofs.PairLaws.{runs_count}
use Rattle.list_arena.proofs.views.Views.len.Goals as goal

pub returns : goal.returns
returns c = omega (arith, runs_count c.self.inside.long c.self.inside.rows.items c.self.inside.pairs.items c.args.self.now c.self.view_is)

use Rattle.std.proofs.Common.{arith}
use Rattle.list_arena.proofs.ListLaws.{lists_count}
use Rattle.list_arena.proofs.lists.Lists.len.Goals as goal

pub returns : goal.returns
returns c = omega (arith, lists_count c.self.inside.long c.self.inside.rows.items c.self.inside.entries.items c.self.inside.items.items c.args.self.now c.self.view_is)

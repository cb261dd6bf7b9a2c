use Rattle.std.proofs.Common.{ap, sym, arith}
use Rattle.list_arena.specs.Held.{HeldList}
use Rattle.list_arena.specs.inside.Lists.{list_held}
use Rattle.list_arena.proofs.ListLaws.{list_at, lists_count}
use Rattle.list_arena.proofs.lists.Lists.part.Goals as goal

pub index-requires : goal.index-requires
index-requires c = omega (arith, lists_count c.self.inside.long c.self.inside.rows.items c.self.inside.entries.items c.self.inside.items.items c.args.self.now c.self.view_is)

pub returns : goal.returns
unfolding list_held
returns c = λ d.
    let here = list_at c.self.inside.long c.self.inside.rows.items c.self.inside.entries.items c.self.inside.items.items c.args.self.now c.args.number c.index.result.now c.self.view_is c.requires c.index.ensures d in
    sym (ap (λ (l : HeldList). l.part) here)

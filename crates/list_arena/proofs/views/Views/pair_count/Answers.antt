use Rattle.std.proofs.Common.{sym, arith}
use Rattle.list_arena.proofs.PairLaws.{pairs_counted, row_at, runs_count}
use Rattle.list_arena.proofs.views.Views.pair_count.Goals as goal

pub index-requires : goal.index-requires
index-requires c = omega (arith, runs_count c.self.inside.long c.self.inside.rows.items c.self.inside.pairs.items c.args.self.now c.self.view_is)

pub begin-requires : goal.begin-requires
begin-requires c = rw c.deref.ensures.value (omega (arith, runs_count c.self.inside.long c.self.inside.rows.items c.self.inside.pairs.items c.args.self.now c.self.view_is))

pub overflow_sub-result : goal.overflow_sub-result
overflow_sub-result c =
    let here = row_at c.self.inside.long c.self.inside.rows.items c.self.inside.pairs.items c.args.self.now c.args.number c.index.result.now c.self.invariant c.self.view_is c.requires c.index.ensures in
    rw (c.begin.ensures, c.deref.ensures.value) here.pairs

pub returns : goal.returns
returns c = λ d.
    rw (c.begin.ensures, c.deref.ensures.value) (sym (pairs_counted c.self.inside.long c.self.inside.rows.items c.self.inside.pairs.items c.args.self.now c.args.number c.index.result.now c.self.invariant c.self.view_is c.requires c.index.ensures d))

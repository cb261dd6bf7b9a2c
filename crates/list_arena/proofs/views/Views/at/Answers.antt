use Rattle.std.proofs.Common.{◌∙◌, ap, sym, arith}
use Rattle.list_arena.specs.Held.{HeldViews}
use Rattle.list_arena.proofs.PairLaws.{row_at, run_at, runs_count}
use Rattle.list_arena.proofs.views.Views.at.Goals as goal

pub index-requires : goal.index-requires
index-requires c = omega (arith, runs_count c.self.inside.long c.self.inside.rows.items c.self.inside.pairs.items c.args.self.now c.self.view_is)

pub number-requires : goal.number-requires
number-requires c = (row_at c.self.inside.long c.self.inside.rows.items c.self.inside.pairs.items c.args.self.now c.args.number c.index.result.now c.self.invariant c.self.view_is c.requires c.index.ensures).at

pub returns : goal.returns
returns c = λ d. c.number.ensures ∙ sym (ap (λ (r : HeldViews). r.at) (run_at c.self.inside.long c.self.inside.rows.items c.self.inside.pairs.items c.args.self.now c.args.number c.index.result.now c.self.view_is c.requires c.index.ensures d))

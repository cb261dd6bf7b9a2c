use Rattle.std.proofs.Common.{◌<◌, ◌+◌, ◌^◌, ℕ, List, get_or, refl, sym, subst, arith}
use Rattle.line_sums.proofs.RunningLaws.{sum_added, sum_kept, sum_after}
use Rattle.line_sums.proofs.base_sums.BaseSums.add_between.Goals as goal

pub returns-clause-added : goal.returns-clause-added
returns-clause-added c = λ place later h.
    let room = subst (λ (z : List ℕ). get_or z place 0 + c.args.amount < 2 ^ 64) (sym c.self.view_is) (c.requires.room place later h) in
    rw (sym c.self.view_is) (sum_added c.self.inside.changes.items _ _ c.args.from c.args.to c.args.amount c.index.result.now c.index-2.result.now c.requires.order (omega (arith, c.self.invariant, c.requires.within)) c.index.ensures c.index-2.ensures refl refl place later h room)

pub returns-clause-before : goal.returns-clause-before
returns-clause-before c = λ place h.
    rw (sym c.self.view_is) (sum_kept c.self.inside.changes.items _ _ c.args.from c.args.to c.args.amount c.index.result.now c.index-2.result.now c.requires.order (omega (arith, c.self.invariant, c.requires.within)) c.index.ensures c.index-2.ensures refl refl place h)

pub returns-clause-after : goal.returns-clause-after
returns-clause-after c = λ place later h.
    rw (sym c.self.view_is) (sum_after c.self.inside.changes.items _ _ c.args.from c.args.to c.args.amount c.index.result.now c.index-2.result.now c.requires.order (omega (arith, c.self.invariant, c.requires.within)) c.index.ensures c.index-2.ensures refl refl (omega arith) place later (omega (arith, c.self.invariant)))

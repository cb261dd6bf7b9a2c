use Rattle.std.proofs.Common.{◌≡◌, ◌+◌, ℕ, length, sym, subst, arith}
use Rattle.std.specs.Prelude.{Option}
use Rattle.tidy_places.specs.Firsts.{IsLeastFound}
use Rattle.tidy_places.specs.inside.Chains.{IsOffAmong}
use Rattle.tidy_places.proofs.Offs.{off_more, off_less}
use Rattle.tidy_places.proofs.first_off.Goals as goal
use Rattle.tidy_places.proofs.first_off.Goals.{then-at-due, else-at-due}

pub loop-due-preserved : goal.loop-due-preserved
loop-due-preserved c = elim c.if-at-due.branch [
  | then-at-due w ↦
      subst (λ (found : Option ℕ). IsLeastFound (IsOffAmong c.args.after.now c.args.sections.now (c.loop-due.due-index + 1)) found) (sym w.first-is)
      (off_more c.args.after.now c.args.sections.now c.loop-due.due-index c.loop-due.first c.offset-at.result w.lesser.result c.offset-at.ensures w.if-at-due.true c.loop-due.invariant w.lesser.ensures)
  | else-at-due w ↦
      subst (λ (found : Option ℕ). IsLeastFound (IsOffAmong c.args.after.now c.args.sections.now (c.loop-due.due-index + 1)) found) (sym w.first-is)
      (off_less c.args.after.now c.args.sections.now c.loop-due.due-index c.loop-due.first c.offset-at.result c.offset-at.ensures w.if-at-due.false c.loop-due.invariant)
]

pub returns : goal.returns
returns c =
    let e : c.loop-due.due-index ≡ length c.args.sections.now = omega (arith, c.loop-due-test.false, c.loop-due.auto.due-index-end) in
    subst (λ (n : ℕ). IsLeastFound (IsOffAmong c.args.after.now c.args.sections.now n) c.loop-due.first) e c.loop-due.invariant

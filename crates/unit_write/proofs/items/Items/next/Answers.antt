use Rattle.std.proofs.Common.{◌≡◌, refl, arith, true, false}
use Rattle.entry_arena.specs.Arena.{with_values}
use Rattle.unit_write.specs.inside.Readings.{IsEndNext}
use Rattle.unit_write.proofs.Stepping.{end_next, entry_next, all_walked}
use Rattle.unit_write.proofs.items.Items.next.Goals as goal

pub returns-then-is_end_next-clause-next : goal.returns-then-is_end_next-clause-next
returns-then-is_end_next-clause-next c = λ values ds start place items now chains rest walked.
    (refl, end_next (with_values c.args.forest.now values) ds start place items now chains rest c.args.self.now walked (c.if-is_end_next.ensures.next.0 refl))

pub returns-then-self-len-clause-next : goal.returns-then-self-len-clause-next
returns-then-self-len-clause-next c = λ values ds start place items now chains rest walked.
    let other = λ (h : IsEndNext c.args.forest.now c.args.self.now). let wrong : false ≡ true = c.if-is_end_next.ensures.next.1 h in absurd (cc) in
    (refl, all_walked (with_values c.args.forest.now values) ds start place items now chains rest c.args.self.now walked other (λ h. omega arith))

pub returns-clause-next : goal.returns-clause-next
returns-clause-next c = λ values ds start place items now chains rest walked.
    let other = λ (h : IsEndNext c.args.forest.now c.args.self.now). let wrong : false ≡ true = c.if-is_end_next.ensures.next.1 h in absurd (cc) in
    (refl, refl, entry_next (with_values c.args.forest.now values) ds start place items now chains rest c.args.self.now walked other (omega arith))

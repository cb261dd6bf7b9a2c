use Rattle.std.proofs.Common.{◌+◌, ◌-◌, ◌/◌, ◌<◌, [], length, arith}
use Rattle.std.proofs.lemmas.Bool.Decides.{nat_tests}
use Rattle.std.proofs.lemmas.Grind.{common_steps}
use Rattle.list_arena.specs.inside.Views.{IsRunBefore, IsRunBehind}
use Rattle.list_arena.proofs.FoundLaws.{runs_above, runs_below}
use Rattle.list_arena.proofs.views.Views.find.Goals as goal

pub loop-from-preserved-then-lt : goal.loop-from-preserved-then-lt
loop-from-preserved-then-lt c =
    let middle = c.loop-from.from + (c.loop-from.to - c.loop-from.from) / 2 in
    let inside : middle < length c.args.self.now = omega (arith, c.loop-from.invariant.inside) in
    let order : IsRunBefore record { list = c.list.result; at = c.at.result; pairs = [] } c.args.list c.args.at = grind (arith, nat_tests, common_steps) in
    record {
      inside = c.loop-from.invariant.inside;
      below = runs_below c.args.self.now c.args.list c.args.at middle c.requires inside (λ d. rw (← c.list.ensures d, ← c.at.ensures d) order);
      above = c.loop-from.invariant.above;
    }

pub loop-from-preserved : goal.loop-from-preserved
loop-from-preserved c =
    let middle = c.loop-from.from + (c.loop-from.to - c.loop-from.from) / 2 in
    let inside : middle < length c.args.self.now = omega (arith, c.loop-from.invariant.inside) in
    let order : IsRunBehind record { list = c.list.result; at = c.at.result; pairs = [] } c.args.list c.args.at = grind (arith, nat_tests, common_steps) in
    record {
      inside = omega arith;
      below = c.loop-from.invariant.below;
      above = runs_above c.args.self.now c.args.list c.args.at middle c.requires (λ d. rw (← c.list.ensures d, ← c.at.ensures d) order);
    }

use Rattle.std.proofs.Common.{◌≡◌, ◌≢◌, ◌≤◌, ◌<◌, length, min, arith}
use Rattle.std.proofs.lemmas.Grind.{common_steps}
use Rattle.value_links.specs.World.{contributions_held}
use Rattle.same_meaning.proofs.FewParts.{few_parts}
use Rattle.same_meaning.proofs.FirstParts.{earlier_more, first_differs, none_differs, left_differs}
use Rattle.same_meaning.proofs.parts.first_part.Goals as goal

pub overflow_cast-common : goal.overflow_cast-common
overflow_cast-common c =
    let (reach, is) = c.requires.before in
    let few = few_parts c.args.before.now reach is c.args.kind in
    grind (arith, common_steps, few)

pub returns-then-not-branch-clause-first : goal.returns-then-not-branch-clause-first
returns-then-not-branch-clause-first c =
    let a = c.args.before.now in
    let b = c.args.after.now in
    let inside : c.loop-part.part < min (length (contributions_held a c.args.kind)) (length (contributions_held b c.args.kind)) = grind (arith, common_steps) in
    first_differs c.one_reading.ensures.reading c.one_debug.ensures a b c.requires.before c.requires.after c.args.kind c.loop-part.part inside c.loop-part.invariant.parts c.in_ok-mean_same_part.field-0 c.if-not-branch.true c.in_ok-mean_same_part.ensures.same

pub loop-part-preserved : goal.loop-part-preserved
loop-part-preserved c =
    record {
      parts = earlier_more c.one_reading.ensures.reading c.one_debug.ensures c.args.before.now c.args.after.now c.requires.before c.requires.after c.args.kind c.loop-part.part c.loop-part.invariant.parts c.in_ok-mean_same_part.field-0 c.if-not-branch.false c.in_ok-mean_same_part.ensures.same;
      lists = c.mean_same_part.ensures.lists;
    }

pub returns-then-old-new-clause-first : goal.returns-then-old-new-clause-first
returns-then-old-new-clause-first c =
    let a = c.args.before.now in
    let b = c.args.after.now in
    let past : min (length (contributions_held a c.args.kind)) (length (contributions_held b c.args.kind)) ≤ c.loop-part.part = grind (arith, common_steps) in
    let count : length (contributions_held a c.args.kind) ≡ length (contributions_held b c.args.kind) = grind (arith, common_steps) in
    none_differs c.one_reading.ensures.reading c.one_debug.ensures a b c.requires.before c.requires.after c.args.kind c.loop-part.part past count c.loop-part.invariant.parts

pub returns-else-old-new-clause-first : goal.returns-else-old-new-clause-first
returns-else-old-new-clause-first c =
    let a = c.args.before.now in
    let b = c.args.after.now in
    let least : c.min-common.result ≡ min (length (contributions_held a c.args.kind)) (length (contributions_held b c.args.kind)) = grind (arith, common_steps) in
    let past : c.min-common.result ≤ c.loop-part.part = grind (arith, common_steps) in
    let apart : length (contributions_held a c.args.kind) ≢ length (contributions_held b c.args.kind) = grind (arith, common_steps) in
    left_differs c.one_reading.ensures.reading c.one_debug.ensures a b c.requires.before c.requires.after c.args.kind c.loop-part.part c.min-common.result least past apart c.loop-part.invariant.parts

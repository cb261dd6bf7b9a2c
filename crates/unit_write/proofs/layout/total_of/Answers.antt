use Rattle.std.proofs.Common.{◌≤◌, ◌+◌, ◌∙◌, ℕ, length, sum, ap, arith}
use Rattle.std.proofs.lemmas.List.{take_all}
use Rattle.std.proofs.lemmas.List.Sums.{sum_by_more, sum_by-take-le}
use Rattle.slot_layout.specs.Rows.{most_slots}
use Rattle.unit_write.proofs.SlotLens.{sizes_sum}
use Rattle.unit_write.proofs.layout.total_of.Goals as goal

pub overflow_add-sum : goal.overflow_add-sum
overflow_add-sum c =
    let before = c.loop-size.invariant in
    let own = c.from-sum.ensures in
    let next = sum_by_more (λ (n : ℕ). n) c.args.sizes.now c.loop-size.size-index 0 c.loop-size-test.true in
    let less = sum_by-take-le (λ (n : ℕ). n) c.args.sizes.now (c.loop-size.size-index + 1) in
    let few = sizes_sum c.args.sizes.now c.requires.small in
    let room : length c.args.sizes.now ≤ most_slots = c.requires.few in
    omega (arith, before, own, next, less, few, room)

pub loop-size-preserved : goal.loop-size-preserved
loop-size-preserved c =
    let before = c.loop-size.invariant in
    let own = c.from-sum.ensures in
    let next = sum_by_more (λ (n : ℕ). n) c.args.sizes.now c.loop-size.size-index 0 c.loop-size-test.true in
    omega (arith, before, own, next)

pub returns : goal.returns
returns c = c.loop-size.invariant ∙ ap sum (take_all c.loop-size.size-index c.args.sizes.now c.loop-size-test.false)

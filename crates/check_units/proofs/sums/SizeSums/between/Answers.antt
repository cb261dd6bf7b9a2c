use Rattle.std.proofs.Common.{◌≡◌, ◌+◌, ◌-◌, ◌/◌, ℕ, length, ap, arith}
use Rattle.check_units.proofs.CellLaws.{IsSumming, cell_few, summing_start, summing_next, summing_few}
use Rattle.check_units.proofs.sums.SizeSums.between.Goals as goal

pub loop-low-init : goal.loop-low-init
loop-low-init c =
    let cells = c.args.self.now.cells.items in
    let half : c.len-count.result / 2 ≡ length cells / 2 = ap (λ (k : ℕ). k / 2) (let e : c.len-count.result ≡ length cells = omega arith in e) in
    rw half (summing_start cells c.requires.sums c.args.from c.args.to c.requires.order c.requires.inside)

pub ends-sum-requires-clause-room : goal.ends-sum-requires-clause-room
ends-sum-requires-clause-room c =
    let cells = c.args.self.now.cells.items in
    let is = c.loop-low.invariant in
    let some = is.some c.loop-low-test.true in
    let first = cell_few cells c.requires.sums c.loop-low.low some (omega (arith, is.inside)) in
    let last = cell_few cells c.requires.sums (c.loop-low.high - 1) (omega (arith, some)) (omega (arith, is.inside)) in
    omega (arith, first, last)

next : (c : goal.After-ends-sum) → IsSumming c.args.self.now.cells.items c.args.from c.args.to ((c.loop-low.low + 1) / 2) (c.loop-low.high / 2) (c.loop-low.sum + c.ends-sum.result)
next c =
    let cells = c.args.self.now.cells.items in
    rw c.ends-sum.ensures (summing_next cells c.requires.sums c.args.from c.args.to c.requires.order c.requires.inside c.loop-low.low c.loop-low.high c.loop-low.sum c.loop-low-test.true c.loop-low.invariant)

pub overflow_add-sum : goal.overflow_add-sum
overflow_add-sum c =
    let few = summing_few c.args.self.now.cells.items c.requires.sums c.args.from c.args.to c.requires.order c.requires.inside ((c.loop-low.low + 1) / 2) (c.loop-low.high / 2) (c.loop-low.sum + c.ends-sum.result) (next c) in
    omega (arith, few)

pub loop-low-preserved : goal.loop-low-preserved
loop-low-preserved c = next c

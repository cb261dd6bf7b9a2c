use Rattle.std.proofs.Common.{◌≡◌, ℕ, subst, arith}
use Rattle.line_sums.specs.Counting.{row_bytes}
use Rattle.line_sums.specs.Sums.{AreSummed}
use Rattle.check_lines.proofs.places.add_until.Goals as goal

pub returns-clause-summed : goal.returns-clause-summed
returns-clause-summed c =
    let end : c.loop-index.index ≡ c.args.to = omega arith in
    subst (λ (i : ℕ). AreSummed c.args.range c.args.min row_bytes c.args.counted.now i c.loop-index.sums c.loop-index.rest) end c.loop-index.invariant.summed

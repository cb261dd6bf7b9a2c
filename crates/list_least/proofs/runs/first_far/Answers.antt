use Rattle.std.proofs.Common.{◌≤◌, arith}
use Rattle.list_least.specs.Tails.{run_at}
use Rattle.list_least.proofs.Behind.{goes_low}
use Rattle.list_least.proofs.runs.first_far.Goals as goal

pub returns-then-is_free-clause-free : goal.returns-then-is_free-clause-free
returns-then-is_free-clause-free c addr context item are j base le inside =
    let low : base ≤ (run_at c.args.runs.now c.loop-i.i).upto = omega (arith, goes_low c.args.runs.now c.requires.down c.loop-i.i j (omega (arith, le)) inside.inside, inside.upto) in
    c.is_free.ensures c.if-is_free.true addr context item are base (omega arith) low

use Rattle.std.proofs.Common.{◌≡◌, take}
use Rattle.line_sums.specs.Accepted.{numbers_of}
use Rattle.check_lines.proofs.spread.spread.Given as goal

abbrev pub invariant-loop-run : goal.invariant-loop-run
invariant-loop-run l = l.numbers.items ≡ numbers_of (take l.run-index l.runs)

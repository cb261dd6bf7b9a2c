use Rattle.std.proofs.Common.{◌≡◌, ◌++◌, take}
use Rattle.line_sums.specs.Accepted.{numbers_of}
use Rattle.line_params.specs.inside.Joined.{AreJoined}
use Rattle.line_params.proofs.runs.push_numbers.Given as goal

abbrev pub invariant-loop-number : goal.invariant-loop-number
invariant-loop-number l = record {
  joined : AreJoined l.runs.items;
  spread : numbers_of l.runs.items ≡ numbers_of l.fn.runs.items ++ take l.number-index l.numbers;
}

use Rattle.std.proofs.Common.{◌≡◌, ◌≤◌, ◌<◌, ◌+◌, ℕ, length, get_or}
use Rattle.line_params.specs.inside.Numbers.{GivesOnce}
use Rattle.line_params.proofs.numbers.give.Given as goal

abbrev pub invariant-loop-place : goal.invariant-loop-place
invariant-loop-place l = record {
  size : length l.numbers ≡ 256;
  each : (k : ℕ) → k < l.place → GivesOnce l.all l.index l.bytes (get_or l.totals k 0 + l.rest) (get_or l.fn.numbers k 0) (get_or l.numbers k 0);
  later : (k : ℕ) → l.place ≤ k → get_or l.numbers k 0 ≡ get_or l.fn.numbers k 0;
}

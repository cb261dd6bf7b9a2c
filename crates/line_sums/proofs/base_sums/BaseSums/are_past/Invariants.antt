use Rattle.std.proofs.Common.{◌≡◌, ◌≤◌, ◌<◌, ◌+◌, ℕ, get_or}
use Rattle.line_sums.proofs.RunningLaws.{sum_before}
use Rattle.line_sums.specs.inside.RunningSums.{sums_from}
use Rattle.line_sums.proofs.base_sums.BaseSums.are_past.Given as goal

abbrev pub invariant-loop-place : goal.invariant-loop-place
invariant-loop-place l = record {
  sum : l.sum ≡ sum_before 0 l.self-inside.changes.items l.place;
  past : (place : ℕ) → place < l.place → l.bytes ≤ get_or (sums_from 0 l.self-inside.changes.items) place 0 + l.rest;
}

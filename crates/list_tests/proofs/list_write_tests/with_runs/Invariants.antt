use Rattle.std.proofs.Common.{◌≡◌, ◌+◌, map}
use Rattle.list_write.specs.Written.{run_of}
use Rattle.list_write.specs.inside.Places.{run_sizes}
use Rattle.list_tests.proofs.list_write_tests.with_runs.Given as goal

abbrev pub invariant-loop-run : goal.invariant-loop-run
invariant-loop-run l = l.sum ≡ l.size + run_sizes (map run_of l.runs.items) l.run-index

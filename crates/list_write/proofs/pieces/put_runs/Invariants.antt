use Rattle.std.proofs.Common.{map, take}
use Rattle.list_write.specs.Written.{run_of}
use Rattle.list_write.specs.inside.Pieces.{AreRunsHeld}
use Rattle.list_write.proofs.pieces.put_runs.Given as goal

abbrev pub invariant-loop-run : goal.invariant-loop-run
invariant-loop-run l = AreRunsHeld (map run_of (take l.run-index l.runs.items)) l.fn.out.items l.out.items l.fn.extents.items l.extents.items

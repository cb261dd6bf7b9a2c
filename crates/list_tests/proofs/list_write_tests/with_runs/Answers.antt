use Rattle.std.proofs.Common.{◌≡◌, map, ap, arith}
use Rattle.list_write.specs.Written.{run_of, run_size, run_at}
use Rattle.list_write.proofs.Runs.{run_held, run_more}
use Rattle.list_tests.proofs.list_write_tests.with_runs.Goals as goal

pub loop-run-preserved : goal.loop-run-preserved
loop-run-preserved c =
    let runs = map run_of c.args.runs.now.items in
    let i = c.loop-run.run-index in
    let (inside, is) = run_held c.args.runs.now.items c.deref-run-items.result.now i c.run-item.result c.deref-run-items.ensures.value c.loop-run-test.true c.run-item.is in
    let size : run_size (run_at runs i) ≡ run_size (run_of c.run-item.result) = ap run_size is in
    let more = run_more runs i inside in
    omega (arith, more, size, c.loop-run.invariant, c.in-Some.ensures)

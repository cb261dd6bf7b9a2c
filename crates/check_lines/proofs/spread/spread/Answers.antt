use Rattle.std.proofs.Common.{get_or}
use Rattle.check_lines.proofs.Spreading.{resized, spread_more}
use Rattle.check_lines.proofs.spread.spread.Goals as goal

pub loop-run-preserved : goal.loop-run-preserved
loop-run-preserved c =
    let run = get_or c.args.runs.now c.loop-run.run-index (record { len = 0; number = 0 }) in
    let more = resized c.loop-run.numbers.items c.resize.new.self.items c.len.result c.loop-run.numbers.len run.len run.number c.len.ensures c.loop-run.numbers.ok.0 c.in_ok-resize.ensures.items in
    spread_more c.args.runs.now c.loop-run.run-index (record { len = 0; number = 0 }) c.loop-run.numbers.items c.resize.new.self.items c.loop-run-test.true c.loop-run.invariant more

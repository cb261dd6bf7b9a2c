use Rattle.std.proofs.Common.{◌<◌, ◌-◌, ◌∙◌, length, ap, arith}
use Rattle.line_params.proofs.Joining.{with_first, with_new, with_same, run_room, same_run}
use Rattle.line_params.proofs.runs.push_number.Goals as goal
use Rattle.line_params.proofs.runs.push_number.Goals.{else-count-gt0-via-then-count-gt0+else-index-number, else-count-gt0-via-else-count-gt0}

pub overflow_add-index_mut : goal.overflow_add-index_mut
overflow_add-index_mut c =
    let room = run_room c.args.runs.now.items (c.len-count.result - 1) c.index_mut.result.now (omega (arith, c.if-count-gt0.true, c.len-count.ensures)) c.index_mut.ensures.value in
    record { fits = omega (arith, room, c.requires.room) }

pub returns-then-index-number : goal.returns-then-index-number
returns-then-index-number c =
    let within : c.len-count.result - 1 < length c.args.runs.now.items = omega (arith, c.if-count-gt0.true, c.len-count.ensures) in
    let same = same_run c.args.runs.now.items (c.len-count.result - 1) c.index_mut.result.now c.index.result.now within c.index_mut.ensures.value c.index.ensures in
    with_same c.args.runs.now.items c.args.number (c.len-count.result - 1) c.index_mut.result.now (omega (arith, c.if-count-gt0.true, c.len-count.ensures)) c.index_mut.ensures.value (ap (λ z. z.number) same ∙ c.if-index-number.true)

pub returns : goal.returns
returns c =
    c.in_ok-push.ensures.items ∙ elim c.else-count-gt0.branch [
      | else-count-gt0-via-then-count-gt0+else-index-number w ↦ with_new c.args.runs.now.items c.args.number (c.len-count.result - 1) w.index.result.now (omega (arith, w.if-count-gt0.true, c.len-count.ensures)) w.index.ensures w.if-index-number.false
      | else-count-gt0-via-else-count-gt0 w ↦ with_first c.args.runs.now.items c.args.number (omega (arith, w.if-count-gt0.false, c.len-count.ensures))
    ]

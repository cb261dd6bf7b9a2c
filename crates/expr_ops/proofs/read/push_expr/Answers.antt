use Rattle.std.proofs.Common.{rules, ◌≡◌, length, ◌∙◌}
use Rattle.expr_ops.proofs.Kept.{kept_front}
use Rattle.expr_ops.proofs.Wholes.{stands_here, whole_read, whole_fault}
use Rattle.expr_ops.proofs.read.push_expr.Goals as goal

pub returns-in-Ok-clause-read : goal.returns-in-Ok-clause-read
returns-in-Ok-clause-read c =
    let here = stands_here c.args.bytes.now in
    whole_read c.args.reach c.branch_limit.result c.args.bytes.now c.args.ops.now.items c.read_level.new.ops.items c.branch_limit.ensures c.in-Ok.ensures.few (c.in-Ok.ensures.read c.args.bytes.now here) (c.in-Ok.ensures.chain c.args.bytes.now here)

pub returns-in-Err-clause-fault : goal.returns-in-Err-clause-fault
returns-in-Err-clause-fault c =
    whole_fault c.args.reach c.branch_limit.result c.args.origin c.args.bytes.now c.in-Err.refusal c.moved.result c.branch_limit.ensures c.moved.ensures c.in-Err.ensures.fault

pub returns-in-Err-clause-err : goal.returns-in-Err-clause-err
returns-in-Err-clause-err c =
    let all : c.len-before.result ≡ length c.args.ops.now.items = search (rules, c.len-before.ensures) in
    c.truncate.ensures.items ∙ kept_front c.args.ops.now.items c.read_level.new.ops.items c.len-before.result all c.read_level.ensures.kept

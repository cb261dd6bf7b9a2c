use Rattle.std.proofs.lemmas.Result.{err_from_is_err_and}
use Rattle.expr_ops.proofs.ReadLaws.{two_read, second_fault}
use Rattle.expr_ops.proofs.head.read_two.Goals as goal

pub returns-in_err-second-clause-fault : goal.returns-in_err-second-clause-fault
returns-in_err-second-clause-fault c =
    let p = err_from_is_err_and c.from_residual-in_err-second.result c.from_residual-in_err-second.ensures.1 in
    rw (p.1, p.2) (second_fault c.args.shape c.args.other c.args.bytes.now c.args.at c.in_ok-first.first c.in_err-second.field-0.0 c.in_ok-first.ensures.read c.in_err-second.ensures.fault c.in_err-second.ensures.place)

pub returns-clause-read : goal.returns-clause-read
returns-clause-read c =
    two_read c.args.shape c.args.other c.args.bytes.now c.args.at c.in_ok-first.first c.in_ok-second.second c.in_ok-first.ensures.read c.in_ok-second.ensures.read

use Rattle.expr_ops.proofs.ReadLaws.{one_body, two_body, typed_body}
use Rattle.expr_ops.proofs.head.read_operands.Goals as goal

pub returns-in_ok-read-in-One-clause-read : goal.returns-in_ok-read-in-One-clause-read
returns-in_ok-read-in-One-clause-read c =
    let r = c.in_ok-read-in-One in
    rw c.in-One.is (one_body c.args.code c.in-One.shape c.args.bytes.now c.args.at r.read c.holding.result r.ensures.read (c.holding.ensures.head c.args.bytes.now) (c.holding.ensures.lies _) c.holding.ensures.end c.holding.ensures.block)

pub returns-in_ok-read-in-Two-clause-read : goal.returns-in_ok-read-in-Two-clause-read
returns-in_ok-read-in-Two-clause-read c =
    let r = c.in_ok-read-in-Two in
    let h = c.holding_two in
    rw c.in-Two.is (two_body c.args.code c.in-Two.shape c.in-Two.other c.args.bytes.now c.args.at r.read h.result r.ensures.read (h.ensures.head c.args.bytes.now) (h.ensures.lies _) h.ensures.end h.ensures.block)

pub returns-in_ok-read-in-Typed-clause-read : goal.returns-in_ok-read-in-Typed-clause-read
returns-in_ok-read-in-Typed-clause-read c =
    let r = c.in_ok-read-in-Typed in
    let h = c.holding_two-in-Typed in
    rw c.in-Typed.is (typed_body c.args.code c.in-Typed.shape c.args.bytes.now c.args.at r.read h.result r.ensures.read (h.ensures.head c.args.bytes.now) (h.ensures.lies _) h.ensures.end)

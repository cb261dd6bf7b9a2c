use Rattle.std.proofs.Common.{refl, arith}
use Rattle.line_step.proofs.AddressWays.{none_best, long_best, found_best}
use Rattle.line_step.proofs.address.way_with.Goals as goal

pub returns-in_default : goal.returns-in_default
returns-in_default c =
    none_best c.args.range c.args.min c.args.distance c.args.fixed_adds c.args.const_adds c.from.result c.from-2.result c.from-scale.result c.from-3.result c.from.ensures c.from-2.ensures c.from-scale.ensures c.from-3.ensures (c.in_default.ensures.none refl)

pub returns-then-bytes : goal.returns-then-bytes
returns-then-bytes c =
    long_best c.args.range c.args.min c.args.distance c.args.fixed_adds c.args.const_adds c.from.result c.from-2.result c.from-scale.result c.from-3.result c.in-Some.operand c.advance_pc_bytes.result c.from.ensures c.from-2.ensures c.from-scale.ensures c.from-3.ensures c.in-Some.ensures.some c.advance_pc_bytes.ensures.bytes (omega arith)

pub returns : goal.returns
returns c =
    found_best c.args.range c.args.min c.args.distance c.args.fixed_adds c.args.const_adds c.from.result c.from-2.result c.from-scale.result c.from-3.result c.in-Some.operand c.advance_pc_bytes.result c.from.ensures c.from-2.ensures c.from-scale.ensures c.from-3.ensures (omega arith) c.in-Some.ensures.some c.advance_pc_bytes.ensures.bytes (omega arith)

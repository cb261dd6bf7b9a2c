use Rattle.std.proofs.Common.{◌≡◌, length, arith}
use Rattle.std.proofs.lemmas.List.{length-map}
use Rattle.dw_base.specs.declared.fault.Reach.TheVariants.{Narrow}
use Rattle.expr_ops.specs.Ops.{meant, all_meant}
use Rattle.expr_ops.proofs.PlainLaws.{expression_sized}
use Rattle.expr_ops.proofs.NeededFew.{shortest_less}
use Rattle.expr_ops.proofs.shortest.shortest_len.Goals as goal

pub len_of-requires-clause-nest : goal.len_of-requires-clause-nest
len_of-requires-clause-nest c = (expression_sized Narrow (all_meant c.args.bytes.now c.args.ops.now) c.args.bytes.now c.requires.old).nest

-- an operation takes 64 bytes where it is held, so there are few
pub len_of-requires-clause-fits : goal.len_of-requires-clause-fits
len_of-requires-clause-fits c =
    let less = shortest_less c.args.refs.now (all_meant c.args.bytes.now c.args.ops.now) c.requires.refs in
    let h = (expression_sized Narrow (all_meant c.args.bytes.now c.args.ops.now) c.args.bytes.now c.requires.old).few in
    let count : length (all_meant c.args.bytes.now c.args.ops.now) ≡ length c.args.ops.now = length-map c.args.ops.now (meant c.args.bytes.now) in
    omega (arith, less, h, count)

pub returns-clause-bound : goal.returns-clause-bound
returns-clause-bound c =
    let less = shortest_less c.args.refs.now (all_meant c.args.bytes.now c.args.ops.now) c.requires.refs in
    let h = (expression_sized Narrow (all_meant c.args.bytes.now c.args.ops.now) c.args.bytes.now c.requires.old).thrice in
    let e = c.len_of.ensures.len in
    omega (arith, less, h, e)

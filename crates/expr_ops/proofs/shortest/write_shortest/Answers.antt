use Rattle.std.proofs.Common.{List, ℕ, sym, subst, ◌∙◌, arith}
use Rattle.std.proofs.lemmas.Result.{on_ok_weaker}
use Rattle.dw_base.specs.declared.fault.Reach.TheVariants.{Narrow}
use Rattle.expr_ops.specs.Ops.{all_meant}
use Rattle.expr_ops.specs.Writing.{CanBeWritten}
use Rattle.expr_ops.proofs.PlainLaws.{expression_sized}
use Rattle.expr_ops.proofs.NeededFew.{shortest_written, shortest_added}
use Rattle.expr_ops.proofs.shortest.write_shortest.Goals as goal

pub sizes_of-requires-clause-nest : goal.sizes_of-requires-clause-nest
sizes_of-requires-clause-nest c = (expression_sized Narrow (all_meant c.args.bytes.now c.args.ops.now) c.args.bytes.now c.requires.old).nest

pub write_expr-requires-clause-fits : goal.write_expr-requires-clause-fits
write_expr-requires-clause-fits c =
    let len = c.shortest_len.ensures.len in
    let short = c.if-shortest_len.false in
    subst (λ (z : List ℕ). CanBeWritten c.args.refs.now z c.args.bytes.now c.args.ops.now) (sym (c.deref.ensures.value ∙ c.in_ok-sizes.ensures)) (shortest_written c.args.refs.now c.args.bytes.now c.args.ops.now c.requires.old c.requires.refs (omega (arith, len, short)))

pub returns-clause-ok : goal.returns-clause-ok
returns-clause-ok c =
    let len = c.shortest_len.ensures.len in
    let short = c.if-shortest_len.false in
    on_ok_weaker c.write_expr.result (shortest_added c.args.refs.now c.args.bytes.now c.args.ops.now c.requires.old c.requires.refs (omega (arith, len, short)) c.deref.result.now c.args.out.now.items c.write_expr.new.out.items (c.deref.ensures.value ∙ c.in_ok-sizes.ensures)) c.write_expr.ensures.ok

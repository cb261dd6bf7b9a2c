use Rattle.std.proofs.Common.{◌<◌, ◌∙◌, ap, length, arith}
use Rattle.tidy_tables.proofs.OutlineLaws.{used_more, used_same, items_of}
use Rattle.tidy_tables.proofs.outlines.used_outlines.Goals as goal
use Rattle.tidy_tables.proofs.outlines.used_outlines.Goals.{then-index-gt0+in_ok-read_outline+in_ok-push, else-index-gt0}

pub loop-number-preserved : goal.loop-number-preserved
loop-number-preserved c =
    let number = c.loop-number.number in
    let inside : number < length c.args.table.now.decls = omega arith in
    elim c.if-index-gt0.branch [
      | then-index-gt0+in_ok-read_outline+in_ok-push w ↦ used_more c.args.table.now c.args.uses.now.items c.requires c.loop-number.used.items number c.index.result.now inside c.loop-number.invariant c.index.ensures w.in_ok-read_outline.field-0 c.if-index-gt0.used.items w.if-index-gt0.true w.in_ok-read_outline.ensures (ap items_of w.used-is ∙ w.in_ok-push.ensures.items)
      | else-index-gt0 w ↦ used_same c.args.table.now c.args.uses.now.items c.requires c.loop-number.used.items number c.index.result.now inside c.loop-number.invariant c.index.ensures c.if-index-gt0.used.items w.if-index-gt0.false (ap items_of w.used-is)
    ]

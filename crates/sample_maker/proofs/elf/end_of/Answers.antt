use Rattle.std.proofs.Common.{◌+◌, get_or, arith}
use Rattle.std.proofs.lemmas.List.{get_or_default}
use Rattle.sample_maker.specs.declared.elf.Row.{Row}
use Rattle.sample_maker.specs.inside.Images.{sizes_of}
use Rattle.sample_maker.proofs.Entering.{no_row, rows_one_more}
use Rattle.sample_maker.proofs.elf.end_of.Goals as goal

pub overflow_add-end : goal.overflow_add-end
overflow_add-end c =
    let x : Row = get_or c.args.rows.now c.loop-row.row-index no_row in
    record { fits = omega (arith, c.requires, rows_one_more c.args.rows.now c.loop-row.row-index x c.loop-row.end (64 + sizes_of c.args.rows.now) c.loop-row-test.true (get_or_default c.args.rows.now c.loop-row.row-index no_row x c.loop-row-test.true) c.loop-row.invariant) }

pub loop-row-preserved : goal.loop-row-preserved
loop-row-preserved c =
    let x : Row = get_or c.args.rows.now c.loop-row.row-index no_row in
    rows_one_more c.args.rows.now c.loop-row.row-index x c.loop-row.end (64 + sizes_of c.args.rows.now) c.loop-row-test.true (get_or_default c.args.rows.now c.loop-row.row-index no_row x c.loop-row-test.true) c.loop-row.invariant

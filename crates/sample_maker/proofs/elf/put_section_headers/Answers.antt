use Rattle.std.proofs.Common.{◌+◌, ◌++◌, get_or, arith}
use Rattle.std.proofs.lemmas.List.{get_or_default}
use Rattle.sample_maker.specs.declared.elf.Row.{Row}
use Rattle.sample_maker.specs.inside.Images.{sizes_of, no_section, section_headers_bytes}
use Rattle.sample_maker.proofs.Entering.{no_row, rows_one_more, headers_one_more}
use Rattle.sample_maker.proofs.elf.put_section_headers.Goals as goal

pub overflow_add-at : goal.overflow_add-at
overflow_add-at c =
    let x : Row = get_or c.args.rows.now c.loop-row.row-index no_row in
    record { fits = omega (arith, c.requires, rows_one_more c.args.rows.now c.loop-row.row-index x c.loop-row.at (64 + sizes_of c.args.rows.now) c.loop-row-test.true (get_or_default c.args.rows.now c.loop-row.row-index no_row x c.loop-row-test.true) c.loop-row.invariant.place) }

pub loop-row-preserved : goal.loop-row-preserved
loop-row-preserved c =
    let x : Row = get_or c.args.rows.now c.loop-row.row-index no_row in
    record {
      left = headers_one_more c.args.rows.now c.loop-row.row-index x c.loop-row.at c.loop-row.out.items c.put_section_header.new.out.items (c.args.out.now.items ++ (no_section ++ section_headers_bytes 64 c.args.rows.now)) c.loop-row-test.true (get_or_default c.args.rows.now c.loop-row.row-index no_row x c.loop-row-test.true) c.loop-row.invariant.left c.in_ok-put_section_header.ensures;
      place = rows_one_more c.args.rows.now c.loop-row.row-index x c.loop-row.at (64 + sizes_of c.args.rows.now) c.loop-row-test.true (get_or_default c.args.rows.now c.loop-row.row-index no_row x c.loop-row-test.true) c.loop-row.invariant.place;
    }

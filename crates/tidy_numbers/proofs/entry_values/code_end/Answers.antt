use Rattle.entry_read.proofs.ColumnPlaces.{code_ends, code_found}
use Rattle.tidy_numbers.proofs.entry_values.code_end.Goals as goal

pub unreachable-requires : goal.unreachable-requires
unreachable-requires c =
    let there = c.requires in
    code_found c.args.info.now there.0 c.args.at there.1 there.2 c.in-Err.field-0 c.in-Err.ensures.short c.in-Err.ensures.wide

pub returns : goal.returns
returns c = code_ends c.args.info.now c.args.at c.in-Ok.code.end c.in-Ok.code.value c.in-Ok.ensures.within.0 c.in-Ok.ensures.within.1 c.in-Ok.ensures.read c.in-Ok.ensures.fits

use Rattle.std.proofs.Common.{◌<◌, length, arith}
use Rattle.tidy_tables.proofs.CodeLaws.{size_step, size_step_code}
use Rattle.tidy_tables.proofs.codes.take_no_more.Goals as goal

pub loop-i-preserved : goal.loop-i-preserved
loop-i-preserved c =
    let uses = c.args.uses.now in
    let numbers = c.args.numbers.now in
    let i = c.loop-i.i in
    let l = c.loop-i.invariant in
    let inside : i < length uses = omega arith in
    record {
      taken = size_step_code c.args.table.now uses i c.loop-i.taken c.bytes_of-taken.result c.decl.result c.requires.count inside l.taken c.decl.ensures c.bytes_of-taken.ensures.bytes;
      enough = size_step uses numbers i c.loop-i.enough c.bytes_of-enough.result c.from.result inside (omega arith) l.enough c.from.ensures c.bytes_of-enough.ensures.bytes;
      taken_few = omega (arith, l.taken_few, c.bytes_of-taken.ensures.small);
      enough_few = omega (arith, l.enough_few, c.bytes_of-enough.ensures.small);
    }

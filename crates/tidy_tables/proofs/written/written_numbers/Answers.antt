use Rattle.std.proofs.Common.{◌≡◌, length, subst, arith}
use Rattle.tidy_tables.specs.inside.WrittenTables.{AreWrittenAmong}
use Rattle.tidy_tables.proofs.WrittenLaws.{written_all}
use Rattle.tidy_tables.proofs.written.written_numbers.Goals as goal

pub returns : goal.returns
returns c =
    let l = c.loop-unit.invariant in
    let all : c.loop-unit.unit ≡ length c.args.old_of.now.items = omega arith in
    written_all c.args.old_of.now.items c.args.new_of.now.items c.loop-unit.written.items c.args.count l.size c.requires.named (subst (λ (z : _). AreWrittenAmong c.args.old_of.now.items c.args.new_of.now.items z c.loop-unit.written.items) all l.written)

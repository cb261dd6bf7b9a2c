use Rattle.std.proofs.Common.{◌≤◌, length}
use Rattle.elf_place.proofs.Totals.{total}
use Rattle.rewriter.specs.inside.Appended.{AreAppended}
use Rattle.rewriter.proofs.SectionSizes.{tables_most}
use Rattle.rewriter.proofs.tables.write_all.Given as goal

abbrev pub invariant-loop-i : goal.invariant-loop-i
invariant-loop-i l = record {
  appended : AreAppended l.classes l.world.units l.world.tables l.all.items l.i l.bytes.items l.written.items;
  few : length l.bytes.items ≤ total (tables_most l.world.tables l.all.items) l.i;
}

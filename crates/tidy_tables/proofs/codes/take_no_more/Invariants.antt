use Rattle.std.proofs.Common.{◌≡◌, ◌≤◌, ◌*◌, ◌^◌, take}
use Rattle.leb_codec.specs.Numbering.{numbering_size}
use Rattle.tidy_tables.specs.inside.Codes.{codes_in}
use Rattle.tidy_tables.proofs.codes.take_no_more.Given as goal

abbrev pub invariant-loop-i : goal.invariant-loop-i
invariant-loop-i l = record {
  taken : l.taken ≡ numbering_size (take l.i l.uses) (take l.i (codes_in l.table));
  enough : l.enough ≡ numbering_size (take l.i l.uses) (take l.i l.numbers);
  taken_few : l.taken ≤ l.i * 2 ^ 28;
  enough_few : l.enough ≤ l.i * 2 ^ 28;
}

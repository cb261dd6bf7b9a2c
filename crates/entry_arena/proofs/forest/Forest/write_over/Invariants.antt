use Rattle.std.proofs.Common.{◌≡◌, ◌+◌, length, take}
use Rattle.std.specs.Prelude.{slice_range}
use Rattle.entry_arena.proofs.forest.Forest.write_over.Given as goal

abbrev pub invariant-loop-place : goal.invariant-loop-place
invariant-loop-place l = record {
  size : length l.row.items ≡ length l.fn.row.items;
  written : take l.place l.row.items ≡ slice_range l.self.values l.first (l.first + l.place);
}

use Rattle.std.proofs.Common.{◌≡◌, length, take}
use Rattle.elf_place.specs.inside.Bodies.{IsTable}
use Rattle.elf_place.proofs.bodies.table_of.Given as goal

abbrev pub invariant-loop-place : goal.invariant-loop-place
invariant-loop-place l = record {
  count : length l.table.items ≡ l.count;
  table : IsTable (take l.place l.bodies) l.table.items;
}

use Rattle.std.proofs.Common.{take}
use Rattle.tidy_tables.specs.inside.UseCounts.{AreCounted}
use Rattle.tidy_tables.proofs.uses.count_among.Given as goal

abbrev pub invariant-loop-u : goal.invariant-loop-u
invariant-loop-u l = AreCounted (take l.u l.units.items) l.tables.items l.all.items

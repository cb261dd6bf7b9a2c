use Rattle.std.proofs.Common.{take}
use Rattle.rewriter.specs.inside.Counting.{AreCounted}
use Rattle.rewriter.proofs.uses.count_uses.Given as goal

abbrev pub invariant-loop-u : goal.invariant-loop-u
invariant-loop-u l = AreCounted (take l.u l.units.items) l.tables.items l.all.items

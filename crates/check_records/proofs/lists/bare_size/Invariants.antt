use Rattle.check_records.specs.inside.Bare.{AreCounted}
use Rattle.check_records.proofs.lists.bare_size.Given as goal

abbrev pub invariant-loop-raw : goal.invariant-loop-raw
invariant-loop-raw l = AreCounted l.kind l.section l.list.raw l.raw-index l.size

use Rattle.unit_write.proofs.MarkSums.{HaveEntries, HaveEnds}
use Rattle.unit_write.proofs.marks.Marks.with_sizes.Given as goal

abbrev pub invariant-loop-id : goal.invariant-loop-id
invariant-loop-id l = HaveEntries l.fn.self l.sizes l.id l.places.start l.places.entries.items l.places.ends.items l.places.end

abbrev pub invariant-loop-number : goal.invariant-loop-number
invariant-loop-number l = HaveEnds l.fn.self l.sizes l.number l.places.start l.places.entries.items l.places.ends.items l.places.end

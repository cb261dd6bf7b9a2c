use Rattle.std.proofs.Common.{◌+◌, ℕ, get_or}
use Rattle.unit_write.proofs.NumbersSet.{AreSet}
use Rattle.unit_write.proofs.places.Places.moved_to.Given as goal

abbrev pub invariant-loop-id : goal.invariant-loop-id
invariant-loop-id l = AreSet (λ (k : ℕ). get_or l.fn.self.entries.items k 0 + l.start) l.fn.self.entries.items l.id l.entries.items

abbrev pub invariant-loop-number : goal.invariant-loop-number
invariant-loop-number l = AreSet (λ (k : ℕ). get_or l.fn.self.ends.items k 0 + l.start) l.fn.self.ends.items l.number l.ends.items

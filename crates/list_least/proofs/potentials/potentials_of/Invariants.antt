use Rattle.std.specs.Prelude.{◌≤◌, map, drop, length}
use Rattle.list_least.specs.Plans.{bounds_of}
use Rattle.list_least.proofs.Tails.{IsKnown}
use Rattle.list_least.proofs.potentials.potentials_of.Given as goal

abbrev pub invariant-loop-count : goal.invariant-loop-count
invariant-loop-count l = (l.count ≤ length l.items) × IsKnown l.addr l.context (map bounds_of (drop l.count l.items)) l.potentials.items l.choices.items l.tail

abbrev pub decreases-loop-count : goal.decreases-loop-count
decreases-loop-count l = l.count

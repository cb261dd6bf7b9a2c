use Rattle.std.proofs.Common.{ℕ, ◌<◌}
use Rattle.tidy_tables.specs.inside.Codes.{IsWasteful}
use Rattle.tidy_tables.proofs.codes.first_wasteful.Given as goal

abbrev pub invariant-loop-i : goal.invariant-loop-i
invariant-loop-i l = (k : ℕ) → k < l.i → IsWasteful l.tables.items l.all.items k → ⊥

-- What the reader of expressions needs and gives while it goes on.
use Rattle.std.specs.Prelude.{◌≡◌, ◌≢◌, ◌<◌, ◌^◌, ◌++◌, ℕ, List, length}
use Rattle.expr_ops.specs.declared.op.Op.{Op}
use Rattle.entry_arena.specs.Operations.{HeldOps, AreRuns, ComesLast, ops_of}

-- the runs are in order, as far as numbers of 32 bits name all operations
abbrev pub AreRunsOfFew : HeldOps → Type 0
AreRunsOfFew held = length held.ops < 2 ^ 32 → AreRuns held

-- a value has more operations, and others have those that they had
pub record AddsOps (number : ℕ) (ops : List Op) (old new : HeldOps) : Type 0 where
  pub own : ops_of new number ≡ ops_of old number ++ ops
  pub others : (other : ℕ) → other ≢ number → ops_of new other ≡ ops_of old other
  pub last : ComesLast new.runs number
  pub runs : AreRunsOfFew new

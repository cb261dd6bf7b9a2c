-- How many bytes an expression can get that is written in its fewest bytes.
use Rattle.std.specs.Prelude.{◌≤◌, ◌<◌, ◌*◌, ◌^◌, ℕ, List, length, All}
use Rattle.dw_base.specs.declared.fault.Reach.TheVariants.{Narrow}
use Rattle.expr_ops.specs.Expressions.{Operation, IsExpression}
use Rattle.expr_ops.specs.Shortest.{shortest_length}

-- A law: with references below 2^32 at most three times those that it had.
abbrev pub ShortestIsFew : Type 0
ShortestIsFew = (refs : List ℕ) (os : List Operation) (bytes : List ℕ) → IsExpression Narrow os bytes → All (λ n. n < 2 ^ 32) refs → shortest_length refs os ≤ 3 * length bytes

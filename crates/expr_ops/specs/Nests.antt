-- Operations that follow those that hold them.
use Rattle.std.specs.Prelude.{◌≡◌, List, [], ◌∷◌, ◌++◌, length}
use Rattle.expr_ops.specs.Expressions.{Operation}

-- an operation, those that it holds, and those behind these
pub data Nest : List Operation → Type 0 where
  none : Nest []
  one : (o : Operation) (rest held behind : List Operation) → rest ≡ held ++ behind → o.inner ≡ length held → Nest held → Nest behind → Nest (o ∷ rest)

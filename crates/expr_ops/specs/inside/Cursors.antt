-- Which references are left.
-- Inner functions and proofs alone need what stands here.
use Rattle.std.specs.Prelude.{◌≡◌, ℕ, List, ◌++◌}
use Rattle.expr_ops.specs.Expressions.{Operation}
use Rattle.expr_ops.specs.Drafts.{with_refs}

-- behind the references that these operations take, the rest are left
abbrev pub Leaves : List ℕ → List Operation → List ℕ → Type 0
Leaves refs os rest = (more : List Operation) → with_refs refs (os ++ more) ≡ with_refs refs os ++ with_refs rest more

-- The pair of line_base and line_range under which the steps of a program cost least.
use Rattle.std.specs.Prelude.{◌≤◌, ℕ, ℤ, List}
use Rattle.line_machine.specs.declared.head.Head.{Head}
use Rattle.line_machine.specs.Class.{IsPair, ComesFirst}
use Rattle.line_params.specs.declared.pair.Pair.{Pair}
use Rattle.line_sums.specs.declared.step.Step.{Step}
use Rattle.line_sums.specs.Steps.{StepsWithin}

-- Under this pair the steps cost no more than under any other one, and of those under which they cost as much it comes first.
pub record IsLeastPair (head : Head) (steps : List Step) (chosen : Pair) : Type 0 where
  pub pair : IsPair chosen.base chosen.range
  pub bytes : ℕ
  pub enough : StepsWithin chosen.base chosen.range head.min steps bytes
  pub least : (base : ℤ) (range n : ℕ) → IsPair base range → StepsWithin base range head.min steps n → bytes ≤ n
  pub first : (base : ℤ) (range : ℕ) → IsPair base range → StepsWithin base range head.min steps bytes → ComesFirst head chosen.base chosen.range base range

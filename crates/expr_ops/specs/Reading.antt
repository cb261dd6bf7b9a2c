-- What is given of an expression that was read.
use Rattle.std.specs.Prelude.{◌≡◌, ◌<◌, ◌++◌, ◌^◌, ℕ, List, length}
use Rattle.dw_base.specs.declared.fault.Reach.{Reach}
use Rattle.expr_ops.specs.declared.op.Op.{Op}
use Rattle.expr_ops.specs.Expressions.{IsExpression}
use Rattle.expr_ops.specs.Ops.{all_meant, Chain}

-- the operations of the bytes stand behind others, each with its place
pub record IsExpressionRead (reach : Reach) (bytes : List ℕ) (old new : List Op) : Type 0 where
  pub more : List Op
  pub items : new ≡ old ++ more
  pub read : IsExpression reach (all_meant bytes more) bytes
  pub places : Chain bytes 0 more (length bytes)
  pub few : length new < 2 ^ 32

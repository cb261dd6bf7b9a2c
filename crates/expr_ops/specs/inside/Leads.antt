-- Of two operands the first is a number without a sign.
-- Inner functions and proofs alone need what stands here.
use Rattle.std.specs.Prelude.{Bool, true, false, Option, Some}
use Rattle.expr_ops.specs.declared.table.Shape.{Shape}
use Rattle.expr_ops.specs.declared.table.Shape.TheVariants as shape
use Rattle.expr_ops.specs.declared.table.Operands.{Operands}
use Rattle.expr_ops.specs.declared.table.Operands.TheVariants as operands

abbrev pub is_number : Shape → Bool
is_number (shape.Unsigned w) = true
is_number shape.Uleb = true
is_number _ = false

abbrev pub is_led : Option Operands → Bool
is_led (Some (operands.Two s t)) = is_number s
is_led _ = true

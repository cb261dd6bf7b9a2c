-- Laws of what steps cost.
use Rattle.std.specs.Prelude.{◌≡◌, ◌≤◌, ◌+◌, ℕ, List, length}
use Rattle.line_machine.specs.declared.head.Head.{Head}
use Rattle.line_machine.specs.declared.registers.Row.{Row}
use Rattle.line_machine.specs.Class.{Encoding, IsEncoding}
use Rattle.line_sums.specs.declared.count.CountedStep.{CountedStep}
use Rattle.line_sums.specs.declared.step.Step.{Step}
use Rattle.line_sums.specs.Ordered.{AreOrdered}
use Rattle.line_sums.specs.Steps.{StepsWithin, steps_of, fixed_bytes}

-- No member of the class is shorter than what its rows cost under its pair.
abbrev pub NoShorter : Type 0
NoShorter =
    (head : Head) (rows : List Row) (e : Encoding) →
    head.min ≤ 255 →
    IsEncoding head rows e →
    (k : ℕ) × StepsWithin e.base e.range head.min (steps_of rows) k × (fixed_bytes head.stmt rows + k ≤ length e.bytes)

-- The different steps of a program have one order.
abbrev pub OneOrder : Type 0
OneOrder = (steps : List Step) (counted other : List CountedStep) → AreOrdered steps counted → AreOrdered steps other → counted ≡ other

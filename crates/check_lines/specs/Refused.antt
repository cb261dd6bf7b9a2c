-- When a program's record is refused: the first pair of line_base and line_range whose number isn't accepted.
use Rattle.std.specs.Prelude.{◌<◌, ℕ, List, slice_index}
use Rattle.dw_base.specs.declared.record.Run.{Run}
use Rattle.leb_codec.specs.Records.{pair_count}
use Rattle.line_machine.specs.declared.head.Head.{Head}
use Rattle.line_machine.specs.declared.registers.Row.{Row}
use Rattle.line_sums.specs.declared.count.CountedStep.{CountedStep}
use Rattle.line_sums.specs.Accepted.{IsPairAccepted, numbers_of}
use Rattle.line_sums.specs.Ordered.{AreOrdered}
use Rattle.line_sums.specs.Steps.{steps_of}

-- a pair is the first whose number isn't accepted, by the different steps in their order
pub record IsFirstRefused (head : Head) (rows : List Row) (size : ℕ) (runs : List Run) (pair : ℕ) : Type 0 where
  pub counted : List CountedStep
  pub ordered : AreOrdered (steps_of rows) counted
  pub there : pair < pair_count
  pub refused : ¬ IsPairAccepted head rows size counted pair (slice_index (numbers_of runs) pair)
  pub before : (earlier : ℕ) → earlier < pair → IsPairAccepted head rows size counted earlier (slice_index (numbers_of runs) earlier)

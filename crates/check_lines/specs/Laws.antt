-- What acceptance shows.
use Rattle.std.specs.Prelude.{◌≡◌, ◌≤◌, ℕ, List, length}
use Rattle.dw_base.specs.declared.record.Run.{Run}
use Rattle.line_machine.specs.declared.head.Head.{Head}
use Rattle.line_machine.specs.declared.registers.Row.{Row}
use Rattle.line_machine.specs.Class.{Encoding, IsEncoding}
use Rattle.line_sums.specs.Accepted.{AreAcceptedRuns, NoneTakesFewer}
use Rattle.check_lines.specs.Refused.{IsFirstRefused}

-- Where the number of each pair is accepted against a size, the rows take no fewer bytes under any pair.
abbrev pub AcceptedTakeFewest : Type 0
AcceptedTakeFewest = (head : Head) (rows : List Row) (size : ℕ) (runs : List Run) → AreAcceptedRuns head rows size runs → NoneTakesFewer head rows size

-- Then no byte string that gives the rows under any pair is shorter.
abbrev pub AcceptedAreLeast : Type 0
AcceptedAreLeast =
    (head : Head) (rows : List Row) (size : ℕ) (runs : List Run) (e : Encoding) →
    head.min ≤ 255 →
    AreAcceptedRuns head rows size runs →
    IsEncoding head rows e →
    size ≤ length e.bytes

-- A program isn't both accepted and refused, and is refused for one pair.
pub record OneVerdict : Type 0 where
  pub apart : (head : Head) (rows : List Row) (size : ℕ) (runs : List Run) (pair : ℕ) → AreAcceptedRuns head rows size runs → IsFirstRefused head rows size runs pair → ⊥
  pub one : (head : Head) (rows : List Row) (size : ℕ) (runs : List Run) (pair other : ℕ) → IsFirstRefused head rows size runs pair → IsFirstRefused head rows size runs other → pair ≡ other

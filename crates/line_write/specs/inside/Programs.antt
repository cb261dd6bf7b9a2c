-- The line number programs of a section (DWARF 5 section 6.2.4), one after the other, and how each is written anew.
-- Inner functions and proofs alone need what stands here.
use Rattle.std.specs.Prelude.{ℕ, List, length, ◌≤◌, ◌*◌}
use Rattle.dw_base.specs.declared.record.Run.{Run}
use Rattle.line_machine.specs.declared.head.Head.{Head}
use Rattle.line_machine.specs.declared.registers.Row.{Row}
use Rattle.line_machine.specs.Rows.{GivesRows}
use Rattle.line_machine.specs.Heads.{program_of}
use Rattle.line_machine.specs.Faults.{row_limit}
use Rattle.line_machine.specs.Class.{Encoding, IsTaken}
use Rattle.line_sums.specs.Accepted.{AreLeastRuns}
use Rattle.line_params.specs.Order.{AreInOrder}

-- The program of a head gives rows, no more than one may have.
abbrev pub GivesFew : List ℕ → Head → Type 0
GivesFew section head = (rows : List Row) × GivesRows head (program_of section head) rows × (length rows ≤ row_limit)

-- The encoding is the one that is taken for the rows of a head's program, and its opcodes stand in the order that
-- line_params states. No row has more than 68 of its bytes. The runs show for these rows why none is shorter.
pub record IsLeastFor (section : List ℕ) (head : Head) (encoding : Encoding) (runs : List Run) : Type 0 where
  pub rows : List Row
  pub given : GivesRows head (program_of section head) rows
  pub few : length rows ≤ row_limit
  pub taken : IsTaken head rows encoding
  pub order : AreInOrder head.stmt encoding.base encoding.range head.min rows encoding.bytes
  pub short : length encoding.bytes ≤ 68 * length rows
  pub judged : AreLeastRuns head rows (length encoding.bytes) runs

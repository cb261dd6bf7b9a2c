-- The records that show why line number programs are least (DWARF 5 section 6.2): for each program runs of pairs of line_base and
-- line_range.
use Rattle.std.specs.Prelude.{ℕ, List, length}
use Rattle.std.specs.List.{AllZip}
use Rattle.dw_base.specs.declared.record.Run.{Run}
use Rattle.line_machine.specs.declared.head.Head.{Head}
use Rattle.line_machine.specs.declared.registers.Row.{Row}
use Rattle.line_machine.specs.Rows.{GivesRows}
use Rattle.line_machine.specs.Heads.{program_of}
use Rattle.line_write.specs.Programs.{Tile}

-- The runs are judged by the rows that the program of a head gives, and by how many bytes its opcodes have.
pub record AreRunsFor (Judge : Head → List Row → ℕ → List Run → Type 0) (section : List ℕ) (head : Head) (runs : List Run) : Type 0 where
  pub rows : List Row
  pub given : GivesRows head (program_of section head) rows
  pub judged : Judge head rows (length (program_of section head)) runs

-- there are runs for each program of a section, in their order
abbrev pub HaveRuns : (Head → List Row → ℕ → List Run → Type 0) → List ℕ → List (List Run) → Type 0
HaveRuns Judge section all = (heads : List Head) × Tile section heads × AllZip (AreRunsFor Judge section) heads all

-- Laws of line opcodes and programs.
use Rattle.std.specs.Prelude.{◌≡◌, ◌≤◌, ℕ, List, length}
use Rattle.spelled.specs.Spelled.{HasUniqueFronts, NeverBoth}
use Rattle.line_machine.specs.declared.head.Head.{Head}
use Rattle.line_machine.specs.declared.registers.Row.{Row}
use Rattle.line_machine.specs.Opcodes.{SpellsOpcode, IsBase}
use Rattle.line_machine.specs.Rows.{GivesRows}
use Rattle.line_machine.specs.Heads.{program_of}
use Rattle.line_machine.specs.Faults.{FaultOpcode, ProgramFault, row_limit}
use Rattle.dw_base.specs.Refusals.{IsFaulty}

-- An opcode's bytes end by themselves: none begins another, and bytes spell one opcode.
abbrev pub OpcodesEnd : Type 0
OpcodesEnd = (base : ℕ) → IsBase base → HasUniqueFronts (SpellsOpcode base)

-- Bytes that begin with an opcode have no fault of an opcode.
abbrev pub OpcodesWhole : Type 0
OpcodesWhole = (base : ℕ) → IsBase base → NeverBoth (SpellsOpcode base) (FaultOpcode base)

-- Bytes give the rows of at most one list.
abbrev pub OneReading : Type 0
OneReading = (head : Head) (bytes : List ℕ) (rows more : List Row) → IsBase head.opcode_base → GivesRows head bytes rows → GivesRows head bytes more → rows ≡ more

-- A program that gives rows, of which there aren't too many, has no fault.
abbrev pub ProgramsWhole : Type 0
ProgramsWhole = (section : List ℕ) (head : Head) (rows : List Row) → IsBase head.opcode_base → GivesRows head (program_of section head) rows → length rows ≤ row_limit → ¬ IsFaulty (ProgramFault section head)

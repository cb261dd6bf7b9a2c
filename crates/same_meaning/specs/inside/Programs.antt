-- What line number programs are compared by.
use Rattle.std.specs.Prelude.{◌≡◌, ℕ, List, slice_index_or}
use Rattle.dw_base.specs.Refusals.{IsFaulty}
use Rattle.line_machine.specs.declared.head.Head.{Head}
use Rattle.line_machine.specs.declared.registers.Row.{Row}
use Rattle.line_machine.specs.Heads.{IsHead, program_of, minimum_instruction_length, default_is_stmt}
use Rattle.line_machine.specs.Rows.{GivesRows}
use Rattle.line_machine.specs.Faults.{OpcodesFault}
use Rattle.line_write.specs.Programs.{tables_of}
use Rattle.value_links.specs.Reading.{no_program}

-- a line number program that stands in a section: it gives rows, and no opcode of it has a fault
pub record IsWholeProgram (section : List ℕ) (head : Head) : Type 0 where
  pub stands : IsHead section head
  pub given : (rows : List Row) × GivesRows head (program_of section head) rows
  pub faultless : ¬ IsFaulty (OpcodesFault section head)

-- two programs have the same minimum_instruction_length and default_is_stmt, and the same directory and file tables
pub record HaveSameFields (a : List ℕ) (h : Head) (b : List ℕ) (k : Head) : Type 0 where
  pub min : minimum_instruction_length a h.at ≡ minimum_instruction_length b k.at
  pub is_stmt : default_is_stmt a h.at ≡ default_is_stmt b k.at
  pub tables : tables_of a h ≡ tables_of b k

-- the header with a number; past the end there is none, and an empty one stands for it
abbrev pub head_among : List Head → ℕ → Head
head_among heads p = slice_index_or heads p no_program.head

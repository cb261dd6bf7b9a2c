-- What is read of the line number programs of what is drawn (DWARF 5 section 6.2).
use Rattle.std.specs.Prelude.{◌+◌, ◌*◌, ℕ, suc, List, [], ◌∷◌, ◌++◌, length, true, pos, negsuc}
use Rattle.line_machine.specs.declared.head.Head.{Head}
use Rattle.line_machine.specs.declared.opcode.Opcode.{Opcode}
use Rattle.line_machine.specs.declared.opcode.Opcode.TheVariants.{Copy, AdvancePc, AdvanceLine, SetColumn, EndSequence, SetAddress}
use Rattle.value_links.specs.Reading.{ProgramRead}
use Rattle.sample_maker.specs.declared.drawn.Step.{Step}
use Rattle.sample_maker.specs.Numbered.{join_from}
use Rattle.sample_maker.specs.Drawn.{FunctionDrawn, UnitDrawn}
use Rattle.sample_maker.specs.Places.{function_address}
use Rattle.sample_maker.specs.Generated.{sequence_of}
use Rattle.sample_maker.specs.inside.Bytes.{opcodes_bytes, program_bytes}

-- HEADERS

-- The header of the program of a unit, which has a number, where the program begins at a place: line_base is -5, the tables follow
-- the lengths of the twelve standard opcodes and have 24 bytes, and the opcodes follow them.
abbrev pub program_head : ℕ → ℕ → UnitDrawn → Head
program_head u at unit = record {
  at = at;
  len = length (program_bytes u unit);
  min = 1;
  stmt = true;
  base = negsuc 4;
  range = 14;
  opcode_base = 13;
  tables = record { at = at + 30; len = 24 };
  program = record { at = at + 54; len = length (opcodes_bytes u unit) };
}

-- OPCODES

-- of the rows behind the first
abbrev pub steps_opcodes : List Step → List Opcode
steps_opcodes [] = []
steps_opcodes (step ∷ steps) = AdvancePc step.advance ∷ AdvanceLine step.line ∷ Copy ∷ steps_opcodes steps

-- what begins the sequence of the function with a number, from line 1 on
abbrev pub first_opcodes : ℕ → ℕ → FunctionDrawn → List Opcode
first_opcodes u i f = SetColumn f.column ∷ SetAddress (function_address u i) ∷ AdvanceLine (pos (100 * i + 99)) ∷ Copy ∷ []

abbrev pub end_opcodes : List Opcode
end_opcodes = AdvancePc 4 ∷ EndSequence ∷ []

abbrev pub sequence_opcodes : ℕ → ℕ → FunctionDrawn → List Opcode
sequence_opcodes u i f = first_opcodes u i f ++ (steps_opcodes f.steps ++ end_opcodes)

-- of a unit's functions, of which the first has a number
abbrev pub opcodes_of : ℕ → ℕ → List FunctionDrawn → List Opcode
opcodes_of u i fs = join_from (sequence_opcodes u) i fs

-- PROGRAMS

-- the program of the unit with a number, where it begins at a place
abbrev pub program_read : ℕ → ℕ → UnitDrawn → ProgramRead
program_read u at unit = record { head = program_head u at unit; rows = join_from (sequence_of u) 0 unit }

-- the programs of units, of which the first has a number and its program begins at a place
abbrev pub programs_read : ℕ → ℕ → List UnitDrawn → List ProgramRead
programs_read u at [] = []
programs_read u at (unit ∷ units) = program_read u at unit ∷ programs_read (suc u) (at + length (program_bytes u unit)) units

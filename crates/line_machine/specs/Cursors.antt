-- How far a cursor over a line number program has come.
use Rattle.std.specs.Prelude.{◌≡◌, ◌≤◌, ◌+◌, ◌*◌, ◌^◌, ℕ, ℤ, pos, neg_ℤ, ◌≤ℤ◌, List, [], ◌++◌, length, take, drop, true, false, Option, None, IfSome}
use Rattle.spelled.specs.Spelled.{Joined}
use Rattle.dw_base.specs.declared.fault.Fault.{Fault}
use Rattle.dw_base.specs.declared.fault.Kind.{Kind}
use Rattle.dw_base.specs.declared.fault.Kind.TheVariants.{OpenSequence, LineValue}
use Rattle.line_machine.specs.declared.head.Head.{Head}
use Rattle.line_machine.specs.declared.registers.Row.{Row}
use Rattle.line_machine.specs.declared.opcode.Opcode.{Opcode}
use Rattle.line_machine.specs.declared.place.Place.{Place}
use Rattle.line_machine.specs.Opcodes.{SpellsOpcode}
use Rattle.line_machine.specs.Rows.{start, rows_from, rows_in, registers_after, IsSound, AreSound, ends}
use Rattle.line_machine.specs.Heads.{IsHead, program_of}
use Rattle.line_machine.specs.Faults.{FaultOpcode, OpcodesFault}
use Rattle.dw_base.specs.Refusals.{IsFaultOf}

-- The opcodes, joined, are the program's bytes before a place; their values are in range; the registers are those
-- after them, and whether a sequence has ended is what their rows say.
pub record Passed (head : Head) (program : List ℕ) (opcodes : List Opcode) (place : Place) : Type 0 where
  pub inside : place.at ≤ length program
  pub spelled : Joined (SpellsOpcode head.opcode_base) opcodes (take place.at program)
  pub sound : AreSound head (start head.stmt) opcodes
  pub registers : place.registers ≡ registers_after head (start head.stmt) opcodes
  pub ended : place.ended ≡ ends true (rows_from head (start head.stmt) opcodes)

-- The line is no further from 0 than so many opcodes can take it.
pub record IsNear (count : ℕ) (line : ℤ) : Type 0 where
  pub above : neg_ℤ (pos (1 + count * 2 ^ 63)) ≤ℤ line
  pub below : line ≤ℤ pos (1 + count * 2 ^ 63)

-- After what was passed at the old place more opcodes were passed up to the new one, and their rows are these.
pub record PassesOn (head : Head) (program : List ℕ) (old new : Place) (rows : List Row) : Type 0 where
  pub from : (before : List Opcode) → Passed head program before old → (more : List Opcode) × Passed head program (before ++ more) new × (rows_from head old.registers more ≡ rows)

-- The opcode at a place has a fault. Where it stands counts from the program's first byte.
abbrev pub FaultHere : Head → List ℕ → Place → Kind → ℕ → Type 0
FaultHere head program place LineValue at =
    (opcode : Opcode) × (size : ℕ) × SpellsOpcode head.opcode_base opcode (take size (drop place.at program)) × (¬ IsSound head opcode place.registers) × (at ≡ place.at)
FaultHere head program place kind at = (inner : ℕ) × FaultOpcode head.opcode_base kind inner (drop place.at program) × (at ≡ place.at + inner)

-- Opcodes that have no row are passed, and the next one has a fault.
pub record FaultAhead (head : Head) (program : List ℕ) (old : Place) (kind : Kind) (at : ℕ) : Type 0 where
  pub place : Place
  pub passes : PassesOn head program old place []
  pub fault : FaultHere head program place kind at

-- Opcodes that have no row are passed up to the program's end, and the last row doesn't end a sequence.
pub record OpenAhead (head : Head) (program : List ℕ) (old : Place) : Type 0 where
  pub place : Place
  pub passes : PassesOn head program old place []
  pub at_end : place.at ≡ length program
  pub unclosed : place.ended ≡ false

-- A fault stands before the next row, or before the end where there is none. Places count from the section's first byte.
abbrev pub NextFault : List ℕ → Head → Place → Kind → ℕ → Type 0
NextFault section head old OpenSequence at = (at ≡ head.at) × OpenAhead head (program_of section head) old
NextFault section head old kind at = (inner : ℕ) × (at ≡ head.program.at + inner) × FaultAhead head (program_of section head) old kind inner

-- what contracts see of a cursor: its head, the file offset of the section's first byte, its place, and the fault
-- that it has answered
pub record Progress : Type 0 where
  pub head : Head
  pub origin : ℕ
  pub place : Place
  pub stopped : Option Fault

-- the place at the start of a program
abbrev pub at_start : Head → Place
at_start head = record { at = 0; registers = start head.stmt; ended = true }

-- The head of the cursor stands in the section, its place is one after some opcodes of the program, and the program
-- has the fault that the cursor has answered.
pub record Stands (section : List ℕ) (cursor : Progress) : Type 0 where
  pub head : IsHead section cursor.head
  pub opcodes : List Opcode
  pub passed : Passed cursor.head (program_of section cursor.head) opcodes cursor.place
  pub faulty : IfSome cursor.stopped (IsFaultOf (OpcodesFault section cursor.head) cursor.origin)

-- The cursor has passed on to the opcode that appends the row; or, where there is none, to the program's end, where
-- there was no row at all or the last row ends a sequence.
pub record Answers (section : List ℕ) (old new : Progress) (row : Option Row) : Type 0 where
  pub passes : PassesOn old.head (program_of section old.head) old.place new.place (rows_in row)
  pub at_end : row ≡ None → new.place.at ≡ length (program_of section old.head)
  pub ended : row ≡ None → new.place.ended ≡ true

-- Laws of what is written.
use Rattle.std.specs.Prelude.{◌≤◌, ℕ, List, length}
use Rattle.line_machine.specs.declared.opcode.Opcode.{Opcode}
use Rattle.line_machine.specs.Opcodes.{SpellsOpcode}
use Rattle.line_params.specs.Shortest.{ShortestOpcode, HasCode}

-- The shortest bytes of an opcode spell it.
abbrev pub ShortestSpell : Type 0
ShortestSpell = (base : ℕ) (opcode : Opcode) (bytes : List ℕ) → ShortestOpcode base opcode bytes → SpellsOpcode base opcode bytes

-- No bytes that spell an opcode are shorter than its shortest ones.
abbrev pub NoneShorter : Type 0
NoneShorter = (base : ℕ) (opcode : Opcode) (bytes other : List ℕ) → ShortestOpcode base opcode bytes → SpellsOpcode base opcode other → length bytes ≤ length other

-- An opcode that is spelled has a code.
abbrev pub SpelledHaveCodes : Type 0
SpelledHaveCodes = (base : ℕ) (opcode : Opcode) (bytes : List ℕ) → SpellsOpcode base opcode bytes → HasCode base opcode

-- What the line number programs of a section mean: for each its head fields, its tables and its rows.
use Rattle.std.specs.Prelude.{◌≡◌, ℕ, List, [], ◌∷◌, ⊤}
use Rattle.line_machine.specs.declared.head.Head.{Head}
use Rattle.line_machine.specs.declared.registers.Row.{Row}
use Rattle.line_machine.specs.Rows.{GivesRows}
use Rattle.line_machine.specs.Heads.{minimum_instruction_length, default_is_stmt, program_of}
use Rattle.line_write.specs.Programs.{Tile, tables_of}

-- What a program means. The three fields by which its opcodes are chosen, line_base, line_range and opcode_base, aren't
-- part of it.
pub record ProgramMeaning : Type 0 where
  pub min : ℕ
  pub is_stmt : ℕ
  pub tables : List ℕ
  pub rows : List Row

-- The program of a head means this.
pub record HasMeaning (section : List ℕ) (head : Head) (meaning : ProgramMeaning) : Type 0 where
  pub min : meaning.min ≡ minimum_instruction_length section head.at
  pub is_stmt : meaning.is_stmt ≡ default_is_stmt section head.at
  pub tables : meaning.tables ≡ tables_of section head
  pub rows : GivesRows head (program_of section head) meaning.rows

-- each program means the one that stands at its place in the list
abbrev pub HaveMeanings : List ℕ → List Head → List ProgramMeaning → Type 0
HaveMeanings section [] [] = ⊤
HaveMeanings section [] (meaning ∷ meanings) = ⊥
HaveMeanings section (head ∷ heads) [] = ⊥
HaveMeanings section (head ∷ heads) (meaning ∷ meanings) = HasMeaning section head meaning × HaveMeanings section heads meanings

-- The section is line number programs, and these are their meanings, in order.
abbrev pub MeansLines : List ℕ → List ProgramMeaning → Type 0
MeansLines section meanings = (heads : List Head) × Tile section heads × HaveMeanings section heads meanings

-- Both sections are line number programs of the same meanings.
abbrev pub SameLines : List ℕ → List ℕ → Type 0
SameLines a b = (meanings : List ProgramMeaning) × MeansLines a meanings × MeansLines b meanings

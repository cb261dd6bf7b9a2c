-- The line number programs of a section against those of another: each is the least that gives the same rows.
use Rattle.std.specs.Prelude.{◌≡◌, ℕ, List, [], ◌∷◌, ⊤}
use Rattle.line_machine.specs.declared.head.Head.{Head}
use Rattle.line_machine.specs.declared.registers.Row.{Row}
use Rattle.line_machine.specs.Rows.{GivesRows}
use Rattle.line_machine.specs.Heads.{program_of}
use Rattle.leb_codec.specs.Least.{IsLeast}
use Rattle.line_machine.specs.Class.{Encoding, IsEncoding, encoding_size, IsFirstEncoding}
use Rattle.line_params.specs.Order.{AreInOrder}
use Rattle.line_write.specs.Programs.{Tile}

-- the pair of line_base and line_range and the program, as they stand in the unit of a head
abbrev pub encoding_at : List ℕ → Head → Encoding
encoding_at section head = record { base = head.base; range = head.range; bytes = program_of section head }

-- The unit of a head in the new section keeps the fields of the old one by which rows are read, but for line_base,
-- line_range and opcode_base. Its opcode_base is 13, and with its pair of the other two its program gives the rows of the old
-- program, and none is shorter.
pub record IsLeastProgram (old new : List ℕ) (head written : Head) : Type 0 where
  pub rows : List Row
  pub given : GivesRows head (program_of old head) rows
  pub min : written.min ≡ head.min
  pub stmt : written.stmt ≡ head.stmt
  pub opcode_base : written.opcode_base ≡ 13
  pub least : IsLeast (IsEncoding head rows) encoding_size (encoding_at new written)

-- Which of the programs that are as short the one of a head in the new section is, for the rows of the old program: its pair
-- comes first, and its opcodes stand in the order that line_params states. Another one is no longer.
pub record IsOrderedProgram (old new : List ℕ) (head written : Head) : Type 0 where
  pub rows : List Row
  pub given : GivesRows head (program_of old head) rows
  pub first : IsFirstEncoding head rows (encoding_at new written)
  pub order : AreInOrder head.stmt written.base written.range head.min rows (program_of new written)

-- the relation holds of each head and the one that stands at its place in the other list, which is as long
abbrev pub AreEach : (Head → Head → Type 0) → List Head → List Head → Type 0
AreEach Holds [] [] = ⊤
AreEach Holds [] (written ∷ others) = ⊥
AreEach Holds (head ∷ heads) [] = ⊥
AreEach Holds (head ∷ heads) (written ∷ others) = Holds head written × AreEach Holds heads others

-- Both sections are line number programs, as many, and each of the new ones is the least that gives the rows of the old
-- one at its place.
abbrev pub LeastLines : List ℕ → List ℕ → Type 0
LeastLines old new = (heads : List Head) × (written : List Head) × Tile old heads × Tile new written × AreEach (IsLeastProgram old new) heads written

-- Both sections are line number programs, as many, and each of the new ones has the pair that comes first and its opcodes in the
-- stated order.
abbrev pub OrderedLines : List ℕ → List ℕ → Type 0
OrderedLines old new = (heads : List Head) × (written : List Head) × Tile old heads × Tile new written × AreEach (IsOrderedProgram old new) heads written

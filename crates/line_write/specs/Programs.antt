-- The line number programs of a section (DWARF 5 section 6.2.4), one after the other, and how each is written anew.
use Rattle.std.specs.Prelude.{◌≡◌, ◌+◌, ℕ, ℤ, List, [], ◌∷◌, ◌++◌, length, take, drop}
use Rattle.std.specs.Int.{w8, cast_unsigned}
use Rattle.byteorder.specs.Endian.{little_bytes}
use Rattle.spelled.specs.Spelled.{Joined}
use Rattle.line_machine.specs.declared.head.Head.{Head}
use Rattle.line_machine.specs.declared.registers.Row.{Row}
use Rattle.line_machine.specs.Rows.{GivesRows}
use Rattle.line_machine.specs.Heads.{IsHead, program_of, operand_counts}
use Rattle.line_machine.specs.Class.{Encoding, IsTaken}
use Rattle.line_params.specs.Order.{AreInOrder}

-- The units of the heads stand in the section one after the other, from a place up to another.
abbrev pub Follow : List ℕ → List Head → ℕ → ℕ → Type 0
Follow section [] at end = at ≡ end
Follow section (head ∷ heads) at end = (head.at ≡ at) × IsHead section head × Follow section heads (at + head.len) end

-- The units of the heads are the whole section.
abbrev pub Tile : List ℕ → List Head → Type 0
Tile section heads = Follow section heads 0 (length section)

-- the bytes of version, address_size and segment_selector_size
abbrev pub version_of : List ℕ → Head → List ℕ
version_of section head = take 4 (drop (head.at + 4) section)

-- the bytes of minimum_instruction_length, maximum_operations_per_instruction and default_is_stmt
abbrev pub instruction_of : List ℕ → Head → List ℕ
instruction_of section head = take 3 (drop (head.at + 12) section)

-- the bytes of the directory and file tables
abbrev pub tables_of : List ℕ → Head → List ℕ
tables_of section head = take head.tables.len (drop head.tables.at section)

-- bytes after their number, which has four bytes, the lowest first
abbrev pub counted : List ℕ → List ℕ
counted bytes = little_bytes 4 (length bytes) ++ bytes

-- What header_length counts: the old fields and tables, with another line_base, which is a signed byte, another
-- line_range, the opcode_base 13 and the lengths of the twelve standard opcodes.
abbrev pub header_of : List ℕ → Head → ℤ → ℕ → List ℕ
header_of section head base range =
    instruction_of section head ++ (cast_unsigned w8 base ∷ range ∷ 13 ∷ (operand_counts ++ tables_of section head))

-- what unit_length counts: the rest of the header, and the program
abbrev pub body_of : List ℕ → Head → Encoding → List ℕ
body_of section head e = version_of section head ++ (counted (header_of section head e.base e.range) ++ e.bytes)

-- The unit is the head's with the encoding that is taken for its rows, whose opcodes stand in the order that line_params
-- states.
pub record IsRewrittenUnit (section : List ℕ) (head : Head) (unit : List ℕ) : Type 0 where
  pub rows : List Row
  pub given : GivesRows head (program_of section head) rows
  pub encoding : Encoding
  pub taken : IsTaken head rows encoding
  pub order : AreInOrder head.stmt encoding.base encoding.range head.min rows encoding.bytes
  pub whole : unit ≡ counted (body_of section head encoding)

-- The bytes are the units of the section, each written anew, in their order.
abbrev pub AreRewritten : List ℕ → List ℕ → Type 0
AreRewritten section bytes = (heads : List Head) × Tile section heads × Joined (IsRewrittenUnit section) heads bytes

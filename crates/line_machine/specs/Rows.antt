-- The registers of the line number machine (DWARF 5 section 6.2.2), what its opcodes do to them, and the rows that they give.
use Rattle.std.specs.Prelude.{◌≡◌, ◌<◌, ◌+◌, ◌-◌, ◌*◌, ◌/◌, ◌%◌, ◌^◌, ℕ, ℤ, pos, ◌+ℤ◌, ◌≤ℤ◌, ◌<ℤ◌, nat_abs, List, [], ◌∷◌, length, Bool, true, false, not, Option, Some, None, ⊤}
use Rattle.spelled.specs.Spelled.{Joined}
use Rattle.line_machine.specs.declared.head.Head.{Head}
use Rattle.line_machine.specs.declared.registers.Registers.{Registers}
use Rattle.line_machine.specs.declared.registers.Row.{Row}
use Rattle.line_machine.specs.declared.opcode.Opcode.{Opcode}
use Rattle.line_machine.specs.declared.opcode.Opcode.TheVariants.{Copy, AdvancePc, AdvanceLine, SetFile, SetColumn, NegateStmt, SetBasicBlock, ConstAddPc, FixedAdvancePc, SetPrologueEnd, SetEpilogueBegin, SetIsa, EndSequence, SetAddress, SetDiscriminator, Special}
use Rattle.line_machine.specs.Opcodes.{SpellsOpcode}

-- the registers at the start of a sequence
abbrev pub start : Bool → Registers
start stmt = record {
  address = 0;
  line = pos 1;
  file = 1;
  column = 0;
  isa = 0;
  discriminator = 0;
  stmt = stmt;
  block = false;
  prologue = false;
  epilogue = false;
}

-- the registers after a row
abbrev pub cleared : Registers → Registers
cleared r = record r { discriminator = 0; block = false; prologue = false; epilogue = false }

-- the address is advanced modulo 2 ^ 64
abbrev pub advanced : ℕ → Registers → Registers
advanced by r = record r { address = (r.address + by) % 2 ^ 64 }

-- how far the special opcode of a number from the opcode base on advances the address
abbrev pub special_advance : Head → ℕ → ℕ
special_advance head s = (s / head.range) * head.min

-- how far it moves the line
abbrev pub special_line : Head → ℕ → ℤ
special_line head s = head.base +ℤ pos (s % head.range)

-- what the special opcode of a number from the opcode base on does before its row
abbrev pub specially : Head → ℕ → Registers → Registers
specially head s r = record (advanced (special_advance head s) r) { line = r.line +ℤ special_line head s }

-- the registers after an opcode, and after its row where it has one
abbrev pub after : Head → Opcode → Registers → Registers
after head Copy r = cleared r
after head (AdvancePc value) r = advanced (value * head.min) r
after head (AdvanceLine value) r = record r { line = r.line +ℤ value }
after head (SetFile value) r = record r { file = value }
after head (SetColumn value) r = record r { column = value }
after head NegateStmt r = record r { stmt = not r.stmt }
after head SetBasicBlock r = record r { block = true }
after head ConstAddPc r = advanced (special_advance head (255 - head.opcode_base)) r
after head (FixedAdvancePc value) r = advanced value r
after head SetPrologueEnd r = record r { prologue = true }
after head SetEpilogueBegin r = record r { epilogue = true }
after head (SetIsa value) r = record r { isa = value }
after head EndSequence r = start head.stmt
after head (SetAddress address) r = record r { address = address }
after head (SetDiscriminator value) r = record r { discriminator = value }
after head (Special s) r = cleared (specially head s r)

-- the row of the registers; their line is none of those below 0
abbrev pub row_at : Registers → Row
row_at r = record {
  address = r.address;
  line = nat_abs r.line;
  file = r.file;
  column = r.column;
  isa = r.isa;
  discriminator = r.discriminator;
  stmt = r.stmt;
  block = r.block;
  prologue = r.prologue;
  epilogue = r.epilogue;
  end = false;
}

-- the row that ends a sequence at an address
abbrev pub end_row : ℕ → Row
end_row address = record {
  address = address;
  line = 0;
  file = 0;
  column = 0;
  isa = 0;
  discriminator = 0;
  stmt = false;
  block = false;
  prologue = false;
  epilogue = false;
  end = true;
}

-- the row that an opcode appends
abbrev pub row_of : Head → Opcode → Registers → Option Row
row_of head Copy r = Some (row_at r)
row_of head EndSequence r = Some (end_row r.address)
row_of head (Special s) r = Some (row_at (specially head s r))
row_of head _ r = None

-- the line is one that a row can have
abbrev pub HasLine : Registers → Type 0
HasLine r = (pos 0 ≤ℤ r.line) × (r.line <ℤ pos (2 ^ 32))

-- the line of the row, and the product of advance_pc, are in range
abbrev pub IsSound : Head → Opcode → Registers → Type 0
IsSound head Copy r = HasLine r
IsSound head (AdvancePc value) r = value * head.min < 2 ^ 64
IsSound head (Special s) r = HasLine (specially head s r)
IsSound head _ r = ⊤

abbrev pub rows_in : Option Row → List Row
rows_in None = []
rows_in (Some row) = row ∷ []

abbrev pub with_row : Option Row → List Row → List Row
with_row None rows = rows
with_row (Some row) rows = row ∷ rows

-- the rows of opcodes, from registers on
abbrev pub rows_from : Head → Registers → List Opcode → List Row
rows_from head r [] = []
rows_from head r (opcode ∷ opcodes) = with_row (row_of head opcode r) (rows_from head (after head opcode r) opcodes)

-- the registers after opcodes
abbrev pub registers_after : Head → Registers → List Opcode → Registers
registers_after head r [] = r
registers_after head r (opcode ∷ opcodes) = registers_after head (after head opcode r) opcodes

-- each line of a row and each product is in range
abbrev pub AreSound : Head → Registers → List Opcode → Type 0
AreSound head r [] = ⊤
AreSound head r (opcode ∷ opcodes) = IsSound head opcode r × AreSound head (after head opcode r) opcodes

-- the last of the rows ends a sequence; where there is no row, what is said of before
abbrev pub ends : Bool → List Row → Bool
ends before [] = before
ends before (row ∷ rows) = ends row.end rows

-- The bytes are a line number program that gives these rows: they are opcodes, one after the other, whose values
-- are in range, and there is no row, or the last row ends a sequence.
pub record GivesRows (head : Head) (bytes : List ℕ) (rows : List Row) : Type 0 where
  pub opcodes : List Opcode
  pub spelled : Joined (SpellsOpcode head.opcode_base) opcodes bytes
  pub sound : AreSound head (start head.stmt) opcodes
  pub given : rows ≡ rows_from head (start head.stmt) opcodes
  pub ended : ends true rows ≡ true

-- The bytes are a line number program that gives so many rows.
abbrev pub HasRows : Head → List ℕ → ℕ → Type 0
HasRows head bytes count = (rows : List Row) × GivesRows head bytes rows × (length rows ≡ count)

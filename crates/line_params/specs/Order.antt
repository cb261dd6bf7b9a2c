-- The opcodes that are written for rows, in their order (DWARF 5 section 6.2.5), under the opcode_base 13.
-- `base` is line_base, `range` is line_range, and `scale` is minimum_instruction_length.
use Rattle.std.specs.Prelude.{◌≡◌, ◌-◌, ◌*◌, ◌==◌, ℕ, zero, suc, ℤ, pos, negsuc, ◌-ℤ◌, List, [], ◌∷◌, ◌++◌, replicate, Bool, true, false, not}
use Rattle.spelled.specs.Spelled.{Joined}
use Rattle.leb_codec.specs.LineCosts.{address_distance, special_advance, fixed_advance_limit}
use Rattle.line_machine.specs.declared.opcode.Opcode.{Opcode}
use Rattle.line_machine.specs.declared.opcode.Opcode.TheVariants.{Copy, AdvancePc, AdvanceLine, SetFile, SetColumn, NegateStmt, SetBasicBlock, ConstAddPc, FixedAdvancePc, SetPrologueEnd, SetEpilogueBegin, SetIsa, EndSequence, SetAddress, SetDiscriminator, Special}
use Rattle.line_machine.specs.declared.registers.Registers.{Registers}
use Rattle.line_machine.specs.declared.registers.Row.{Row}
use Rattle.line_machine.specs.Rows.{start}
use Rattle.line_step.specs.declared.way.Advance.{Advance}
use Rattle.line_step.specs.declared.way.AddressOpcodes.{AddressOpcodes}
use Rattle.line_step.specs.declared.way.AddressOpcodes.TheVariants.{SetAddress as ByAddress, AdvanceBy}
use Rattle.line_step.specs.declared.way.AddressWay.{AddressWay}
use Rattle.line_step.specs.declared.way.RowOpcode.{RowOpcode}
use Rattle.line_step.specs.declared.way.RowOpcode.TheVariants.{Copy as ByCopy, Special as BySpecial}
use Rattle.line_step.specs.declared.way.RowWay.{RowWay}
use Rattle.line_step.specs.Ways.{IsAddressWay, IsRowWay}
use Rattle.line_params.specs.Shortest.{ShortestOpcode}
use Rattle.line_sums.specs.Steps.{left_by}

-- an opcode, where it is wanted
abbrev pub opcode_if : Bool → Opcode → List Opcode
opcode_if true opcode = opcode ∷ []
opcode_if false opcode = []

-- negate_stmt, where is_stmt changes
abbrev pub stmt_opcodes : Bool → Bool → List Opcode
stmt_opcodes false true = NegateStmt ∷ []
stmt_opcodes true false = NegateStmt ∷ []
stmt_opcodes _ _ = []

-- the file, the column and the instruction set, where a row changes them
abbrev pub number_opcodes : Registers → Row → List Opcode
number_opcodes from row =
    opcode_if (not (from.file == row.file)) (SetFile row.file)
    ++ opcode_if (not (from.column == row.column)) (SetColumn row.column)
    ++ opcode_if (not (from.isa == row.isa)) (SetIsa row.isa)

-- is_stmt where a row changes it, and the flags and the discriminator that it has
abbrev pub mark_opcodes : Registers → Row → List Opcode
mark_opcodes from row =
    stmt_opcodes from.stmt row.stmt
    ++ opcode_if row.block SetBasicBlock
    ++ opcode_if row.prologue SetPrologueEnd
    ++ opcode_if row.epilogue SetEpilogueBegin
    ++ opcode_if (not (row.discriminator == 0)) (SetDiscriminator row.discriminator)

-- some fixed_advance_pc whose operands have a sum: each operand but the last is the greatest one. The sum needs them all:
-- it is that of the greatest ones at least, and of a way that is taken it is, since one opcode fewer would be cheaper.
abbrev pub fixed_opcodes : ℕ → ℕ → List Opcode
fixed_opcodes zero total = []
fixed_opcodes (suc others) total =
    replicate others (FixedAdvancePc fixed_advance_limit) ++ FixedAdvancePc (total - fixed_advance_limit * others) ∷ []

-- advance_pc, then const_add_pc, then fixed_advance_pc
abbrev pub advance_opcodes : Advance → List Opcode
advance_opcodes a =
    opcode_if (not (a.operand == 0)) (AdvancePc a.operand)
    ++ replicate a.const_adds ConstAddPc
    ++ fixed_opcodes a.fixed_adds a.fixed_sum

-- the opcodes that take the address register to an address
abbrev pub address_opcodes : ℕ → AddressOpcodes → List Opcode
address_opcodes to ByAddress = SetAddress to ∷ []
address_opcodes to (AdvanceBy a) = advance_opcodes a

-- the address from which the opcode of a row comes to the row's address
abbrev pub address_before : ℕ → ℕ → ℕ → RowOpcode → ℕ
address_before range scale address ByCopy = address
address_before range scale address (BySpecial s) = address_distance (special_advance range scale s) address

-- advance_line, where its operand isn't 0
abbrev pub line_opcodes : ℤ → List Opcode
line_opcodes (pos zero) = []
line_opcodes (pos (suc n)) = AdvanceLine (pos (suc n)) ∷ []
line_opcodes (negsuc n) = AdvanceLine (negsuc n) ∷ []

-- the opcode that appends a row
abbrev pub row_opcode : RowOpcode → Opcode
row_opcode ByCopy = Copy
row_opcode (BySpecial s) = Special s

-- The opcodes of a step to a row at an address, over a line distance and an address distance, by the way that is taken:
-- the address, then the line, then the opcode that appends the row.
pub record StepOpcodes (base : ℤ) (range scale : ℕ) (line : ℤ) (distance address : ℕ) (opcodes : List Opcode) : Type 0 where
  pub way : RowWay
  pub taken : IsRowWay base range scale line distance way
  pub order : opcodes ≡ address_opcodes (address_before range scale address way.opcode) way.address.opcodes ++ line_opcodes way.line ++ row_opcode way.opcode ∷ []

-- The opcodes of a row: the registers that it changes, and then the step to it.
pub record RowOpcodes (base : ℤ) (range scale : ℕ) (from : Registers) (row : Row) (opcodes : List Opcode) : Type 0 where
  pub step : List Opcode
  pub stepped : StepOpcodes base range scale (pos row.line -ℤ from.line) (address_distance from.address row.address) row.address step
  pub order : opcodes ≡ number_opcodes from row ++ mark_opcodes from row ++ step

-- The opcodes of the end of a sequence at an address, over an address distance: the address, by the way that is taken,
-- and end_sequence.
pub record EndOpcodes (range scale distance address : ℕ) (opcodes : List Opcode) : Type 0 where
  pub way : AddressWay
  pub taken : IsAddressWay range scale distance way
  pub order : opcodes ≡ address_opcodes address way.opcodes ++ EndSequence ∷ []

-- the opcodes of a row that ends a sequence, or of another
abbrev pub OpcodesIf : Bool → ℤ → ℕ → ℕ → Registers → Row → List Opcode → Type 0
OpcodesIf true base range scale from row opcodes = EndOpcodes range scale (address_distance from.address row.address) row.address opcodes
OpcodesIf false base range scale from row opcodes = RowOpcodes base range scale from row opcodes

-- the opcodes of rows, one row after the other, from registers on
abbrev pub RowsOpcodes : Bool → ℤ → ℕ → ℕ → Registers → List Row → List Opcode → Type 0
RowsOpcodes stmt base range scale from [] opcodes = opcodes ≡ []
RowsOpcodes stmt base range scale from (row ∷ rows) opcodes =
    (first : List Opcode) × (rest : List Opcode) × OpcodesIf row.end base range scale from row first × RowsOpcodes stmt base range scale (left_by stmt row) rows rest × (opcodes ≡ first ++ rest)

-- The bytes are the shortest ones of the opcodes of rows, from the start of a sequence on, where `stmt` is default_is_stmt.
pub record AreInOrder (stmt : Bool) (base : ℤ) (range scale : ℕ) (rows : List Row) (bytes : List ℕ) : Type 0 where
  pub opcodes : List Opcode
  pub ordered : RowsOpcodes stmt base range scale (start stmt) rows opcodes
  pub spelled : Joined (ShortestOpcode 13) opcodes bytes

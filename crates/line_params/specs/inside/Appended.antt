-- What is appended on the way to a whole program.
use Rattle.std.specs.Prelude.{◌≤◌, ◌<◌, ◌-◌, ◌*◌, ◌^◌, ℕ, List}
use Rattle.spelled.specs.Spelled.{Joined, Appends}
use Rattle.leb_codec.specs.LineCosts.{fixed_advance_limit}
use Rattle.line_machine.specs.declared.opcode.Opcode.{Opcode}
use Rattle.line_machine.specs.declared.registers.Row.{Row}
use Rattle.line_step.specs.declared.way.Advance.{Advance}
use Rattle.line_step.specs.declared.way.AddressOpcodes.{AddressOpcodes}
use Rattle.line_step.specs.declared.way.AddressOpcodes.TheVariants.{SetAddress, AdvanceBy}
use Rattle.line_params.specs.Shortest.{ShortestOpcode}

-- the shortest bytes of opcodes are appended
abbrev pub AppendsOpcodes : List Opcode → List ℕ → List ℕ → Type 0
AppendsOpcodes opcodes old new = Appends (Joined (ShortestOpcode 13)) opcodes old new

-- the same of opcodes of a kind
abbrev pub AppendsSome : (List Opcode → Type 0) → List ℕ → List ℕ → Type 0
AppendsSome Are old new = (opcodes : List Opcode) × Are opcodes × AppendsOpcodes opcodes old new

-- each number of a row fits 64 bits
pub record RowFits (row : Row) : Type 0 where
  pub address_fits : row.address < 2 ^ 64
  pub file_fits : row.file < 2 ^ 64
  pub column_fits : row.column < 2 ^ 64
  pub isa_fits : row.isa < 2 ^ 64
  pub discriminator_fits : row.discriminator < 2 ^ 64

-- the operands of fixed_advance_pc have room for their sum, and all but the last are needed
pub record IsFull (a : Advance) : Type 0 where
  pub room : a.fixed_sum ≤ fixed_advance_limit * a.fixed_adds
  pub needed : fixed_advance_limit * (a.fixed_adds - 1) ≤ a.fixed_sum

abbrev pub IsFullAdvance : AddressOpcodes → Type 0
IsFullAdvance SetAddress = Unit {0}
IsFullAdvance (AdvanceBy a) = IsFull a

-- Ways to advance an address and to step to a row (DWARF 5 section 6.2.5), and which of the cheapest is taken.
-- `base` is line_base, `range` is line_range, and `scale` is minimum_instruction_length.
use Rattle.std.specs.Prelude.{◌≡◌, ◌≤◌, ◌<◌, ◌+◌, ◌*◌, ◌↔◌, ℕ, ℤ}
use Rattle.leb_codec.specs.LineCosts.{IsLeastCost, last_special, const_advance, fixed_advance_limit, fixed_advance_bytes, set_address_bytes, advance_pc_bytes, advance_line_bytes, address_distance, special_advance, line_left, AdvanceForm, AdvanceWithin, RowWithin, SpecialWithin, StepWithin}
use Rattle.line_step.specs.declared.way.Advance.{Advance}
use Rattle.line_step.specs.declared.way.AddressOpcodes.{AddressOpcodes}
use Rattle.line_step.specs.declared.way.AddressOpcodes.TheVariants.{SetAddress, AdvanceBy}
use Rattle.line_step.specs.declared.way.AddressWay.{AddressWay}
use Rattle.line_step.specs.declared.way.RowOpcode.{RowOpcode}
use Rattle.line_step.specs.declared.way.RowOpcode.TheVariants.{Copy, Special}
use Rattle.line_step.specs.declared.way.RowWay.{RowWay}

-- the bytes of opcodes
abbrev pub opcodes_bytes : AddressOpcodes → ℕ
opcodes_bytes SetAddress = set_address_bytes
opcodes_bytes (AdvanceBy a) = a.const_adds + fixed_advance_bytes * a.fixed_adds + advance_pc_bytes a.operand

-- the opcodes advance the address by a distance
pub record IsAdvance (range scale distance : ℕ) (a : Advance) : Type 0 where
  pub exact : a.const_adds * const_advance range * scale + a.operand * scale + a.fixed_sum ≡ distance
  pub fixed : a.fixed_sum ≤ fixed_advance_limit * a.fixed_adds

-- the same of set_address too, which reaches every address
abbrev pub Advances : ℕ → ℕ → ℕ → AddressOpcodes → Type 0
Advances range scale distance SetAddress = Unit {0}
Advances range scale distance (AdvanceBy a) = IsAdvance range scale distance a

-- fewer fixed_advance_pc, or as many and fewer const_add_pc, or as many of both and a smaller sum, or all the same
pub record IsNotAfter (a : Advance) (fixed_adds const_adds fixed_sum : ℕ) : Type 0 where
  pub fewest_fixed : a.fixed_adds ≤ fixed_adds
  pub fewest_const : a.fixed_adds ≡ fixed_adds → a.const_adds ≤ const_adds
  pub least_sum : a.fixed_adds ≡ fixed_adds → a.const_adds ≡ const_adds → a.fixed_sum ≤ fixed_sum

-- of all the opcodes with that distance and so few bytes, these come first
abbrev pub ComesFirst : ℕ → ℕ → ℕ → ℕ → AddressOpcodes → Type 0
ComesFirst range scale distance bytes SetAddress = Unit {0}
ComesFirst range scale distance bytes (AdvanceBy a) = (form : AdvanceForm range scale distance bytes) → IsNotAfter a form.fixed_adds form.const_adds form.fixed_sum

-- the way that is taken to advance the address by a distance
pub record IsAddressWay (range scale distance : ℕ) (way : AddressWay) : Type 0 where
  pub bytes : way.bytes ≡ opcodes_bytes way.opcodes
  pub advances : Advances range scale distance way.opcodes
  pub least : IsLeastCost (AdvanceWithin range scale distance) way.bytes
  pub set : (way.opcodes ≡ SetAddress) ↔ (way.bytes ≡ set_address_bytes)
  pub first : ComesFirst range scale distance way.bytes way.opcodes

-- the opcode's number under opcode_base 13
abbrev pub opcode_number : RowOpcode → ℕ
opcode_number Copy = 1
opcode_number (Special s) = 13 + s

-- what the opcode of a row leaves of a line distance
abbrev pub line_before : ℤ → ℕ → ℤ → RowOpcode → ℤ
line_before base range line Copy = line
line_before base range line (Special s) = line_left base range line s

-- what the opcode of a row leaves of an address distance
abbrev pub distance_before : ℕ → ℕ → ℕ → RowOpcode → ℕ
distance_before range scale distance Copy = distance
distance_before range scale distance (Special s) = address_distance (special_advance range scale s) distance

-- n bytes are enough for a step whose row this opcode appends
abbrev pub OpcodeWithin : ℤ → ℕ → ℕ → ℤ → ℕ → RowOpcode → ℕ → Type 0
OpcodeWithin base range scale line distance Copy n = RowWithin range scale line distance n
OpcodeWithin base range scale line distance (Special s) n = (s ≤ last_special) × SpecialWithin base range scale line distance s n

-- the way that is taken to step to a row: the opcode's number is the least of those that are as cheap
pub record IsRowWay (base : ℤ) (range scale : ℕ) (line : ℤ) (distance : ℕ) (way : RowWay) : Type 0 where
  pub bytes : way.bytes ≡ 1 + advance_line_bytes way.line + way.address.bytes
  pub opcode : opcode_number way.opcode ≤ 255
  pub line_operand : way.line ≡ line_before base range line way.opcode
  pub address : IsAddressWay range scale (distance_before range scale distance way.opcode) way.address
  pub least : IsLeastCost (StepWithin base range scale line distance) way.bytes
  pub first : (lower : RowOpcode) (n : ℕ) → opcode_number lower < opcode_number way.opcode → OpcodeWithin base range scale line distance lower n → way.bytes < n

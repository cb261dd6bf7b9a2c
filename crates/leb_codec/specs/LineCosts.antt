-- What the steps of a line program cost under opcode_base 13 (DWARF 5 section 6.2.5), over plain numbers.
-- `base` is line_base, `range` is line_range, and `scale` is minimum_instruction_length.
-- Each cost is given as "n bytes are enough": the cost itself is the least such n.
use Rattle.std.specs.Prelude.{◌≤◌, ◌<◌, ◌≡◌, ◌+◌, ◌-◌, ◌*◌, ◌/◌, ◌%◌, ◌^◌, ◌⊎◌, ◌==◌, if◌then◌else◌, ℕ, zero, suc, ℤ, pos, negsuc, ◌-ℤ◌, Bool, true, false}
use Rattle.leb_codec.specs.Leb.{least_unsigned_len, least_signed_len}

-- so many bytes are enough, and no fewer are
pub record IsLeastCost (IsEnough : ℕ → Type 0) (bytes : ℕ) : Type 0 where
  pub enough : IsEnough bytes
  pub least : (fewer : ℕ) → IsEnough fewer → bytes ≤ fewer

-- special opcodes are counted from 0, which is opcode 13, to 242, which is opcode 255
abbrev pub last_special : ℕ
last_special = 242

-- how many instructions const_add_pc advances by: as many as special opcode 255
abbrev pub const_advance : ℕ → ℕ
const_advance range = last_special / range

-- how far one fixed_advance_pc can advance: its operand is a u16, which isn't scaled
abbrev pub fixed_advance_limit : ℕ
fixed_advance_limit = 65535

-- the opcode, and its operand of two bytes
abbrev pub fixed_advance_bytes : ℕ
fixed_advance_bytes = 3

-- the extended opcode 2: two bytes before the code, the code, and an address of eight bytes
abbrev pub set_address_bytes : ℕ
set_address_bytes = 11

-- the extended opcode 1, end_sequence
abbrev pub end_sequence_bytes : ℕ
end_sequence_bytes = 3

-- advance_pc: the opcode and its operand; it is left out where it does nothing
unfoldable pub advance_pc_bytes : ℕ → ℕ
advance_pc_bytes operand = if operand == 0 then 0 else 1 + least_unsigned_len operand

-- advance_line: the opcode and its operand; it is left out where it does nothing
unfoldable pub advance_line_bytes : ℤ → ℕ
advance_line_bytes (pos zero) = 0
advance_line_bytes (pos (suc n)) = 1 + least_signed_len (pos (suc n))
advance_line_bytes (negsuc n) = 1 + least_signed_len (negsuc n)

-- how far an address is from another, modulo 2^64
abbrev pub address_distance : ℕ → ℕ → ℕ
address_distance from to = (to + (2 ^ 64 - from % 2 ^ 64)) % 2 ^ 64

-- opcodes other than set_address that advance the address by `distance`, in at most `bytes` bytes:
-- some const_add_pc, some fixed_advance_pc with operands of a sum, and one advance_pc with an operand
pub record AdvanceForm (range scale distance bytes : ℕ) : Type 0 where
  pub const_adds : ℕ
  pub fixed_adds : ℕ
  pub operand : ℕ
  pub fixed_sum : ℕ
  pub exact : const_adds * const_advance range * scale + operand * scale + fixed_sum ≡ distance
  pub fixed : fixed_sum ≤ fixed_advance_limit * fixed_adds
  pub cost : const_adds + fixed_advance_bytes * fixed_adds + advance_pc_bytes operand ≤ bytes

-- n bytes are enough to advance the address by a distance
abbrev pub AdvanceWithin : ℕ → ℕ → ℕ → ℕ → Type 0
AdvanceWithin range scale distance n = (set_address_bytes ≤ n) ⊎ AdvanceForm range scale distance n

-- n bytes are enough to advance the line and the address, and to append a row by an opcode of one byte
abbrev pub RowWithin : ℕ → ℕ → ℤ → ℕ → ℕ → Type 0
RowWithin range scale line distance n = (a : ℕ) × AdvanceWithin range scale distance a × (1 + advance_line_bytes line + a ≤ n)

-- how far special opcode s advances the address
abbrev pub special_advance : ℕ → ℕ → ℕ → ℕ
special_advance range scale s = s / range * scale

-- what special opcode s leaves of a line distance
abbrev pub line_left : ℤ → ℕ → ℤ → ℕ → ℤ
line_left base range line s = line -ℤ base -ℤ pos (s % range)

-- n bytes are enough for a step whose row is appended by special opcode s
abbrev pub SpecialWithin : ℤ → ℕ → ℕ → ℤ → ℕ → ℕ → ℕ → Type 0
SpecialWithin base range scale line distance s n = RowWithin range scale (line_left base range line s) (address_distance (special_advance range scale s) distance) n

-- n bytes are enough for a step to a row, which copy or a special opcode appends
abbrev pub StepWithin : ℤ → ℕ → ℕ → ℤ → ℕ → ℕ → Type 0
StepWithin base range scale line distance n = RowWithin range scale line distance n ⊎ ((s : ℕ) × (s ≤ last_special) × SpecialWithin base range scale line distance s n)

-- n bytes are enough for a step to an end row
abbrev pub EndWithin : ℕ → ℕ → ℕ → ℕ → Type 0
EndWithin range scale distance n = (a : ℕ) × AdvanceWithin range scale distance a × (end_sequence_bytes + a ≤ n)

-- The bytes of what a row has besides its line and its address. An end row has none of it.

-- set_file, set_column and set_isa: the opcode and its operand, where the register changes
unfoldable pub register_bytes : ℕ → ℕ → ℕ
register_bytes from to = if from == to then 0 else 1 + least_unsigned_len to

-- negate_stmt, where is_stmt changes
abbrev pub stmt_bytes : Bool → Bool → ℕ
stmt_bytes false true = 1
stmt_bytes true false = 1
stmt_bytes _ _ = 0

-- set_basic_block, set_prologue_end and set_epilogue_begin, where the row has the flag
abbrev pub flag_bytes : Bool → ℕ
flag_bytes flag = if flag then 1 else 0

-- set_discriminator: the byte 0, its length in one byte, its code and its operand, where the row has one
unfoldable pub discriminator_bytes : ℕ → ℕ
discriminator_bytes discriminator = if discriminator == 0 then 0 else 3 + least_unsigned_len discriminator

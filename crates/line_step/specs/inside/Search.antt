-- What the search for the best way knows on its way.
use Rattle.std.specs.Prelude.{◌≡◌, ◌≤◌, ◌<◌, ◌+◌, ◌*◌, ◌/◌, ◌%◌, ◌⊎◌, ◌↔◌, ℕ, ℤ, pos, ◌-ℤ◌}
use Rattle.leb_codec.specs.LineCosts.{last_special, set_address_bytes, advance_pc_bytes, advance_line_bytes, AdvanceForm, SpecialWithin}
use Rattle.line_step.specs.declared.way.AddressOpcodes.{AddressOpcodes}
use Rattle.line_step.specs.declared.way.AddressOpcodes.TheVariants.{SetAddress, AdvanceBy}
use Rattle.line_step.specs.declared.way.AddressWay.{AddressWay}
use Rattle.line_step.specs.declared.way.RowOpcode.{RowOpcode}
use Rattle.line_step.specs.declared.way.RowOpcode.TheVariants.{Copy, Special}
use Rattle.line_step.specs.declared.way.RowWay.{RowWay}
use Rattle.line_step.specs.Ways.{opcodes_bytes, Advances, IsNotAfter, IsAddressWay, line_before, distance_before, opcode_number, OpcodeWithin}

-- an operand that leaves at most a limit of a distance: no other takes fewer bytes, nor as many and leaves less
pub record IsOperandFor (distance scale limit operand : ℕ) : Type 0 where
  pub within : operand * scale ≤ distance
  pub left : distance ≤ operand * scale + limit
  pub fewest : (q f : ℕ) → q * scale + f ≡ distance → f ≤ limit → advance_pc_bytes operand ≤ advance_pc_bytes q
  pub first : (q f : ℕ) → q * scale + f ≡ distance → f ≤ limit → advance_pc_bytes q ≤ advance_pc_bytes operand → distance ≤ operand * scale + f

-- a way that does what it says, with set_address exactly for its bytes
pub record IsWay (range scale distance : ℕ) (way : AddressWay) : Type 0 where
  pub bytes : way.bytes ≡ opcodes_bytes way.opcodes
  pub advances : Advances range scale distance way.opcodes
  pub set : (way.opcodes ≡ SetAddress) ↔ (way.bytes ≡ set_address_bytes)
  pub few : way.bytes ≤ set_address_bytes

-- opcodes with so many fixed_advance_pc and const_add_pc
abbrev pub HasCounts : ℕ → ℕ → AddressOpcodes → Type 0
HasCounts fixed_adds const_adds SetAddress = Unit {0}
HasCounts fixed_adds const_adds (AdvanceBy a) = (a.fixed_adds ≡ fixed_adds) × (a.const_adds ≡ const_adds)

-- no form with these counts and so few bytes leaves less
abbrev pub LeavesLeast : ℕ → ℕ → ℕ → ℕ → AddressOpcodes → Type 0
LeavesLeast range scale distance bytes SetAddress = Unit {0}
LeavesLeast range scale distance bytes (AdvanceBy a) = (form : AdvanceForm range scale distance bytes) → form.fixed_adds ≡ a.fixed_adds → form.const_adds ≡ a.const_adds → a.fixed_sum ≤ form.fixed_sum

-- the best way with these counts, or set_address
pub record IsBestWith (range scale distance fixed_adds const_adds : ℕ) (way : AddressWay) : Type 0 where
  pub way_is : IsWay range scale distance way
  pub counts : HasCounts fixed_adds const_adds way.opcodes
  pub fewest : (n : ℕ) (form : AdvanceForm range scale distance n) → form.fixed_adds ≡ fixed_adds → form.const_adds ≡ const_adds → way.bytes ≤ n
  pub first : LeavesLeast range scale distance way.bytes way.opcodes

-- fewer fixed_advance_pc, or as many and fewer const_add_pc
abbrev pub IsBefore : ℕ → ℕ → ℕ → ℕ → Type 0
IsBefore j k fixed_adds const_adds = (j < fixed_adds) ⊎ ((j ≡ fixed_adds) × (k < const_adds))

-- opcodes whose counts are before these
abbrev pub HasCountsBefore : ℕ → ℕ → AddressOpcodes → Type 0
HasCountsBefore fixed_adds const_adds SetAddress = Unit {0}
HasCountsBefore fixed_adds const_adds (AdvanceBy a) = IsBefore a.fixed_adds a.const_adds fixed_adds const_adds

-- of the forms whose counts are before these, with so few bytes, this comes first
abbrev pub ComesFirstBefore : ℕ → ℕ → ℕ → ℕ → ℕ → ℕ → AddressOpcodes → Type 0
ComesFirstBefore range scale distance fixed_adds const_adds bytes SetAddress = Unit {0}
ComesFirstBefore range scale distance fixed_adds const_adds bytes (AdvanceBy a) = (form : AdvanceForm range scale distance bytes) → IsBefore form.fixed_adds form.const_adds fixed_adds const_adds → IsNotAfter a form.fixed_adds form.const_adds form.fixed_sum

-- the best way of those whose counts are before these, or set_address
pub record IsBestBefore (range scale distance fixed_adds const_adds : ℕ) (way : AddressWay) : Type 0 where
  pub way_is : IsWay range scale distance way
  pub counts : HasCountsBefore fixed_adds const_adds way.opcodes
  pub fewest : (n : ℕ) (form : AdvanceForm range scale distance n) → IsBefore form.fixed_adds form.const_adds fixed_adds const_adds → way.bytes ≤ n
  pub first : ComesFirstBefore range scale distance fixed_adds const_adds way.bytes way.opcodes

-- a number up to a limit, which a line distance is lessened by: no other leaves fewer bytes, and no smaller one as few
pub record IsRemainderFor (distance : ℤ) (most remainder : ℕ) : Type 0 where
  pub fewest : (r : ℕ) → r ≤ most → advance_line_bytes (distance -ℤ pos remainder) ≤ advance_line_bytes (distance -ℤ pos r)
  pub first : (r : ℕ) → r < remainder → advance_line_bytes (distance -ℤ pos remainder) < advance_line_bytes (distance -ℤ pos r)

-- of the special opcodes that advance the address by so many instructions, this leaves the fewest bytes of a line
-- distance, from which line_base is taken already; and no lower one leaves as few
pub record IsLinePart (distance : ℤ) (range part special : ℕ) (left : ℤ) : Type 0 where
  pub few : special ≤ last_special
  pub of_part : special / range ≡ part
  pub left_is : left ≡ distance -ℤ pos (special % range)
  pub fewest : (s : ℕ) → s ≤ last_special → s / range ≡ part → advance_line_bytes left ≤ advance_line_bytes (distance -ℤ pos (s % range))
  pub first : (s : ℕ) → s < special → s / range ≡ part → advance_line_bytes left < advance_line_bytes (distance -ℤ pos (s % range))

-- a step that does what it says
pub record IsStep (base : ℤ) (range scale : ℕ) (line : ℤ) (distance : ℕ) (way : RowWay) : Type 0 where
  pub bytes : way.bytes ≡ 1 + advance_line_bytes way.line + way.address.bytes
  pub line_operand : way.line ≡ line_before base range line way.opcode
  pub address : IsAddressWay range scale (distance_before range scale distance way.opcode) way.address

-- a special opcode that advances the address by so many instructions
abbrev pub IsOfPart : ℕ → ℕ → RowOpcode → Type 0
IsOfPart range part Copy = ⊥
IsOfPart range part (Special s) = (s ≤ last_special) × (s / range ≡ part)

-- the best step by a special opcode that advances the address by so many instructions
pub record IsBestOfPart (base : ℤ) (range scale : ℕ) (line : ℤ) (distance part : ℕ) (way : RowWay) : Type 0 where
  pub step_is : IsStep base range scale line distance way
  pub of_part : IsOfPart range part way.opcode
  pub fewest : (s n : ℕ) → s ≤ last_special → s / range ≡ part → SpecialWithin base range scale line distance s n → way.bytes ≤ n
  pub first : (s n : ℕ) → 13 + s < opcode_number way.opcode → s / range ≡ part → SpecialWithin base range scale line distance s n → way.bytes < n

-- copy, or a special opcode that advances the address by fewer instructions
abbrev pub IsOfParts : ℕ → ℕ → RowOpcode → Type 0
IsOfParts range parts Copy = Unit {0}
IsOfParts range parts (Special s) = (s ≤ last_special) × (s / range < parts)

-- the best step by copy and by such special opcodes
pub record IsBestOfParts (base : ℤ) (range scale : ℕ) (line : ℤ) (distance parts : ℕ) (way : RowWay) : Type 0 where
  pub step_is : IsStep base range scale line distance way
  pub of_parts : IsOfParts range parts way.opcode
  pub fewest : (opcode : RowOpcode) (n : ℕ) → IsOfParts range parts opcode → OpcodeWithin base range scale line distance opcode n → way.bytes ≤ n
  pub first : (opcode : RowOpcode) (n : ℕ) → IsOfParts range parts opcode → opcode_number opcode < opcode_number way.opcode → OpcodeWithin base range scale line distance opcode n → way.bytes < n

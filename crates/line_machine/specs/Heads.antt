-- The header of a line number program (DWARF 5 section 6.2.4) in .debug_line, in the 32-bit format.
use Rattle.std.specs.Prelude.{◌≡◌, ◌≢◌, ◌≤◌, ◌<◌, ◌+◌, ◌-◌, ◌⊎◌, ℕ, ℤ, List, [], ◌∷◌, take, drop, slice_index, not, nat_eq}
use Rattle.std.specs.Int.{w8, cast_signed}
use Rattle.dw_base.specs.declared.fault.Span.{Span}
use Rattle.fixed_width.specs.InitialLengths.{version, unit_end, LeavesSection}
use Rattle.fixed_width.specs.Numbers.{number_at}
use Rattle.line_machine.specs.Opcodes.{IsBase}
use Rattle.line_machine.specs.declared.head.Head.{Head}

-- the fields of the header at a place, after its length and its version
abbrev pub address_size : List ℕ → ℕ → ℕ
address_size section at = slice_index section (at + 6)

abbrev pub segment_selector_size : List ℕ → ℕ → ℕ
segment_selector_size section at = slice_index section (at + 7)

abbrev pub header_length : List ℕ → ℕ → ℕ
header_length section at = number_at 4 (at + 8) section

abbrev pub minimum_instruction_length : List ℕ → ℕ → ℕ
minimum_instruction_length section at = slice_index section (at + 12)

abbrev pub maximum_operations_per_instruction : List ℕ → ℕ → ℕ
maximum_operations_per_instruction section at = slice_index section (at + 13)

abbrev pub default_is_stmt : List ℕ → ℕ → ℕ
default_is_stmt section at = slice_index section (at + 14)

abbrev pub line_base : List ℕ → ℕ → ℤ
line_base section at = cast_signed w8 (slice_index section (at + 15))

abbrev pub line_range : List ℕ → ℕ → ℕ
line_range section at = slice_index section (at + 16)

abbrev pub opcode_base : List ℕ → ℕ → ℕ
opcode_base section at = slice_index section (at + 17)

-- how many operands each standard opcode has, from opcode 1 on
abbrev pub operand_counts : List ℕ
operand_counts = 0 ∷ 1 ∷ 1 ∷ 1 ∷ 1 ∷ 0 ∷ 0 ∷ 0 ∷ 1 ∷ 0 ∷ 0 ∷ 1 ∷ []

abbrev pub standard_opcode_lengths : List ℕ → ℕ → List ℕ
standard_opcode_lengths section at = take (opcode_base section at - 1) (drop (at + 18) section)

-- where the directory and file tables begin
abbrev pub tables_at : List ℕ → ℕ → ℕ
tables_at section at = at + 17 + opcode_base section at

-- where the program begins, which header_length counts from after its own field
abbrev pub program_at : List ℕ → ℕ → ℕ
program_at section at = at + 12 + header_length section at

-- The unit is in the section, and ends inside its header.
abbrev pub IsCutHeader : List ℕ → ℕ → Type 0
IsCutHeader section at = (¬ LeavesSection section at) × ((unit_end section at < at + 18) ⊎ (unit_end section at < tables_at section at))

-- the fixed fields of a header have the values that are read
pub record HasNumbers (section : List ℕ) (at : ℕ) : Type 0 where
  pub of_version : version section at ≡ 5
  pub of_address_size : address_size section at ≡ 8
  pub of_segments : segment_selector_size section at ≡ 0
  pub scaled : minimum_instruction_length section at ≢ 0
  pub of_operations : maximum_operations_per_instruction section at ≡ 1
  pub ranged : line_range section at ≢ 0
  pub based : IsBase (opcode_base section at)

-- The standard opcodes have the standard numbers of operands, and the program begins after them and inside the unit.
pub record HasLengths (section : List ℕ) (at : ℕ) : Type 0 where
  pub before_program : tables_at section at ≤ program_at section at
  pub in_unit : program_at section at ≤ unit_end section at
  pub counted : standard_opcode_lengths section at ≡ take (opcode_base section at - 1) operand_counts

-- the rules of a header
pub record HasHead (section : List ℕ) (at : ℕ) : Type 0 where
  pub here : ¬ LeavesSection section at
  pub numbers : HasNumbers section at
  pub lengths : HasLengths section at

-- the bytes from a place up to another
abbrev pub between : ℕ → ℕ → Span
between from to = record { at = from; len = to - from }

-- what the fields of a header say
abbrev pub head_at : List ℕ → ℕ → Head
head_at section at = record {
  at = at;
  len = unit_end section at - at;
  min = minimum_instruction_length section at;
  stmt = not (nat_eq (default_is_stmt section at) 0);
  base = line_base section at;
  range = line_range section at;
  opcode_base = opcode_base section at;
  tables = between (tables_at section at) (program_at section at);
  program = between (program_at section at) (unit_end section at);
}

-- a head that stands in the section at its place
pub record IsHead (section : List ℕ) (head : Head) : Type 0 where
  pub rules : HasHead section head.at
  pub fields : head ≡ head_at section head.at

-- the bytes of a program
abbrev pub program_of : List ℕ → Head → List ℕ
program_of section head = take head.program.len (drop head.program.at section)

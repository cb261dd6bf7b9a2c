-- The headers of the line number programs that are written.
use Rattle.std.proofs.Common.{◌≡◌, ◌≤◌, ◌<◌, ◌+◌, ◌-◌, ◌∙◌, ℕ, List, [], ◌∷◌, ◌++◌, length, take, drop, sym, ap, refl, subst, arith, inl, inr}
use Rattle.std.specs.Prelude.{ℤ, Bool, true, not, nat_eq, negsuc, slice_index}
use Rattle.std.specs.Int.{w8, cast_signed}
use Rattle.std.proofs.lemmas.List.{length-append}
use Rattle.byteorder.specs.Endian.{little_bytes}
use Rattle.dw_base.specs.declared.fault.Span.{Span}
use Rattle.fixed_width.specs.Numbers.{number, number_at}
use Rattle.fixed_width.specs.InitialLengths.{unit_length, version, unit_end, LeavesSection}
use Rattle.line_machine.specs.declared.head.Head.{Head}
use Rattle.line_machine.specs.Heads.{header_length, minimum_instruction_length, default_is_stmt, line_base, line_range, opcode_base, standard_opcode_lengths, operand_counts, tables_at, program_at, HasNumbers, HasHead, head_at, IsHead, program_of}
use Rattle.line_write.specs.Programs.{counted, tables_of}
use Rattle.line_write.proofs.Pieces.{Holds, held_front, held_all, held_byte, held_number}
use Rattle.line_write.proofs.ReadBack.{unit_length_read, header_length_read, unit_inside, at_version, at_header, at_counts, at_tables, at_program}
use Rattle.sample_maker.specs.Drawn.{UnitDrawn}
use Rattle.sample_maker.specs.Generated.{directory_table, file_table}
use Rattle.sample_maker.specs.inside.Bytes.{word, line_header, opcodes_bytes, program_bytes}
use Rattle.sample_maker.specs.inside.ReadLines.{program_head}
use Rattle.sample_maker.proofs.Lengths.{word_length}

-- THE PIECES OF A HEADER: version, address_size and segment_selector_size; then, behind header_length, three fields of instructions;
-- then line_base, line_range, opcode_base and the lengths of opcodes; and the tables

abbrev first_fields : List ℕ
first_fields = 5 ∷ 0 ∷ 8 ∷ 0 ∷ []

abbrev instruction_fields : List ℕ
instruction_fields = 1 ∷ 1 ∷ 1 ∷ []

abbrev pub tables : List ℕ
tables = directory_table ++ file_table

abbrev header : List ℕ
header = instruction_fields ++ (0xfb ∷ 14 ∷ 13 ∷ (operand_counts ++ tables))

abbrev body : List ℕ → List ℕ
body opcodes = first_fields ++ (counted header ++ opcodes)

-- a program is these pieces, counted
whole_program : (u : ℕ) (unit : UnitDrawn) → program_bytes u unit ≡ counted (body (opcodes_bytes u unit))
unfolding program_bytes word
whole_program u unit =
    let ops = opcodes_bytes u unit in
    let size : 50 + length ops ≡ length (body ops) = omega arith in
    ap (λ (n : ℕ). little_bytes 4 n ++ (line_header ++ ops)) size

pub program_size : (u : ℕ) (unit : UnitDrawn) → length (program_bytes u unit) ≡ 54 + length (opcodes_bytes u unit)
unfolding program_bytes
program_size u unit =
    let ops = opcodes_bytes u unit in
    omega (arith, length-append (word (50 + length ops)) (line_header ++ ops), length-append line_header ops, word_length (50 + length ops))

five : number_at 2 0 first_fields ≡ 5
unfolding number
five = refl

-- headers with the same fields
abbrev head_of : ℕ → ℕ → ℕ → Bool → ℤ → ℕ → ℕ → Span → Span → Head
head_of at len min stmt base range opcode_base tables program = record { at = at; len = len; min = min; stmt = stmt; base = base; range = range; opcode_base = opcode_base; tables = tables; program = program }

abbrev span : ℕ → ℕ → Span
span at len = record { at = at; len = len }

same_spans : (at at2 len len2 : ℕ) → at ≡ at2 → len ≡ len2 → span at len ≡ span at2 len2
same_spans at at2 len len2 e f = rw (e, f) refl

same_heads : (at len len2 min min2 : ℕ) (stmt stmt2 : Bool) (base base2 : ℤ) (range range2 ops ops2 : ℕ) (t t2 p p2 : Span) → len ≡ len2 → min ≡ min2 → stmt ≡ stmt2 → base ≡ base2 → range ≡ range2 → ops ≡ ops2 → t ≡ t2 → p ≡ p2 → head_of at len min stmt base range ops t p ≡ head_of at len2 min2 stmt2 base2 range2 ops2 t2 p2
same_heads at len len2 min min2 stmt stmt2 base base2 range range2 ops ops2 t t2 p p2 a b c d e f g h = rw (a, b, c, d, e, f, g, h) refl

module _ (section : List ℕ) (at u : ℕ) (unit : UnitDrawn) (stands : Holds section at (program_bytes u unit)) (few : length (program_bytes u unit) < 4294967280) where
  abbrev opcodes : List ℕ
  opcodes = opcodes_bytes u unit

  here : Holds section at (counted (body opcodes))
  here = subst (λ (z : List ℕ). Holds section at z) (whole_program u unit) stands

  small : length (body opcodes) < 4294967280
  small = omega (arith, few, program_size u unit)

  length_is : unit_length section at ≡ 50 + length opcodes
  length_is = unit_length_read section at first_fields instruction_fields tables opcodes 0xfb 14 refl refl here small

  header_is : header_length section at ≡ 42
  header_is = header_length_read section at first_fields instruction_fields tables opcodes 0xfb 14 refl refl here small

  inside : at + 54 + length opcodes ≤ length section
  inside = omega (arith, unit_inside section at first_fields instruction_fields tables opcodes 0xfb 14 refl refl here small)

  at_fields : Holds section (at + 4) (first_fields ++ (counted header ++ opcodes))
  at_fields = at_version section at first_fields instruction_fields tables opcodes 0xfb 14 refl refl here small

  at_instruction : Holds section (at + 12) header
  at_instruction = at_header section at first_fields instruction_fields tables opcodes 0xfb 14 refl refl here small

  at_lengths : Holds section (at + 18) (operand_counts ++ tables)
  at_lengths = at_counts section at first_fields instruction_fields tables opcodes 0xfb 14 refl refl here small

  -- the bytes of the first fields, and of those behind header_length
  field_byte : (k place : ℕ) → k < 4 → at + 4 + k ≡ place → slice_index section place ≡ slice_index first_fields k
  field_byte k place lt e = held_byte section (at + 4) first_fields (held_front section (at + 4) first_fields (counted header ++ opcodes) at_fields) k place lt e

  header_byte : (k place : ℕ) → k < 6 → at + 12 + k ≡ place → slice_index section place ≡ slice_index header k
  header_byte k place lt e = held_byte section (at + 12) header at_instruction k place (omega (arith, lt)) e

  version_is : version section at ≡ 5
  version_is = held_number section (at + 4) first_fields (held_front section (at + 4) first_fields (counted header ++ opcodes) at_fields) 2 (omega arith) ∙ five

  pub min_is : minimum_instruction_length section at ≡ 1
  min_is = header_byte 0 (at + 12) (omega arith) (omega arith)

  pub stmt_is : default_is_stmt section at ≡ 1
  stmt_is = header_byte 2 (at + 14) (omega arith) (omega arith)

  base_is : line_base section at ≡ negsuc 4
  base_is = ap (cast_signed w8) (header_byte 3 (at + 15) (omega arith) (omega arith))

  range_is : line_range section at ≡ 14
  range_is = header_byte 4 (at + 16) (omega arith) (omega arith)

  opcode_base_is : opcode_base section at ≡ 13
  opcode_base_is = header_byte 5 (at + 17) (omega arith) (omega arith)

  lengths_are : standard_opcode_lengths section at ≡ take (opcode_base section at - 1) operand_counts
  lengths_are =
      let twelve : take 12 (drop (at + 18) section) ≡ operand_counts = held_all section (at + 18) operand_counts (held_front section (at + 18) operand_counts tables at_lengths) 12 refl in
      ap (λ (z : ℕ). take (z - 1) (drop (at + 18) section)) opcode_base_is ∙ twelve ∙ ap (λ (z : ℕ). take (z - 1) operand_counts) (sym opcode_base_is)

  numbers : HasNumbers section at
  numbers = record {
    of_version = version_is;
    of_address_size = field_byte 2 (at + 6) (omega arith) (omega arith);
    of_segments = field_byte 3 (at + 7) (omega arith) (omega arith);
    scaled = λ z. absurd (omega (arith, min_is, z));
    of_operations = header_byte 1 (at + 13) (omega arith) (omega arith);
    ranged = λ z. absurd (omega (arith, range_is, z));
    based = (omega (arith, opcode_base_is), omega (arith, opcode_base_is));
  }

  stays : ¬ LeavesSection section at
  stays (inl short) = absurd (omega (arith, inside, short))
  stays (inr (inl reserved)) = absurd (omega (arith, length_is, reserved, few, program_size u unit))
  stays (inr (inr long)) = absurd (omega (arith, inside, length_is, long))

  has : HasHead section at
  has = record {
    here = stays;
    numbers = numbers;
    lengths = record { before_program = omega (arith, opcode_base_is, header_is); in_unit = omega (arith, header_is, length_is); counted = lengths_are };
  }

  fields_are : head_at section at ≡ program_head u at unit
  fields_are =
      let len : unit_end section at - at ≡ length (program_bytes u unit) = omega (arith, length_is, program_size u unit) in
      let stmt : not (nat_eq (default_is_stmt section at) 0) ≡ true = ap (λ (z : ℕ). not (nat_eq z 0)) stmt_is in
      let from : tables_at section at ≡ at + 30 = omega (arith, opcode_base_is) in
      let to : program_at section at ≡ at + 54 = omega (arith, header_is) in
      let between : program_at section at - tables_at section at ≡ 24 = omega (arith, opcode_base_is, header_is) in
      let rest : unit_end section at - program_at section at ≡ length opcodes = omega (arith, header_is, length_is) in
      same_heads at (unit_end section at - at) (length (program_bytes u unit)) (minimum_instruction_length section at) 1 (not (nat_eq (default_is_stmt section at) 0)) true (line_base section at) (negsuc 4) (line_range section at) 14 (opcode_base section at) 13 (span (tables_at section at) (program_at section at - tables_at section at)) (span (at + 30) 24) (span (program_at section at) (unit_end section at - program_at section at)) (span (at + 54) (length opcodes)) len min_is stmt base_is range_is opcode_base_is (same_spans (tables_at section at) (at + 30) (program_at section at - tables_at section at) 24 from between) (same_spans (program_at section at) (at + 54) (unit_end section at - program_at section at) (length opcodes) to rest)

  -- what the header says
  pub head_is : IsHead section (program_head u at unit)
  head_is = record { rules = has; fields = sym fields_are }

  -- its tables and its opcodes
  pub tables_are : tables_of section (program_head u at unit) ≡ tables
  tables_are = held_all section (at + 30) tables (at_tables section at first_fields instruction_fields tables opcodes 0xfb 14 refl refl here small (at + 30) refl) 24 refl

  pub program_is : program_of section (program_head u at unit) ≡ opcodes
  program_is = held_all section (at + 54) opcodes (at_program section at first_fields instruction_fields tables opcodes 0xfb 14 refl refl here small (at + 54) (omega arith)) (length opcodes) refl

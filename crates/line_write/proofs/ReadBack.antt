-- A unit that was written is read back.
use Rattle.std.proofs.Common.{◌≡◌, ◌≤◌, ◌<◌, ◌+◌, ◌-◌, ◌++◌, ◌∙◌, ℕ, ℤ, pos, List, [], ◌∷◌, length, take, drop, sym, ap, refl, arith, inl, inr}
use Rattle.std.specs.Prelude.{slice_index, negsuc, neg_ℤ, ◌≤ℤ◌, FitsSigned}
use Rattle.std.specs.Int.{w8, cast_signed, cast_unsigned}
use Rattle.std.proofs.lemmas.Int.{ints, to_z-of_z}
use Rattle.std.proofs.lemmas.List.{length-append, take-take}
use Rattle.byteorder.specs.Endian.{little_bytes}
use Rattle.byteorder.specs.Numbers.{length-bytes_low_first}
use Rattle.fixed_width.specs.Numbers.{number_at}
use Rattle.fixed_width.specs.InitialLengths.{unit_length, version, unit_end, LeavesSection}
use Rattle.line_machine.specs.Heads.{header_length, minimum_instruction_length, default_is_stmt, line_base, line_range, opcode_base, standard_opcode_lengths, operand_counts, tables_at, program_at, HasNumbers, HasHead, head_at, program_of}
use Rattle.line_machine.specs.Class.{Encoding, IsPair}
use Rattle.line_machine.proofs.Parts.{number_part}
use Rattle.line_write.specs.Programs.{version_of, instruction_of, tables_of, counted, header_of, body_of}
use Rattle.line_write.proofs.Pieces.{Holds, held_front, held_after, held_inside, held_all, held_byte, held_number, part_byte, number_back}
use Rattle.spelled.proofs.Parts.{length_part}

-- where the parts of a header end
pub record Bounds (section : List ℕ) (at : ℕ) : Type 0 where
  pub tables : at + 17 + opcode_base section at ≤ at + 12 + header_length section at
  pub program : at + 12 + header_length section at ≤ at + 4 + unit_length section at
  pub inside : at + 4 + unit_length section at ≤ length section
  pub low : 9 < opcode_base section at

pub bounds : (section : List ℕ) (at : ℕ) → HasHead section at → Bounds section at
bounds section at rules =
    let no : ¬ (length section < at + 4 + unit_length section at) = λ z. rules.here (inr (inr z)) in
    record {
      tables = rules.lengths.before_program;
      program = rules.lengths.in_unit;
      inside = omega arith;
      low = rules.numbers.based.0;
    }

-- PIECES OF A UNIT

abbrev header_with : List ℕ → List ℕ → ℕ → ℕ → List ℕ
header_with instruction tables base range = instruction ++ (base ∷ range ∷ 13 ∷ (operand_counts ++ tables))

abbrev body_with : List ℕ → List ℕ → List ℕ → ℕ → ℕ → List ℕ → List ℕ
body_with version instruction tables base range program = version ++ (counted (header_with instruction tables base range) ++ program)

module _ (instruction tables : List ℕ) (base range : ℕ) where
  pub header_size : length instruction ≡ 3 → length (header_with instruction tables base range) ≡ 18 + length tables
  header_size three =
      let fields : length (header_with instruction tables base range) ≡ length instruction + length (base ∷ range ∷ 13 ∷ (operand_counts ++ tables)) =
      length-append instruction (base ∷ range ∷ 13 ∷ (operand_counts ++ tables)) in
      let counts : length (base ∷ range ∷ 13 ∷ (operand_counts ++ tables)) ≡ 15 + length tables = length-append (base ∷ range ∷ 13 ∷ operand_counts) tables in
      omega arith

pub counted_size : (bytes : List ℕ) → length (counted bytes) ≡ 4 + length bytes
counted_size bytes =
    let four : length (little_bytes 4 (length bytes)) ≡ 4 = length-bytes_low_first 0 4 (length bytes) in
    let all : length (counted bytes) ≡ length (little_bytes 4 (length bytes)) + length bytes = length-append (little_bytes 4 (length bytes)) bytes in
    omega arith

pub body_size : (version instruction tables program : List ℕ) (base range : ℕ) → length version ≡ 4 → length instruction ≡ 3 → length (body_with version instruction tables base range program) ≡ 26 + length tables + length program
body_size version instruction tables program base range four three =
    let header : List ℕ = header_with instruction tables base range in
    let a : length (version ++ (counted header ++ program)) ≡ length version + length (counted header ++ program) = length-append version (counted header ++ program) in
    let b : length (counted header ++ program) ≡ length (counted header) + length program = length-append (counted header) program in
    let c : length (counted header) ≡ 4 + length header = counted_size header in
    let d : length header ≡ 18 + length tables = header_size instruction tables base range three in
    omega arith

module _ (bytes : List ℕ) (p : ℕ) (version_ instruction tables program : List ℕ) (base range : ℕ)
    (four : length version_ ≡ 4) (three : length instruction ≡ 3)
    (here : Holds bytes p (counted (body_with version_ instruction tables base range program)))
    (small : length (body_with version_ instruction tables base range program) < 4294967280) where
  header_size_is : length (header_with instruction tables base range) ≡ 18 + length tables
  header_size_is = header_size instruction tables base range three

  body_size_is : length (body_with version_ instruction tables base range program) ≡ 26 + length tables + length program
  body_size_is = body_size version_ instruction tables program base range four three

  -- a length that was written is read back
  length_back : (place : ℕ) (part : List ℕ) → length part < 4294967280 → Holds bytes place (counted part) → number_at 4 place bytes ≡ length part
  length_back place part few h =
      let size : length (little_bytes 4 (length part)) ≡ 4 = length-bytes_low_first 0 4 (length part) in
      held_number bytes place (little_bytes 4 (length part)) (held_front bytes place (little_bytes 4 (length part)) part h) 4 (omega arith)
      ∙ number_back 4 (length part) (omega arith)

  pub at_version : Holds bytes (p + 4) (body_with version_ instruction tables base range program)
  at_version =
      let body : List ℕ = body_with version_ instruction tables base range program in
      held_after bytes p 4 (p + 4) (little_bytes 4 (length body)) body here (length-bytes_low_first 0 4 (length body)) refl

  at_length : Holds bytes (p + 8) (counted (header_with instruction tables base range) ++ program)
  at_length = held_after bytes (p + 4) 4 (p + 8) version_ (counted (header_with instruction tables base range) ++ program) at_version four (omega arith)

  pub at_header : Holds bytes (p + 12) (header_with instruction tables base range)
  at_header =
      let header : List ℕ = header_with instruction tables base range in
      held_after bytes (p + 8) 4 (p + 12) (little_bytes 4 (length header)) header (held_front bytes (p + 8) (counted header) program at_length) (length-bytes_low_first 0 4 (length header)) (omega arith)

  pub at_pair : Holds bytes (p + 15) (base ∷ range ∷ 13 ∷ (operand_counts ++ tables))
  at_pair = held_after bytes (p + 12) 3 (p + 15) instruction (base ∷ range ∷ 13 ∷ (operand_counts ++ tables)) at_header three (omega arith)

  pub at_counts : Holds bytes (p + 18) (operand_counts ++ tables)
  at_counts = held_after bytes (p + 15) 3 (p + 18) (base ∷ range ∷ 13 ∷ []) (operand_counts ++ tables) at_pair refl (omega arith)

  pub at_tables : (place : ℕ) → p + 30 ≡ place → Holds bytes place tables
  at_tables place e = held_after bytes (p + 18) 12 place operand_counts tables at_counts refl (omega arith)

  pub at_program : (place : ℕ) → p + 30 + length tables ≡ place → Holds bytes place program
  at_program place e =
      let header : List ℕ = header_with instruction tables base range in
      let size : length (counted header) ≡ 4 + length header = counted_size header in
      let size2 : length header ≡ 18 + length tables = header_size_is in
      held_after bytes (p + 8) (22 + length tables) place (counted header) program at_length (omega arith) (omega arith)

  pub unit_length_read : unit_length bytes p ≡ 26 + length tables + length program
  unit_length_read = length_back p (body_with version_ instruction tables base range program) small here ∙ body_size_is

  pub header_length_read : header_length bytes p ≡ 18 + length tables
  header_length_read =
      let header : List ℕ = header_with instruction tables base range in
      let size : length header ≡ 18 + length tables = header_size_is in
      let all : length (body_with version_ instruction tables base range program) ≡ 26 + length tables + length program = body_size_is in
      length_back (p + 8) header (omega arith) (held_front bytes (p + 8) (counted header) program at_length) ∙ size

  pub unit_inside : p + 30 + length tables + length program ≤ length bytes
  unit_inside =
      let body : List ℕ = body_with version_ instruction tables base range program in
      let inside : p + length (counted body) ≤ length bytes = held_inside bytes p (counted body) here in
      let size : length (counted body) ≡ 4 + length body = counted_size body in
      let size2 : length body ≡ 26 + length tables + length program = body_size_is in
      omega arith

-- WHAT IS READ BACK

-- What a unit is that was written at a place for the unit at another, with an encoding.
pub record IsReadBack (section : List ℕ) (at : ℕ) (e : Encoding) (bytes : List ℕ) (p : ℕ) : Type 0 where
  pub has : HasHead bytes p
  pub end : unit_end bytes p ≡ p + length (counted (body_of section (head_at section at) e))
  pub program : program_of bytes (head_at bytes p) ≡ e.bytes
  pub tables : tables_of bytes (head_at bytes p) ≡ tables_of section (head_at section at)
  pub min : minimum_instruction_length bytes p ≡ minimum_instruction_length section at
  pub is_stmt : default_is_stmt bytes p ≡ default_is_stmt section at
  pub base : line_base bytes p ≡ e.base
  pub range : line_range bytes p ≡ e.range
  pub opcode_base : opcode_base bytes p ≡ 13

-- a signed byte is read back
signed_byte : (base : ℤ) → neg_ℤ (pos 128) ≤ℤ base → base ≤ℤ pos 127 → FitsSigned w8 base
signed_byte (pos n) low high = record { sfits = omega (arith, ints, high) }
signed_byte (negsuc n) low high = record { sfits = omega (arith, ints, low) }

pub byte_back : (base : ℤ) → neg_ℤ (pos 128) ≤ℤ base → base ≤ℤ pos 127 → cast_signed w8 (cast_unsigned w8 base) ≡ base
byte_back base low high = to_z-of_z w8 base (signed_byte base low high)

-- how many bytes the parts of a unit have
pub record Sizes (section : List ℕ) (at : ℕ) : Type 0 where
  pub version : length (version_of section (head_at section at)) ≡ 4
  pub instruction : length (instruction_of section (head_at section at)) ≡ 3
  pub tables : length (tables_of section (head_at section at)) ≡ header_length section at - (5 + opcode_base section at)

pub sizes : (section : List ℕ) (at : ℕ) → HasHead section at → Sizes section at
sizes section at rules =
    let b = bounds section at rules in
    let from : ℕ = tables_at section at in
    let count : program_at section at - from ≡ header_length section at - (5 + opcode_base section at) = omega arith in
    record {
      version = length_part (at + 4) 4 section (omega arith);
      instruction = length_part (at + 12) 3 section (omega arith);
      tables = length_part from (program_at section at - from) section (omega arith) ∙ count;
    }

module _ (section : List ℕ) (at : ℕ) (e : Encoding) (bytes : List ℕ) (p : ℕ) (rules : HasHead section at) (pair : IsPair e.base e.range)
    (here : Holds bytes p (counted (body_of section (head_at section at) e)))
    (small : length (body_of section (head_at section at) e) < 4294967280) where
  old : Sizes section at
  old = sizes section at rules

  abbrev v : List ℕ
  v = version_of section (head_at section at)

  abbrev i : List ℕ
  i = instruction_of section (head_at section at)

  abbrev t : List ℕ
  t = tables_of section (head_at section at)

  abbrev b : ℕ
  b = cast_unsigned w8 e.base

  length_is : unit_length bytes p ≡ 26 + length t + length e.bytes
  length_is = unit_length_read bytes p v i t e.bytes b e.range old.version old.instruction here small

  header_is : header_length bytes p ≡ 18 + length t
  header_is = header_length_read bytes p v i t e.bytes b e.range old.version old.instruction here small

  body : Holds bytes (p + 4) (body_of section (head_at section at) e)
  body = at_version bytes p v i t e.bytes b e.range old.version old.instruction here small

  header : Holds bytes (p + 12) (header_of section (head_at section at) e.base e.range)
  header = at_header bytes p v i t e.bytes b e.range old.version old.instruction here small

  fields : Holds bytes (p + 15) (b ∷ e.range ∷ 13 ∷ (operand_counts ++ t))
  fields = at_pair bytes p v i t e.bytes b e.range old.version old.instruction here small

  counts : Holds bytes (p + 18) (operand_counts ++ t)
  counts = at_counts bytes p v i t e.bytes b e.range old.version old.instruction here small

  inside : p + 30 + length t + length e.bytes ≤ length bytes
  inside = unit_inside bytes p v i t e.bytes b e.range old.version old.instruction here small

  -- the fields that are kept
  version_byte : (k place from : ℕ) → k < 4 → p + 4 + k ≡ place → at + 4 + k ≡ from → slice_index bytes place ≡ slice_index section from
  version_byte k place from lt f g =
      let four : length v ≡ 4 = old.version in
      held_byte bytes (p + 4) v (held_front bytes (p + 4) v (counted (header_of section (head_at section at) e.base e.range) ++ e.bytes) body) k place (omega arith) f
      ∙ part_byte 4 (at + 4) k section lt ∙ ap (slice_index section) g

  instruction_byte : (k place from : ℕ) → k < 3 → p + 12 + k ≡ place → at + 12 + k ≡ from → slice_index bytes place ≡ slice_index section from
  instruction_byte k place from lt f g =
      let three : length i ≡ 3 = old.instruction in
      held_byte bytes (p + 12) i (held_front bytes (p + 12) i (b ∷ e.range ∷ 13 ∷ (operand_counts ++ t)) header) k place (omega arith) f
      ∙ part_byte 3 (at + 12) k section lt ∙ ap (slice_index section) g

  version_is : version bytes p ≡ version section at
  version_is =
      let four : length v ≡ 4 = old.version in
      held_number bytes (p + 4) v (held_front bytes (p + 4) v (counted (header_of section (head_at section at) e.base e.range) ++ e.bytes) body) 2 (omega arith)
      ∙ number_part 2 0 v ∙ ap (number_at 2 0) (take-take 2 4 (drop (at + 4) section) (omega arith)) ∙ sym (number_part 2 (at + 4) section)

  min_is : minimum_instruction_length bytes p ≡ minimum_instruction_length section at
  min_is = instruction_byte 0 (p + 12) (at + 12) (omega arith) (omega arith) (omega arith)

  stmt_is : default_is_stmt bytes p ≡ default_is_stmt section at
  stmt_is = instruction_byte 2 (p + 14) (at + 14) (omega arith) (omega arith) (omega arith)

  -- the fields that are new
  pair_byte : (k place : ℕ) → k < 3 → p + 15 + k ≡ place → slice_index bytes place ≡ slice_index (b ∷ e.range ∷ 13 ∷ (operand_counts ++ t)) k
  pair_byte k place lt f = held_byte bytes (p + 15) (b ∷ e.range ∷ 13 ∷ (operand_counts ++ t)) fields k place (omega arith) f

  range_is : line_range bytes p ≡ e.range
  range_is = pair_byte 1 (p + 16) (omega arith) (omega arith)

  base_is : line_base bytes p ≡ e.base
  base_is = ap (cast_signed w8) (pair_byte 0 (p + 15) (omega arith) (omega arith)) ∙ byte_back e.base pair.base_from pair.base_to

  opcode_base_is : opcode_base bytes p ≡ 13
  opcode_base_is = pair_byte 2 (p + 17) (omega arith) (omega arith)

  lengths_are : standard_opcode_lengths bytes p ≡ take (opcode_base bytes p - 1) operand_counts
  lengths_are =
      let twelve : take 12 (drop (p + 18) bytes) ≡ operand_counts = held_all bytes (p + 18) operand_counts (held_front bytes (p + 18) operand_counts t counts) 12 refl in
      ap (λ z. take (z - 1) (drop (p + 18) bytes)) opcode_base_is ∙ twelve ∙ ap (λ z. take (z - 1) operand_counts) (sym opcode_base_is)

  numbers : HasNumbers bytes p
  numbers = record {
    of_version = version_is ∙ rules.numbers.of_version;
    of_address_size = version_byte 2 (p + 6) (at + 6) (omega arith) (omega arith) (omega arith) ∙ rules.numbers.of_address_size;
    of_segments = version_byte 3 (p + 7) (at + 7) (omega arith) (omega arith) (omega arith) ∙ rules.numbers.of_segments;
    scaled = λ z. rules.numbers.scaled (sym min_is ∙ z);
    of_operations = instruction_byte 1 (p + 13) (at + 13) (omega arith) (omega arith) (omega arith) ∙ rules.numbers.of_operations;
    ranged = λ z. let some : 1 ≤ e.range = pair.range_from in let none : line_range bytes p ≡ 0 = z in let same : line_range bytes p ≡ e.range = range_is in absurd (omega arith);
    based = let same : opcode_base bytes p ≡ 13 = opcode_base_is in (omega arith, omega arith);
  }

  stays : ¬ LeavesSection bytes p
  stays (inl short) = let all : p + 30 + length t + length e.bytes ≤ length bytes = inside in absurd (omega arith)
  stays (inr (inl reserved)) =
      let size : unit_length bytes p ≡ 26 + length t + length e.bytes = length_is in
      let size2 : length (body_of section (head_at section at) e) ≡ 26 + length t + length e.bytes = body_size v i t e.bytes b e.range old.version old.instruction in
      absurd (omega arith)
  stays (inr (inr long)) =
      let all : p + 30 + length t + length e.bytes ≤ length bytes = inside in
      let size : unit_length bytes p ≡ 26 + length t + length e.bytes = length_is in
      absurd (omega arith)

  has : HasHead bytes p
  has =
      let size : unit_length bytes p ≡ 26 + length t + length e.bytes = length_is in
      let size2 : header_length bytes p ≡ 18 + length t = header_is in
      let base : opcode_base bytes p ≡ 13 = opcode_base_is in
      record {
        here = stays;
        numbers = numbers;
        lengths = record { before_program = omega arith; in_unit = omega arith; counted = lengths_are };
      }

  program_is : program_of bytes (head_at bytes p) ≡ e.bytes
  program_is =
      let size : unit_length bytes p ≡ 26 + length t + length e.bytes = length_is in
      let size2 : header_length bytes p ≡ 18 + length t = header_is in
      let place : p + 30 + length t ≡ program_at bytes p = omega arith in
      held_all bytes (program_at bytes p) e.bytes (at_program bytes p v i t e.bytes b e.range old.version old.instruction here small (program_at bytes p) place) (unit_end bytes p - program_at bytes p) (omega arith)

  tables_are : tables_of bytes (head_at bytes p) ≡ t
  tables_are =
      let size : header_length bytes p ≡ 18 + length t = header_is in
      let base : opcode_base bytes p ≡ 13 = opcode_base_is in
      let place : p + 30 ≡ tables_at bytes p = omega arith in
      held_all bytes (tables_at bytes p) t (at_tables bytes p v i t e.bytes b e.range old.version old.instruction here small (tables_at bytes p) place) (program_at bytes p - tables_at bytes p) (omega arith)

  -- a unit that was written is read back
  pub unit_read_back : IsReadBack section at e bytes p
  unit_read_back =
      let size : unit_length bytes p ≡ 26 + length t + length e.bytes = length_is in
      let size2 : length (body_of section (head_at section at) e) ≡ 26 + length t + length e.bytes = body_size v i t e.bytes b e.range old.version old.instruction in
      let size3 : length (counted (body_of section (head_at section at) e)) ≡ 4 + length (body_of section (head_at section at) e) = counted_size (body_of section (head_at section at) e) in
      record {
        has = has;
        end = omega arith;
        program = program_is;
        tables = tables_are;
        min = min_is;
        is_stmt = stmt_is;
        base = base_is;
        range = range_is;
        opcode_base = opcode_base_is;
      }

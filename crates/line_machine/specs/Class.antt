-- The class of line number programs that give the rows of one: all byte strings, under all pairs of line_base and
-- line_range, with the opcode_base 13 and the other fields of one head (DWARF 5 section 6.2.4), whose rows are these.
use Rattle.std.specs.Prelude.{◌≡◌, ◌≤◌, ◌<◌, ◌^◌, ◌⊎◌, ℕ, ℤ, pos, neg_ℤ, ◌≤ℤ◌, List, length, true, false, All}
use Rattle.leb_codec.specs.Least.{IsLeast}
use Rattle.line_machine.specs.declared.head.Head.{Head}
use Rattle.line_machine.specs.declared.registers.Row.{Row}
use Rattle.line_machine.specs.Rows.{GivesRows, end_row, ends}

-- a pair of line_base and line_range, and the bytes of a program under it
pub record Encoding : Type 0 where
  pub base : ℤ
  pub range : ℕ
  pub bytes : List ℕ

-- the head with another pair, and with the opcode_base 13, under which every standard opcode has its code
abbrev pub with_pair : Head → ℤ → ℕ → Head
with_pair head line_base line_range = record head { base = line_base; range = line_range; opcode_base = 13 }

-- A header can have the pair: line_base is a signed byte, and line_range a byte other than 0.
pub record IsPair (base : ℤ) (range : ℕ) : Type 0 where
  pub base_from : neg_ℤ (pos 128) ≤ℤ base
  pub base_to : base ≤ℤ pos 127
  pub range_from : 1 ≤ range
  pub range_to : range ≤ 255

-- a member of the class
pub record IsEncoding (head : Head) (rows : List Row) (e : Encoding) : Type 0 where
  pub pair : IsPair e.base e.range
  pub gives : GivesRows (with_pair head e.base e.range) e.bytes rows

-- the size of a member
abbrev pub encoding_size : Encoding → ℕ
encoding_size e = length e.bytes

-- the pair is that of the header that was read, whatever its opcode_base is
abbrev pub IsPairOf : Head → ℤ → ℕ → Type 0
IsPairOf head base range = (base ≡ head.base) × (range ≡ head.range)

-- Of several pairs the head's own comes first, and then the one with the least line_range, and among those the one
-- with the least line_base. The first pair doesn't come after the second one.
abbrev pub ComesFirst : Head → ℤ → ℕ → ℤ → ℕ → Type 0
ComesFirst head base range other_base other_range =
    IsPairOf head base range
    ⊎ ((¬ IsPairOf head other_base other_range) × ((range < other_range) ⊎ ((range ≡ other_range) × (base ≤ℤ other_base))))

-- of the pairs that have as short a member the pair of this one comes first
abbrev pub IsFirstEncoding : Head → List Row → Encoding → Type 0
IsFirstEncoding head rows e = (other : Encoding) → IsEncoding head rows other → length other.bytes ≡ length e.bytes → ComesFirst head e.base e.range other.base other.range

-- The member that is taken: no member is shorter, and of the pairs that have as short a one its pair comes first.
pub record IsTaken (head : Head) (rows : List Row) (e : Encoding) : Type 0 where
  pub least : IsLeast (IsEncoding head rows) encoding_size e
  pub first : IsFirstEncoding head rows e

-- a row that a program can have: one that ends a sequence has an address alone, and the line of another is below 2^32
abbrev pub IsRow : Row → Type 0
IsRow row = (row ≡ end_row row.address) ⊎ ((row.end ≡ false) × (row.line < 2 ^ 32))

-- the rows that a program can have: the last of them ends a sequence, or there is none
pub record AreRows (rows : List Row) : Type 0 where
  pub each : All IsRow rows
  pub ended : ends true rows ≡ true

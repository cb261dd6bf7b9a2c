-- What opcodes do, and how many bytes they have.
use Rattle.std.proofs.Common.{◌≡◌, ◌≢◌, ◌≤◌, ◌<◌, ◌+◌, ◌^◌, ◌==◌, ◌∙◌, ℕ, List, [], ◌∷◌, ◌++◌, length, sym, ap, refl, subst, arith}
use Rattle.std.specs.Prelude.{ℤ, Bool, true, false, not, Option, Some, None}
use Rattle.std.proofs.lemmas.List.{append-nil, length-append}
use Rattle.std.proofs.lemmas.Bool.{eqb-true, eqb-false, not-true, not-false}
use Rattle.spelled.specs.Spelled.{Joined}
use Rattle.spelled.proofs.Joins.{joined_split}
use Rattle.leb_codec.specs.Leb.{least_unsigned_len, least_signed_len}
use Rattle.leb_codec.proofs.Lens.{unsigned_lens}
use Rattle.line_machine.specs.declared.head.Head.{Head}
use Rattle.line_machine.specs.declared.opcode.Opcode.{Opcode}
use Rattle.line_machine.specs.declared.opcode.Opcode.TheVariants.{EndSequence, SetAddress, SetDiscriminator}
use Rattle.line_machine.specs.declared.registers.Registers.{Registers}
use Rattle.line_machine.specs.declared.registers.Row.{Row}
use Rattle.line_machine.specs.Opcodes.{WithFixed}
use Rattle.line_machine.proofs.Passing.{registers_append, rows_append, sound_append}
use Rattle.line_machine.specs.Rows.{after, row_of, rows_in, with_row, rows_from, registers_after, IsSound, AreSound}
use Rattle.line_params.specs.Shortest.{WithShortestUleb, WithShortestSleb, ShortestExtended, ShortestOpcode}
use Rattle.line_params.specs.Order.{opcode_if}

-- Opcodes are in range, give rows, leave registers and have so many bytes.
pub record Does (head : Head) (r : Registers) (opcodes : List Opcode) (rows : List Row) (s : Registers) (n : ℕ) : Type 0 where
  pub sound : AreSound head r opcodes
  pub given : rows_from head r opcodes ≡ rows
  pub left : registers_after head r opcodes ≡ s
  pub size : (bytes : List ℕ) → Joined (ShortestOpcode 13) opcodes bytes → length bytes ≡ n

-- ---- opcodes one after the other

pub does_none : (head : Head) (r : Registers) → Does head r [] [] r 0
does_none head r = record { sound = tt; given = refl; left = refl; size = λ bytes j. ap length j }

pub does_append : (head : Head) (r s t : Registers) (xs ys : List Opcode) (rows more : List Row) (m n : ℕ) → Does head r xs rows s m → Does head s ys more t n → Does head r (xs ++ ys) (rows ++ more) t (m + n)
does_append head r s t xs ys rows more m n f g = record {
  sound = sound_append head r xs ys f.sound (subst (λ (z : Registers). AreSound head z ys) (sym f.left) g.sound);
  given =
      rows_append head r xs ys ∙ ap (λ z. z ++ rows_from head (registers_after head r xs) ys) f.given
      ∙ ap (λ z. rows ++ rows_from head z ys) f.left
      ∙ ap (λ z. rows ++ z) g.given;
  left = registers_append head r xs ys ∙ ap (λ z. registers_after head z ys) f.left ∙ g.left;
  size = λ bytes j.
      let p = joined_split (ShortestOpcode 13) xs ys bytes j in
      let one = f.size p.0 p.2 in
      let two = g.size p.1 p.3 in
      let both : length bytes ≡ length p.0 + length p.1 = ap length p.4 ∙ length-append p.0 p.1 in
      omega arith;
}

-- the same, told otherwise
pub does_same : (head : Head) (r s t : Registers) (opcodes : List Opcode) (rows : List Row) (m n : ℕ) → s ≡ t → m ≡ n → Does head r opcodes rows s m → Does head r opcodes rows t n
does_same head r s t opcodes rows m n e f d = record {
  sound = d.sound;
  given = d.given;
  left = d.left ∙ e;
  size = λ bytes j. d.size bytes j ∙ f;
}

-- ---- one opcode

rows_one : (row : Option Row) → with_row row [] ≡ rows_in row
rows_one None = refl
rows_one (Some row) = refl

pub does_one : (head : Head) (r : Registers) (op : Opcode) (n : ℕ) → IsSound head op r → ((bytes : List ℕ) → ShortestOpcode 13 op bytes → length bytes ≡ n) → Does head r (op ∷ []) (rows_in (row_of head op r)) (after head op r) n
does_one head r op n sound size = record {
  sound = (sound, tt);
  given = rows_one (row_of head op r);
  left = refl;
  size = λ bytes (first, rest, s, j, e). ap length (e ∙ ap (λ z. first ++ z) j ∙ append-nil first) ∙ size first s;
}

-- an opcode that is wanted or not
pub does_if : (head : Head) (r s : Registers) (wanted : Bool) (op : Opcode) (n : ℕ) → (wanted ≡ true → Does head r (op ∷ []) [] s n) → (wanted ≡ false → Does head r [] [] s n) → Does head r (opcode_if wanted op) [] s n
does_if head r s true op n on off = on refl
does_if head r s false op n on off = off refl

-- an opcode where two numbers differ
pub does_change : (head : Head) (r s : Registers) (from to : ℕ) (op : Opcode) (n : ℕ) → (from ≢ to → Does head r (op ∷ []) [] s n) → (from ≡ to → Does head r [] [] s n) → Does head r (opcode_if (not (from == to)) op) [] s n
does_change head r s from to op n on off =
    does_if head r s (not (from == to)) op n (λ e. on (eqb-false from to (not-true (from == to) e))) (λ e. off (eqb-true from to (not-false (from == to) e)))

-- ---- bytes

pub size_code : (code : ℕ) (bytes : List ℕ) → bytes ≡ code ∷ [] → length bytes ≡ 1
size_code code bytes e = ap length e

pub size_uleb : (code value : ℕ) (bytes : List ℕ) → WithShortestUleb code value bytes → length bytes ≡ 1 + least_unsigned_len value
size_uleb code value bytes (operand, s, e) =
    let whole : length bytes ≡ length (code ∷ operand) = ap length e in
    let size : length operand ≡ least_unsigned_len value = s.0.1 in
    omega arith

pub size_sleb : (code : ℕ) (value : ℤ) (bytes : List ℕ) → WithShortestSleb code value bytes → length bytes ≡ 1 + least_signed_len value
size_sleb code value bytes (operand, s, e) =
    let whole : length bytes ≡ length (code ∷ operand) = ap length e in
    let size : length operand ≡ least_signed_len value = s.0.1 in
    omega arith

pub size_fixed : (code n value : ℕ) (bytes : List ℕ) → WithFixed code n value bytes → length bytes ≡ 1 + n
size_fixed code n value bytes w =
    let whole : length bytes ≡ length (code ∷ w.operand) = ap length w.whole in
    omega (arith, w.size)

pub len_some : (value : ℕ) → 1 ≤ least_unsigned_len value
len_some value = (unsigned_lens.is_least value).enough.some

pub len_most : (value : ℕ) → value < 2 ^ 64 → least_unsigned_len value ≤ 10
len_most value small = (unsigned_lens.enough value 10).0 (record { some = omega arith; below = omega arith })

len_one : (value : ℕ) → value < 128 → least_unsigned_len value ≡ 1
len_one value small =
    let least : least_unsigned_len value ≤ 1 = (unsigned_lens.enough value 1).0 (record { some = omega arith; below = omega arith }) in
    omega (arith, len_some value)

size_extended : (op : Opcode) (n : ℕ) (bytes : List ℕ) (s : ShortestExtended op bytes) → length s.body ≡ n → n < 128 → length bytes ≡ 2 + n
size_extended op n bytes s e small =
    let whole : length bytes ≡ length (0 ∷ (s.size ++ s.body)) = ap length s.whole in
    let both = length-append s.size s.body in
    let len : length s.size ≡ least_unsigned_len (length s.body) = s.counted.0.1 in
    let one = len_one (length s.body) (omega arith) in
    omega arith

pub size_end : (bytes : List ℕ) → ShortestExtended EndSequence bytes → length bytes ≡ 3
size_end bytes s = size_extended EndSequence 1 bytes s (ap length s.operation) (omega arith)

pub size_address : (address : ℕ) (bytes : List ℕ) → ShortestExtended (SetAddress address) bytes → length bytes ≡ 11
size_address address bytes s = size_extended (SetAddress address) 9 bytes s (size_fixed 2 8 address s.body s.operation) (omega arith)

pub size_discriminator : (value : ℕ) (bytes : List ℕ) → ShortestExtended (SetDiscriminator value) bytes → length bytes ≡ 3 + least_unsigned_len value
size_discriminator value bytes s =
    let most = len_most value s.operation.1.1 in
    let size = size_uleb 4 value s.body s.operation in
    omega (arith, size_extended (SetDiscriminator value) (1 + least_unsigned_len value) bytes s size (omega arith))

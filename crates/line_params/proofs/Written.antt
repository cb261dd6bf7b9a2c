-- Operands and extended opcodes as they are written.
use Rattle.std.proofs.Common.{◌≡◌, ◌<◌, ◌+◌, ◌^◌, ◌++◌, ◌∙◌, ℕ, zero, suc, List, [], ◌∷◌, length, sym, ap, refl, subst, arith}
use Rattle.std.specs.Prelude.{slice_index}
use Rattle.std.specs.Int.{byte_at, bytes_low_first}
use Rattle.std.proofs.lemmas.List.{append_assoc, append-nil}
use Rattle.byteorder.specs.Numbers.{length-bytes_low_first, little_number-reads_back}
use Rattle.byteorder.specs.Endian.{little_bytes, little_from}
use Rattle.spelled.specs.Spelled.{Appends, AreBytes}
use Rattle.fixed_width.specs.Numbers.{number}
use Rattle.line_machine.specs.Opcodes.{WithFixed}
use Rattle.line_machine.specs.declared.opcode.Opcode.{Opcode}
use Rattle.line_machine.specs.declared.opcode.Opcode.TheVariants.{SetAddress, SetDiscriminator}
use Rattle.leb_codec.specs.Leb.{least_unsigned_len}
use Rattle.line_params.specs.Shortest.{ShortestUleb, WithShortestUleb, ShortestOperation, ShortestExtended}

byte_small : (i value : ℕ) → byte_at i value < 256
byte_small zero value = omega arith
byte_small (suc i) value = omega arith

low_bytes : (i n value k : ℕ) → k < length (bytes_low_first i n value) → slice_index (bytes_low_first i n value) k < 256
low_bytes i zero value k lt = absurd (omega arith)
low_bytes i (suc n) value zero lt = byte_small i value
low_bytes i (suc n) value (suc k) lt = low_bytes (suc i) n value k (omega arith)

-- a code and the bytes of a number
pub fixed_written : (code n value : ℕ) (operand bytes : List ℕ) → operand ≡ little_bytes n value → bytes ≡ code ∷ operand → value < 256 ^ n → WithFixed code n value bytes
unfolding number
fixed_written code n value operand bytes e whole small = record {
  operand = operand;
  size = ap length e ∙ length-bytes_low_first 0 n value;
  bounded = subst AreBytes (sym e) (low_bytes 0 n value);
  number = sym (ap (little_from 0 n) (e ∙ sym (append-nil (little_bytes n value))) ∙ little_number-reads_back n value [] small);
  whole = whole;
}

-- two pieces are appended one after the other
pub joined_pieces : (old mid new a b : List ℕ) → mid ≡ old ++ a → new ≡ mid ++ b → new ≡ old ++ (a ++ b)
joined_pieces old mid new a b e f = f ∙ ap (λ z. z ++ b) e ∙ append_assoc old a b

-- an extended opcode is its length and its operation
pub extended_written : (op : Opcode) (count : ℕ) (size body old mid new : List ℕ) → ShortestUleb count size → count ≡ length body → ShortestOperation op body → mid ≡ old ++ 0 ∷ size → new ≡ mid ++ body → Appends ShortestExtended op old new
extended_written op count size body old mid new s e o f g = (
  0 ∷ (size ++ body),
  record {
    size = size;
    body = body;
    counted = subst (λ (z : ℕ). ShortestUleb z size) e s;
    operation = o;
    whole = refl;
  },
  joined_pieces old mid new (0 ∷ size) body f g,
)

-- the length and the operation of a set_discriminator
pub discriminator_written : (value len : ℕ) (old mid new : List ℕ) → len ≡ least_unsigned_len value → ((size : List ℕ) × ShortestUleb (1 + len) size × (mid ≡ old ++ 0 ∷ size)) → Appends (WithShortestUleb 4) value mid new → Appends ShortestExtended (SetDiscriminator value) old new
discriminator_written value len old mid new least (size, s, f) (body, (operand, t, e), g) =
    let one : length body ≡ length (4 ∷ operand) = ap length e in
    let two : length operand ≡ least_unsigned_len value = t.0.1 in
    extended_written (SetDiscriminator value) (1 + len) size body old mid new s (omega arith) (operand, t, e) f g

-- the length and the operation of a set_address
pub address_written : (address : ℕ) (old mid new : List ℕ) → ((size : List ℕ) × ShortestUleb 9 size × (mid ≡ old ++ 0 ∷ size)) → Appends (WithFixed 2 8) address mid new → Appends ShortestExtended (SetAddress address) old new
address_written address old mid new (size, s, f) (body, o, g) =
    let one : length body ≡ length (2 ∷ o.operand) = ap length o.whole in
    let two : length o.operand ≡ 8 = o.size in
    extended_written (SetAddress address) 9 size body old mid new s (omega arith) o f g

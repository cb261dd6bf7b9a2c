-- How many bytes at least spell an opcode under the opcode_base 13.
use Rattle.std.proofs.Common.{◌≡◌, ◌≤◌, ◌<◌, ◌+◌, ℕ, List, [], ◌∷◌, ◌++◌, length, ap, arith}
use Rattle.std.specs.Prelude.{slice_index, ℤ, ⊤}
use Rattle.std.proofs.lemmas.List.{length-append}
use Rattle.leb_codec.specs.Leb.{least_unsigned_len, least_signed_len}
use Rattle.leb_codec.proofs.SpellingLaws.{unsigned_spellings, signed_spellings}
use Rattle.spelled.specs.Spelled.{AreBytes}
use Rattle.fixed_width.specs.Numbers.{number, number_at}
use Rattle.line_machine.specs.Opcodes.{SpellsOpcode, SpellsExtended, WithUleb, WithSleb, WithFixed}
use Rattle.line_machine.specs.declared.opcode.Opcode.{Opcode}
use Rattle.line_machine.specs.declared.opcode.Opcode.TheVariants.{Copy, AdvancePc, AdvanceLine, SetFile, SetColumn, NegateStmt, SetBasicBlock, ConstAddPc, FixedAdvancePc, SetPrologueEnd, SetEpilogueBegin, SetIsa, EndSequence, SetAddress, SetDiscriminator, Special}

-- the bytes of an opcode without padding
abbrev pub least_bytes : Opcode → ℕ
least_bytes Copy = 1
least_bytes (AdvancePc value) = 1 + least_unsigned_len value
least_bytes (AdvanceLine value) = 1 + least_signed_len value
least_bytes (SetFile value) = 1 + least_unsigned_len value
least_bytes (SetColumn value) = 1 + least_unsigned_len value
least_bytes NegateStmt = 1
least_bytes SetBasicBlock = 1
least_bytes ConstAddPc = 1
least_bytes (FixedAdvancePc value) = 3
least_bytes SetPrologueEnd = 1
least_bytes SetEpilogueBegin = 1
least_bytes (SetIsa value) = 1 + least_unsigned_len value
least_bytes EndSequence = 3
least_bytes (SetAddress address) = 11
least_bytes (SetDiscriminator value) = 3 + least_unsigned_len value
least_bytes (Special s) = 1

-- the numbers that the bytes of an opcode can say
abbrev pub IsSpellable : Opcode → Type 0
IsSpellable (FixedAdvancePc value) = value ≤ 65535
IsSpellable (Special s) = s ≤ 242
IsSpellable _ = ⊤

cons_bytes : (code n : ℕ) (bytes operand : List ℕ) → bytes ≡ code ∷ operand → n ≤ length operand → 1 + n ≤ length bytes
cons_bytes code n bytes operand e h = let g : length bytes ≡ length (code ∷ operand) = ap length e in omega arith

uleb_bytes : (code value : ℕ) (bytes : List ℕ) → WithUleb code value bytes → 1 + least_unsigned_len value ≤ length bytes
uleb_bytes code value bytes (operand, number, e) = cons_bytes code (least_unsigned_len value) bytes operand e (unsigned_spellings.no_shorter operand value number.0)

sleb_bytes : (code : ℕ) (value : ℤ) (bytes : List ℕ) → WithSleb code value bytes → 1 + least_signed_len value ≤ length bytes
sleb_bytes code value bytes (operand, number, e) = cons_bytes code (least_signed_len value) bytes operand e (signed_spellings.no_shorter operand value number.0)

with_fixed_bytes : (code n value : ℕ) (bytes : List ℕ) → WithFixed code n value bytes → 1 + n ≤ length bytes
with_fixed_bytes code n value bytes w = let size : length w.operand ≡ n = w.size in cons_bytes code n bytes w.operand w.whole (omega arith)

-- an extended opcode has a byte 0 and a length beside what the length counts
extended_bytes : (op : Opcode) (n : ℕ) (bytes : List ℕ) → (s : SpellsExtended op bytes) → n ≤ length s.body → 2 + n ≤ length bytes
extended_bytes op n bytes s h =
    let some : 0 < length s.size = s.counted.0.0.filled in
    let both : length (s.size ++ s.body) ≡ length s.size + length s.body = length-append s.size s.body in
    let most : 1 + (1 + n) ≤ length bytes = cons_bytes 0 (1 + n) bytes (s.size ++ s.body) s.whole (omega arith) in
    omega arith

one_bytes : (code : ℕ) (bytes : List ℕ) → bytes ≡ code ∷ [] → 1 ≤ length bytes
one_bytes code bytes e = let g : length bytes ≡ length (code ∷ []) = ap length e in omega arith

pub spelled_bytes : (op : Opcode) (bytes : List ℕ) → SpellsOpcode 13 op bytes → least_bytes op ≤ length bytes
spelled_bytes Copy bytes s = one_bytes 1 bytes s
spelled_bytes (AdvancePc value) bytes s = uleb_bytes 2 value bytes s
spelled_bytes (AdvanceLine value) bytes s = sleb_bytes 3 value bytes s
spelled_bytes (SetFile value) bytes s = uleb_bytes 4 value bytes s
spelled_bytes (SetColumn value) bytes s = uleb_bytes 5 value bytes s
spelled_bytes NegateStmt bytes s = one_bytes 6 bytes s
spelled_bytes SetBasicBlock bytes s = one_bytes 7 bytes s
spelled_bytes ConstAddPc bytes s = one_bytes 8 bytes s
spelled_bytes (FixedAdvancePc value) bytes s = with_fixed_bytes 9 2 value bytes s
spelled_bytes SetPrologueEnd bytes s = one_bytes 10 bytes s.1
spelled_bytes SetEpilogueBegin bytes s = one_bytes 11 bytes s.1
spelled_bytes (SetIsa value) bytes s = uleb_bytes 12 value bytes s.1
spelled_bytes EndSequence bytes s = extended_bytes EndSequence 1 bytes s (one_bytes 1 s.body s.operation)
spelled_bytes (SetAddress address) bytes s = extended_bytes (SetAddress address) 9 bytes s (with_fixed_bytes 2 8 address s.body s.operation)
spelled_bytes (SetDiscriminator value) bytes s =
    let most : 2 + (1 + least_unsigned_len value) ≤ length bytes = extended_bytes (SetDiscriminator value) (1 + least_unsigned_len value) bytes s (uleb_bytes 4 value s.body s.operation) in
    omega arith
spelled_bytes (Special v) bytes s = one_bytes (13 + v) bytes s.1

two_bytes : (value : ℕ) (operand : List ℕ) → length operand ≡ 2 → AreBytes operand → value ≡ number_at 2 0 operand → value ≤ 65535
unfolding number
two_bytes value operand size bounded number =
    let low : slice_index operand 0 < 256 = bounded 0 (omega arith) in
    let high : slice_index operand 1 < 256 = bounded 1 (omega arith) in
    omega (arith, number)

pub is_spellable : (op : Opcode) (bytes : List ℕ) → SpellsOpcode 13 op bytes → IsSpellable op
is_spellable (FixedAdvancePc value) bytes s = two_bytes value s.operand s.size s.bounded s.number
is_spellable (Special v) bytes s = omega (arith, s.0)
is_spellable _ bytes s = tt

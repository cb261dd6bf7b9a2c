-- Laws of the shortest bytes of opcodes.
use Rattle.std.proofs.Common.{◌≡◌, ◌≤◌, ◌+◌, ◌∙◌, ℕ, List, [], ◌∷◌, ◌++◌, length, sym, ap, arith}
use Rattle.std.specs.Prelude.{ℤ}
use Rattle.std.proofs.lemmas.List.{length-append}
use Rattle.leb_codec.specs.Leb.{Uleb, least_unsigned_len, least_signed_len}
use Rattle.leb_codec.proofs.SpellingLaws.{unsigned_spellings, signed_spellings}
use Rattle.leb_codec.proofs.Lens.{unsigned_lens}
use Rattle.line_machine.specs.Opcodes.{SpellsOpcode, SpellsOperation, SpellsExtended, WithUleb, WithSleb, WithFixed}
use Rattle.line_machine.specs.declared.opcode.Opcode.{Opcode}
use Rattle.line_machine.specs.declared.opcode.Opcode.TheVariants.{Copy, AdvancePc, AdvanceLine, SetFile, SetColumn, NegateStmt, SetBasicBlock, ConstAddPc, FixedAdvancePc, SetPrologueEnd, SetEpilogueBegin, SetIsa, EndSequence, SetAddress, SetDiscriminator, Special}
use Rattle.line_params.specs.Shortest.{ShortestUleb, WithShortestUleb, WithShortestSleb, ShortestOperation, ShortestExtended, ShortestOpcode, HasCode}

uleb_of : (value : ℕ) (bytes : List ℕ) → ShortestUleb value bytes → Uleb value bytes
uleb_of value bytes s = (s.0.0, s.1)

with_uleb : (code value : ℕ) (bytes : List ℕ) → WithShortestUleb code value bytes → WithUleb code value bytes
with_uleb code value bytes (operand, s, e) = (operand, uleb_of value operand s, e)

with_sleb : (code : ℕ) (value : ℤ) (bytes : List ℕ) → WithShortestSleb code value bytes → WithSleb code value bytes
with_sleb code value bytes (operand, s, e) = (operand, (s.0.0, s.1), e)

operation : (op : Opcode) (body : List ℕ) → ShortestOperation op body → SpellsOperation op body
operation EndSequence body h = h
operation (SetAddress address) body h = h
operation (SetDiscriminator value) body h = with_uleb 4 value body h
operation _ body h = absurd h

extended : (op : Opcode) (bytes : List ℕ) → ShortestExtended op bytes → SpellsExtended op bytes
extended op bytes s = record {
  size = s.size;
  body = s.body;
  counted = uleb_of (length s.body) s.size s.counted;
  operation = operation op s.body s.operation;
  whole = s.whole;
}

pub shortest_spell : (base : ℕ) (op : Opcode) (bytes : List ℕ) → ShortestOpcode base op bytes → SpellsOpcode base op bytes
shortest_spell base Copy bytes h = h
shortest_spell base (AdvancePc value) bytes h = with_uleb 2 value bytes h
shortest_spell base (AdvanceLine value) bytes h = with_sleb 3 value bytes h
shortest_spell base (SetFile value) bytes h = with_uleb 4 value bytes h
shortest_spell base (SetColumn value) bytes h = with_uleb 5 value bytes h
shortest_spell base NegateStmt bytes h = h
shortest_spell base SetBasicBlock bytes h = h
shortest_spell base ConstAddPc bytes h = h
shortest_spell base (FixedAdvancePc value) bytes h = h
shortest_spell base SetPrologueEnd bytes h = h
shortest_spell base SetEpilogueBegin bytes h = h
shortest_spell base (SetIsa value) bytes h = (h.0, with_uleb 12 value bytes h.1)
shortest_spell base EndSequence bytes h = extended EndSequence bytes h
shortest_spell base (SetAddress address) bytes h = extended (SetAddress address) bytes h
shortest_spell base (SetDiscriminator value) bytes h = extended (SetDiscriminator value) bytes h
shortest_spell base (Special s) bytes h = h

same_len : (a b c : List ℕ) → a ≡ c → b ≡ c → length a ≤ length b
same_len a b c e f = let g : length a ≡ length b = ap length (e ∙ sym f) in omega arith

cons_len : (code : ℕ) (x y a b : List ℕ) → x ≡ code ∷ a → y ≡ code ∷ b → length a ≤ length b → length x ≤ length y
cons_len code x y a b e f h =
    let g : length x ≡ length (code ∷ a) = ap length e in
    let k : length y ≡ length (code ∷ b) = ap length f in
    omega arith

short_uleb : (value : ℕ) (a b : List ℕ) → ShortestUleb value a → Uleb value b → length a ≤ length b
short_uleb value a b s t =
    let least : least_unsigned_len value ≤ length b = unsigned_spellings.no_shorter b value t.0 in
    let size : length a ≡ least_unsigned_len value = s.0.1 in
    omega arith

with_uleb_len : (code value : ℕ) (x y : List ℕ) → WithShortestUleb code value x → WithUleb code value y → length x ≤ length y
with_uleb_len code value x y (a, s, e) (b, t, f) = cons_len code x y a b e f (short_uleb value a b s t)

with_sleb_len : (code : ℕ) (value : ℤ) (x y : List ℕ) → WithShortestSleb code value x → WithSleb code value y → length x ≤ length y
with_sleb_len code value x y (a, s, e) (b, t, f) =
    let least : least_signed_len value ≤ length b = signed_spellings.no_shorter b value t.0 in
    let size : length a ≡ least_signed_len value = s.0.1 in
    cons_len code x y a b e f (omega arith)

with_fixed_len : (code n value : ℕ) (x y : List ℕ) → WithFixed code n value x → WithFixed code n value y → length x ≤ length y
with_fixed_len code n value x y s t =
    let one : length s.operand ≡ n = s.size in
    let two : length t.operand ≡ n = t.size in
    cons_len code x y s.operand t.operand s.whole t.whole (omega arith)

operation_len : (op : Opcode) (x y : List ℕ) → ShortestOperation op x → SpellsOperation op y → length x ≤ length y
operation_len EndSequence x y s t = same_len x y (1 ∷ []) s t
operation_len (SetAddress address) x y s t = with_fixed_len 2 8 address x y s t
operation_len (SetDiscriminator value) x y s t = with_uleb_len 4 value x y s t
operation_len _ x y s t = absurd s

extended_len : (op : Opcode) (x y : List ℕ) → ShortestExtended op x → SpellsExtended op y → length x ≤ length y
extended_len op x y s t =
    let body : length s.body ≤ length t.body = operation_len op s.body t.body s.operation t.operation in
    let rises : least_unsigned_len (length s.body) ≤ least_unsigned_len (length t.body) = unsigned_lens.rises (length s.body) (length t.body) body in
    let size : length s.size ≡ least_unsigned_len (length s.body) = s.counted.0.1 in
    let least : least_unsigned_len (length t.body) ≤ length t.size = unsigned_spellings.no_shorter t.size (length t.body) t.counted.0 in
    let one : length (s.size ++ s.body) ≡ length s.size + length s.body = length-append s.size s.body in
    let two : length (t.size ++ t.body) ≡ length t.size + length t.body = length-append t.size t.body in
    cons_len 0 x y (s.size ++ s.body) (t.size ++ t.body) s.whole t.whole (omega arith)

pub none_shorter : (base : ℕ) (op : Opcode) (bytes other : List ℕ) → ShortestOpcode base op bytes → SpellsOpcode base op other → length bytes ≤ length other
none_shorter base Copy x y s t = same_len x y (1 ∷ []) s t
none_shorter base (AdvancePc value) x y s t = with_uleb_len 2 value x y s t
none_shorter base (AdvanceLine value) x y s t = with_sleb_len 3 value x y s t
none_shorter base (SetFile value) x y s t = with_uleb_len 4 value x y s t
none_shorter base (SetColumn value) x y s t = with_uleb_len 5 value x y s t
none_shorter base NegateStmt x y s t = same_len x y (6 ∷ []) s t
none_shorter base SetBasicBlock x y s t = same_len x y (7 ∷ []) s t
none_shorter base ConstAddPc x y s t = same_len x y (8 ∷ []) s t
none_shorter base (FixedAdvancePc value) x y s t = with_fixed_len 9 2 value x y s t
none_shorter base SetPrologueEnd x y s t = same_len x y (10 ∷ []) s.1 t.1
none_shorter base SetEpilogueBegin x y s t = same_len x y (11 ∷ []) s.1 t.1
none_shorter base (SetIsa value) x y s t = with_uleb_len 12 value x y s.1 t.1
none_shorter base EndSequence x y s t = extended_len EndSequence x y s t
none_shorter base (SetAddress address) x y s t = extended_len (SetAddress address) x y s t
none_shorter base (SetDiscriminator value) x y s t = extended_len (SetDiscriminator value) x y s t
none_shorter base (Special v) x y s t = same_len x y ((base + v) ∷ []) s.1 t.1

pub spelled_have_codes : (base : ℕ) (op : Opcode) (bytes : List ℕ) → SpellsOpcode base op bytes → HasCode base op
spelled_have_codes base SetPrologueEnd bytes h = h.0
spelled_have_codes base SetEpilogueBegin bytes h = h.0
spelled_have_codes base (SetIsa value) bytes h = h.0
spelled_have_codes base (Special s) bytes h = h.0
spelled_have_codes base _ bytes h = tt

-- The bytes of the opcodes that are written.
use Rattle.std.proofs.Common.{◌≡◌, ◌<◌, ◌+◌, ◌*◌, ◌^◌, ℕ, zero, suc, List, [], ◌∷◌, ◌++◌, length, ◌∙◌, sym, ap, refl, arith}
use Rattle.std.specs.Prelude.{ℤ}
use Rattle.byteorder.specs.Endian.{little_from, little_number}
use Rattle.byteorder.specs.Numbers.{little_from-cons}
use Rattle.spelled.specs.Spelled.{AreBytes}
use Rattle.fixed_width.specs.Numbers.{number}
use Rattle.form_codec.specs.declared.form.Width.TheVariants.{Eight}
use Rattle.form_codec.specs.Written.{low_bytes}
use Rattle.form_codec.proofs.WriteLaws.{low_small, number_low}
use Rattle.line_machine.specs.declared.opcode.Opcode.TheVariants.{AdvancePc, AdvanceLine, SetColumn, EndSequence, SetAddress}
use Rattle.line_params.specs.Shortest.{ShortestOpcode}
use Rattle.sample_maker.specs.inside.Bytes.{uleb, sleb, long}
use Rattle.sample_maker.proofs.SmallLebs.{shortest_uleb, shortest_sleb, IsSmall}

-- bytes of one length that spell one number are the same
one_spelling : (n : ℕ) (a b : List ℕ) → length a ≡ n → length b ≡ n → AreBytes a → AreBytes b → little_number n a ≡ little_number n b → a ≡ b
one_spelling zero [] [] p q f g same = refl
one_spelling zero [] (y ∷ b) p q f g same = absurd (omega (arith, q))
one_spelling zero (x ∷ a) b p q f g same = absurd (omega (arith, p))
one_spelling (suc n) [] b p q f g same = absurd (omega (arith, p))
one_spelling (suc n) (x ∷ a) [] p q f g same = absurd (omega (arith, q))
one_spelling (suc n) (x ∷ a) (y ∷ b) p q f g same =
    let e : little_from 1 n (x ∷ a) ≡ little_from 0 n a = little_from-cons 0 n x a in
    let d : little_from 1 n (y ∷ b) ≡ little_from 0 n b = little_from-cons 0 n y b in
    let small_x : x < 256 = f 0 (omega arith) in
    let small_y : y < 256 = g 0 (omega arith) in
    let whole : x + 256 * little_from 1 n (x ∷ a) ≡ y + 256 * little_from 1 n (y ∷ b) = same in
    let first : x ≡ y = omega (arith, e, d, small_x, small_y, whole) in
    let rest : little_number n a ≡ little_number n b = omega (arith, e, d, small_x, small_y, whole) in
    let later : a ≡ b = one_spelling n a b (omega (arith, p)) (omega (arith, q)) (λ k lt. f (suc k) (omega arith)) (λ k lt. g (suc k) (omega arith)) rest in
    ap (λ (z : ℕ). z ∷ a) first ∙ ap (λ (z : List ℕ). y ∷ z) later

long_len : (value : ℕ) → length (long value) ≡ 8
unfolding long
long_len value = refl

-- eight bytes that spell a number are those that are written of it
eight_bytes : (value : ℕ) (bytes : List ℕ) → value < 256 ^ 8 → length bytes ≡ 8 → AreBytes bytes → value ≡ number 8 bytes → bytes ≡ long value
unfolding long number
eight_bytes value bytes fits size small is =
    one_spelling 8 bytes (low_bytes Eight value) size refl small (low_small 0 8 value) (sym is ∙ sym (number_low Eight value fits))

pub advance_pc_bytes : (value : ℕ) (bytes : List ℕ) → value < 2097152 → ShortestOpcode 13 (AdvancePc value) bytes → bytes ≡ 2 ∷ uleb value
advance_pc_bytes value bytes small (operand, s, e) = e ∙ ap (λ (z : List ℕ). 2 ∷ z) (shortest_uleb value operand small s.0)

pub advance_line_bytes : (value : ℤ) (bytes : List ℕ) → IsSmall value → ShortestOpcode 13 (AdvanceLine value) bytes → bytes ≡ 3 ∷ sleb value
advance_line_bytes value bytes small (operand, s, e) = e ∙ ap (λ (z : List ℕ). 3 ∷ z) (shortest_sleb value operand small s.0)

pub set_column_bytes : (value : ℕ) (bytes : List ℕ) → value < 2097152 → ShortestOpcode 13 (SetColumn value) bytes → bytes ≡ 5 ∷ uleb value
set_column_bytes value bytes small (operand, s, e) = e ∙ ap (λ (z : List ℕ). 5 ∷ z) (shortest_uleb value operand small s.0)

one_byte_long : uleb 1 ≡ 1 ∷ []
unfolding uleb
one_byte_long = refl

nine_bytes_long : uleb 9 ≡ 9 ∷ []
unfolding uleb
nine_bytes_long = refl

pub end_sequence_bytes : (bytes : List ℕ) → ShortestOpcode 13 EndSequence bytes → bytes ≡ 0 ∷ 1 ∷ 1 ∷ []
end_sequence_bytes bytes s =
    let one : length s.body ≡ 1 = ap (λ (z : List ℕ). length z) s.operation in
    let size : s.size ≡ 1 ∷ [] = shortest_uleb (length s.body) s.size (omega (arith, one)) s.counted.0 ∙ ap uleb one ∙ one_byte_long in
    s.whole ∙ ap (λ (z : List ℕ). 0 ∷ (z ++ s.body)) size ∙ ap (λ (z : List ℕ). 0 ∷ 1 ∷ z) s.operation

pub set_address_bytes : (address : ℕ) (bytes : List ℕ) → address < 256 ^ 8 → ShortestOpcode 13 (SetAddress address) bytes → bytes ≡ 0 ∷ 9 ∷ 2 ∷ long address
set_address_bytes address bytes fits s =
    let operation = s.operation in
    let body : s.body ≡ 2 ∷ long address = operation.whole ∙ ap (λ (z : List ℕ). 2 ∷ z) (eight_bytes address operation.operand fits operation.size operation.bounded operation.number) in
    let nine : length s.body ≡ 9 = ap (λ (z : List ℕ). length z) body ∙ ap suc (long_len address) in
    let size : s.size ≡ 9 ∷ [] = shortest_uleb (length s.body) s.size (omega (arith, nine)) s.counted.0 ∙ ap uleb nine ∙ nine_bytes_long in
    s.whole ∙ ap (λ (z : List ℕ). 0 ∷ (z ++ s.body)) size ∙ ap (λ (z : List ℕ). 0 ∷ 9 ∷ z) body

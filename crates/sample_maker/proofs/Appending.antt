-- Bytes appended one after the other.
use Rattle.std.proofs.Common.{◌≡◌, ◌<◌, ◌+◌, ◌*◌, ◌^◌, ℕ, List, [], ◌∷◌, ◌++◌, ◌∙◌, sym, ap, subst, arith}
use Rattle.std.specs.Prelude.{ℤ, pos, negsuc, map, FitsSigned}
use Rattle.std.specs.Int.{w8, w64}
use Rattle.std.proofs.lemmas.Int.{ints}
use Rattle.std.specs.List.{concat}
use Rattle.std.proofs.lemmas.List.{append_assoc}
use Rattle.spelled.specs.Spelled.{Appends}
use Rattle.line_machine.specs.declared.opcode.Opcode.TheVariants.{Copy, AdvancePc, AdvanceLine, SetColumn, EndSequence, SetAddress}
use Rattle.line_params.specs.Shortest.{ShortestOpcode}
use Rattle.sample_maker.specs.declared.drawn.Step.{Step}
use Rattle.sample_maker.specs.declared.elf.Row.{Row}
use Rattle.sample_maker.specs.Drawn.{FunctionDrawn}
use Rattle.sample_maker.specs.Places.{function_address}
use Rattle.sample_maker.specs.inside.Bytes.{uleb, sleb, word, long, step_bytes, first_row_bytes, sequence_bytes}
use Rattle.sample_maker.specs.inside.Images.{section_header_bytes}
use Rattle.sample_maker.specs.inside.Small.{IsStepSmall, IsShortLine, IsFunctionSmall}
use Rattle.sample_maker.proofs.SmallLebs.{IsSmall}
use Rattle.sample_maker.proofs.OpcodeBytes.{advance_pc_bytes, advance_line_bytes, set_column_bytes, set_address_bytes, end_sequence_bytes}

pub two_joined : (old mid new a b : List ℕ) → mid ≡ old ++ a → new ≡ mid ++ b → new ≡ old ++ (a ++ b)
two_joined old mid new a b p q = q ∙ ap (λ (z : List ℕ). z ++ b) p ∙ append_assoc old a b

pub three_joined : (old one two new a b c : List ℕ) → one ≡ old ++ a → two ≡ one ++ b → new ≡ two ++ c → new ≡ old ++ (a ++ (b ++ c))
three_joined old one two new a b c p q r = two_joined old one new a (b ++ c) p (two_joined one two new b c q r)

pub four_joined : (old one two three new a b c d : List ℕ) → one ≡ old ++ a → two ≡ one ++ b → three ≡ two ++ c → new ≡ three ++ d → new ≡ old ++ (a ++ (b ++ (c ++ d)))
four_joined old one two three new a b c d p q r s = two_joined old one new a (b ++ (c ++ d)) p (three_joined one two three new b c d q r s)

-- what is appended of an opcode, by what its bytes are
opcode_added : {T : Type 0} (Spells : T → List ℕ → Type 0) (v : T) (old new bytes : List ℕ) → ((z : List ℕ) → Spells v z → z ≡ bytes) → Appends Spells v old new → new ≡ old ++ bytes
opcode_added Spells v old new bytes only (z, s, e) = e ∙ ap (λ (y : List ℕ). old ++ y) (only z s)

pub short_is_small : (v : ℤ) → IsShortLine v → IsSmall v
short_is_small (pos n) small = omega (arith, small)
short_is_small (negsuc n) small = omega (arith, small)

pub short_fits : (v : ℤ) → IsShortLine v → FitsSigned w8 v
short_fits (pos n) small = omega (arith, ints, small)
short_fits (negsuc n) small = omega (arith, ints, small)

pub short_fits_wide : (v : ℤ) → IsShortLine v → FitsSigned w64 v
short_fits_wide (pos n) small = omega (arith, ints, small)
short_fits_wide (negsuc n) small = omega (arith, ints, small)

pub step_written : (step : Step) (advance : ℕ) (line : ℤ) (old one two new : List ℕ) → IsStepSmall step → advance ≡ step.advance → line ≡ step.line → Appends (ShortestOpcode 13) (AdvancePc advance) old one → Appends (ShortestOpcode 13) (AdvanceLine line) one two → Appends (ShortestOpcode 13) Copy two new → new ≡ old ++ step_bytes step
unfolding step_bytes
step_written step advance line old one two new small is_advance is_line p q r =
    let few : step.advance < 128 = small.advance in
    let a : one ≡ old ++ (2 ∷ uleb step.advance) = opcode_added (ShortestOpcode 13) (AdvancePc advance) old one (2 ∷ uleb step.advance) (λ z s. advance_pc_bytes advance z (omega (arith, is_advance, few)) s ∙ ap (λ (n : ℕ). 2 ∷ uleb n) is_advance) p in
    let b : two ≡ one ++ (3 ∷ sleb step.line) = opcode_added (ShortestOpcode 13) (AdvanceLine line) one two (3 ∷ sleb step.line) (λ z s. advance_line_bytes line z (subst (λ (v : ℤ). IsSmall v) (sym is_line) (short_is_small step.line small.line)) s ∙ ap (λ (v : ℤ). 3 ∷ sleb v) is_line) q in
    let c : new ≡ two ++ (1 ∷ []) = opcode_added (ShortestOpcode 13) Copy two new (1 ∷ []) (λ z s. s) r in
    three_joined old one two new (2 ∷ uleb step.advance) (3 ∷ sleb step.line) (1 ∷ []) a b c

pub first_row_written : (u i : ℕ) (f : FunctionDrawn) (column address : ℕ) (line : ℤ) (old one two three new : List ℕ) → u < 4096 → i < 8 → IsFunctionSmall f → column ≡ f.column → address ≡ function_address u i → line ≡ pos (100 * i + 99) → Appends (ShortestOpcode 13) (SetColumn column) old one → Appends (ShortestOpcode 13) (SetAddress address) one two → Appends (ShortestOpcode 13) (AdvanceLine line) two three → Appends (ShortestOpcode 13) Copy three new → new ≡ old ++ first_row_bytes u i f
unfolding first_row_bytes
first_row_written u i f column address line old one two three new few_u few_i small is_column is_address is_line p q r t =
    let few : f.column < 128 = small.column in
    let fits : address < 256 ^ 8 = omega (arith, is_address, few_u, few_i) in
    let a : one ≡ old ++ (5 ∷ uleb f.column) = opcode_added (ShortestOpcode 13) (SetColumn column) old one (5 ∷ uleb f.column) (λ z s. set_column_bytes column z (omega (arith, is_column, few)) s ∙ ap (λ (n : ℕ). 5 ∷ uleb n) is_column) p in
    let b : two ≡ one ++ (0 ∷ 9 ∷ 2 ∷ long (function_address u i)) = opcode_added (ShortestOpcode 13) (SetAddress address) one two (0 ∷ 9 ∷ 2 ∷ long (function_address u i)) (λ z s. set_address_bytes address z fits s ∙ ap (λ (n : ℕ). 0 ∷ 9 ∷ 2 ∷ long n) is_address) q in
    let low : 100 * i + 99 < 8192 = omega (arith, few_i) in
    let c : three ≡ two ++ (3 ∷ sleb (pos (100 * i + 99))) = opcode_added (ShortestOpcode 13) (AdvanceLine line) two three (3 ∷ sleb (pos (100 * i + 99))) (λ z s. advance_line_bytes line z (subst (λ (v : ℤ). IsSmall v) (sym is_line) low) s ∙ ap (λ (v : ℤ). 3 ∷ sleb v) is_line) r in
    let d : new ≡ three ++ (1 ∷ []) = opcode_added (ShortestOpcode 13) Copy three new (1 ∷ []) (λ z s. s) t in
    four_joined old one two three new (5 ∷ uleb f.column) (0 ∷ 9 ∷ 2 ∷ long (function_address u i)) (3 ∷ sleb (pos (100 * i + 99))) (1 ∷ []) a b c d

pub sequence_written : (u i : ℕ) (f : FunctionDrawn) (advance : ℕ) (old one two three new : List ℕ) → advance ≡ 4 → one ≡ old ++ first_row_bytes u i f → two ≡ one ++ concat (map step_bytes f.steps) → Appends (ShortestOpcode 13) (AdvancePc advance) two three → Appends (ShortestOpcode 13) EndSequence three new → new ≡ old ++ sequence_bytes u i f
unfolding sequence_bytes
sequence_written u i f advance old one two three new is_advance p q r t =
    let a : three ≡ two ++ (2 ∷ uleb 4) = opcode_added (ShortestOpcode 13) (AdvancePc advance) two three (2 ∷ uleb 4) (λ z s. advance_pc_bytes advance z (omega (arith, is_advance)) s ∙ ap (λ (n : ℕ). 2 ∷ uleb n) is_advance) r in
    let b : new ≡ three ++ (0 ∷ 1 ∷ 1 ∷ []) = opcode_added (ShortestOpcode 13) EndSequence three new (0 ∷ 1 ∷ 1 ∷ []) (λ z s. end_sequence_bytes z s) t in
    four_joined old one two three new (first_row_bytes u i f) (concat (map step_bytes f.steps)) (2 ∷ uleb 4) (0 ∷ 1 ∷ 1 ∷ []) p q a b

pub section_header_written : (row : Row) (at : ℕ) (old one two three four five six seven eight nine new : List ℕ) → one ≡ old ++ word row.name → two ≡ one ++ word row.kind → three ≡ two ++ long 0 → four ≡ three ++ long 0 → five ≡ four ++ long at → six ≡ five ++ long row.size → seven ≡ six ++ word 0 → eight ≡ seven ++ word 0 → nine ≡ eight ++ long 1 → new ≡ nine ++ long 0 → new ≡ old ++ section_header_bytes row at
unfolding section_header_bytes
section_header_written row at old one two three four five six seven eight nine new a b c d e f g h i j =
    four_joined old one two three new (word row.name) (word row.kind) (long 0) (long 0 ++ (long at ++ (long row.size ++ (word 0 ++ (word 0 ++ (long 1 ++ long 0)))))) a b c
    (four_joined three four five six new (long 0) (long at) (long row.size) (word 0 ++ (word 0 ++ (long 1 ++ long 0))) d e f
    (four_joined six seven eight nine new (word 0) (word 0) (long 1) (long 0) g h i j))

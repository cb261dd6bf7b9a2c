-- The bytes of sequences spell their opcodes.
use Rattle.std.proofs.Common.{◌≡◌, ◌≤◌, ◌<◌, ◌+◌, ◌*◌, ◌^◌, ℕ, suc, List, [], ◌∷◌, ◌++◌, length, map, sym, refl, subst, arith}
use Rattle.std.specs.Prelude.{ℤ, pos, FitsSigned}
use Rattle.std.specs.Int.{w64}
use Rattle.std.specs.List.{All, concat}
use Rattle.std.proofs.lemmas.Int.{ints}
use Rattle.spelled.specs.Spelled.{AreBytes, Joined}
use Rattle.spelled.proofs.Joins.{joined_one, joined_append}
use Rattle.leb_codec.specs.Leb.{Uleb}
use Rattle.leb_codec.proofs.SpellingLaws.{leb_one}
use Rattle.fixed_width.specs.Numbers.{number_at}
use Rattle.form_codec.specs.declared.form.Width.TheVariants.{Eight}
use Rattle.form_codec.proofs.WriteLaws.{low_small, number_low}
use Rattle.line_machine.specs.Opcodes.{SpellsOpcode}
use Rattle.line_machine.specs.declared.opcode.Opcode.{Opcode}
use Rattle.line_machine.specs.declared.opcode.Opcode.TheVariants.{Copy, AdvancePc, AdvanceLine, SetColumn, EndSequence, SetAddress}
use Rattle.sample_maker.specs.declared.drawn.Step.{Step}
use Rattle.sample_maker.specs.Numbered.{join_from}
use Rattle.sample_maker.specs.Drawn.{FunctionDrawn}
use Rattle.sample_maker.specs.Places.{function_address}
use Rattle.sample_maker.specs.inside.Bytes.{uleb, sleb, long, step_bytes, first_row_bytes, end_bytes, sequence_bytes}
use Rattle.sample_maker.specs.inside.Small.{IsStepSmall, IsFunctionSmall}
use Rattle.sample_maker.specs.inside.ReadLines.{steps_opcodes, first_opcodes, end_opcodes, sequence_opcodes, opcodes_of}
use Rattle.sample_maker.proofs.SmallLebs.{IsSmall, uleb_shortest, sleb_shortest}
use Rattle.sample_maker.proofs.Appending.{short_is_small, short_fits_wide}
use Rattle.sample_maker.proofs.Lengths.{long_length}

-- OPCODES

abbrev Spells : Opcode → List ℕ → Type 0
Spells = SpellsOpcode 13

short_uleb : (value : ℕ) → value < 128 → Uleb value (uleb value)
short_uleb value small = ((uleb_shortest value (omega (arith, small))).0, omega (arith, small))

one_byte : (value : ℕ) → value < 128 → Uleb value (value ∷ [])
one_byte value small = ((leb_one value small, omega (arith, small)), omega (arith, small))

advance_pc : (value : ℕ) → value < 128 → Spells (AdvancePc value) (2 ∷ uleb value)
advance_pc value small = (uleb value, short_uleb value small, refl)

set_column : (value : ℕ) → value < 128 → Spells (SetColumn value) (5 ∷ uleb value)
set_column value small = (uleb value, short_uleb value small, refl)

advance_line : (value : ℤ) → IsSmall value → FitsSigned w64 value → Spells (AdvanceLine value) (3 ∷ sleb value)
advance_line value small fits = (sleb value, ((sleb_shortest value small).0, fits), refl)

end_sequence : Spells EndSequence (0 ∷ 1 ∷ 1 ∷ [])
end_sequence = record { size = 1 ∷ []; body = 1 ∷ []; counted = one_byte 1 (omega arith); operation = refl; whole = refl }

long_bytes : (value : ℕ) → AreBytes (long value)
unfolding long
long_bytes value = low_small 0 8 value

long_number : (value : ℕ) → value < 256 ^ 8 → value ≡ number_at 8 0 (long value)
unfolding long
long_number value fits = sym (number_low Eight value fits)

set_address : (address : ℕ) → address < 256 ^ 8 → Spells (SetAddress address) (0 ∷ 9 ∷ 2 ∷ long address)
set_address address fits =
    let nine : 9 ≡ length (2 ∷ long address) = omega (arith, long_length address) in
    record {
      size = 9 ∷ [];
      body = 2 ∷ long address;
      counted = subst (λ (n : ℕ). Uleb n (9 ∷ [])) nine (one_byte 9 (omega arith));
      operation = record { operand = long address; size = long_length address; bounded = long_bytes address; number = long_number address fits; whole = refl };
      whole = refl;
    }

-- OPCODES ONE AFTER THE OTHER

two_joined : (v w : Opcode) (a b : List ℕ) → Spells v a → Spells w b → Joined Spells (v ∷ w ∷ []) (a ++ b)
two_joined v w a b s t = (a, b, s, joined_one Spells w b t, refl)

three_joined : (u v w : Opcode) (a b c : List ℕ) → Spells u a → Spells v b → Spells w c → Joined Spells (u ∷ v ∷ w ∷ []) (a ++ (b ++ c))
three_joined u v w a b c r s t = (a, b ++ c, r, two_joined v w b c s t, refl)

step_spelled : (step : Step) → IsStepSmall step → Joined Spells (AdvancePc step.advance ∷ AdvanceLine step.line ∷ Copy ∷ []) (step_bytes step)
unfolding step_bytes
step_spelled step small =
    three_joined (AdvancePc step.advance) (AdvanceLine step.line) Copy (2 ∷ uleb step.advance) (3 ∷ sleb step.line) (1 ∷ []) (advance_pc step.advance small.advance) (advance_line step.line (short_is_small step.line small.line) (short_fits_wide step.line small.line)) refl

-- what holds of all things holds of the first and of the others
pub first_of : {X : Type 0} (P : X → Type 0) (x : X) (xs : List X) → All P (x ∷ xs) → P x
first_of P x xs all = all 0 x (omega arith)

pub others_of : {X : Type 0} (P : X → Type 0) (x : X) (xs : List X) → All P (x ∷ xs) → All P xs
others_of P x xs all = λ k d lt. all (suc k) d (omega (arith, lt))

steps_spelled : (steps : List Step) → All IsStepSmall steps → Joined Spells (steps_opcodes steps) (concat (map step_bytes steps))
steps_spelled [] small = refl
steps_spelled (step ∷ steps) small =
    joined_append Spells (AdvancePc step.advance ∷ AdvanceLine step.line ∷ Copy ∷ []) (steps_opcodes steps) (step_bytes step) (concat (map step_bytes steps)) (step_spelled step (first_of IsStepSmall step steps small)) (steps_spelled steps (others_of IsStepSmall step steps small))

first_spelled : (u i : ℕ) (f : FunctionDrawn) → u < 4096 → i < 8 → IsFunctionSmall f → Joined Spells (first_opcodes u i f) (first_row_bytes u i f)
unfolding first_row_bytes
first_spelled u i f few_u few_i small =
    let fits : function_address u i < 256 ^ 8 = omega (arith, few_u, few_i) in
    let low : IsSmall (pos (100 * i + 99)) = omega (arith, few_i) in
    let signed : FitsSigned w64 (pos (100 * i + 99)) = omega (arith, ints, few_i) in
    (5 ∷ uleb f.column, (0 ∷ 9 ∷ 2 ∷ long (function_address u i)) ++ ((3 ∷ sleb (pos (100 * i + 99))) ++ 1 ∷ []), set_column f.column small.column, three_joined (SetAddress (function_address u i)) (AdvanceLine (pos (100 * i + 99))) Copy (0 ∷ 9 ∷ 2 ∷ long (function_address u i)) (3 ∷ sleb (pos (100 * i + 99))) (1 ∷ []) (set_address (function_address u i) fits) (advance_line (pos (100 * i + 99)) low signed) refl, refl)

sequence_spelled : (u i : ℕ) (f : FunctionDrawn) → u < 4096 → i < 8 → IsFunctionSmall f → Joined Spells (sequence_opcodes u i f) (sequence_bytes u i f)
unfolding sequence_bytes
sequence_spelled u i f few_u few_i small =
    let end : Joined Spells end_opcodes end_bytes = two_joined (AdvancePc 4) EndSequence (2 ∷ uleb 4) (0 ∷ 1 ∷ 1 ∷ []) (advance_pc 4 (omega arith)) end_sequence in
    joined_append Spells (first_opcodes u i f) (steps_opcodes f.steps ++ end_opcodes) (first_row_bytes u i f) (concat (map step_bytes f.steps) ++ end_bytes) (first_spelled u i f few_u few_i small) (joined_append Spells (steps_opcodes f.steps) end_opcodes (concat (map step_bytes f.steps)) end_bytes (steps_spelled f.steps small.steps) end)

-- the sequences of functions, of which the first has a number
pub sequences_spelled : (u i : ℕ) (fs : List FunctionDrawn) → u < 4096 → i + length fs ≤ 8 → All IsFunctionSmall fs → Joined Spells (opcodes_of u i fs) (join_from (sequence_bytes u) i fs)
sequences_spelled u i [] few_u few small = refl
sequences_spelled u i (f ∷ fs) few_u few small =
    joined_append Spells (sequence_opcodes u i f) (opcodes_of u (suc i) fs) (sequence_bytes u i f) (join_from (sequence_bytes u) (suc i) fs) (sequence_spelled u i f few_u (omega (arith, few)) (first_of IsFunctionSmall f fs small)) (sequences_spelled u (suc i) fs few_u (omega (arith, few)) (others_of IsFunctionSmall f fs small))

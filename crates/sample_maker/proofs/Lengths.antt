-- How many bytes the parts of a generated file have at most.
use Rattle.std.proofs.Common.{◌≡◌, ◌≤◌, ◌<◌, ◌+◌, ◌*◌, ◌/◌, ◌%◌, ℕ, suc, List, [], ◌∷◌, ◌++◌, length, map, ltb, refl, arith}
use Rattle.std.specs.Prelude.{ℤ, pos, negsuc, slice_index_or}
use Rattle.std.specs.List.{concat}
use Rattle.std.proofs.lemmas.Bool.{cond_both}
use Rattle.std.proofs.lemmas.List.{length-append}
use Rattle.sample_maker.specs.declared.drawn.Parameter.{Parameter}
use Rattle.sample_maker.specs.declared.drawn.Step.{Step}
use Rattle.sample_maker.specs.Numbered.{join_from}
use Rattle.sample_maker.specs.Drawn.{FunctionDrawn, UnitDrawn}
use Rattle.sample_maker.specs.Places.{function_offset, function_address}
use Rattle.sample_maker.specs.inside.Bytes.{uleb, sleb, half, word, long, offset_pair_bytes, register_bytes, zero_bytes, located_bytes, range_entries, range_bytes, block_list, step_bytes, first_row_bytes, sequence_bytes, opcodes_bytes, line_header, program_bytes}
use Rattle.sample_maker.specs.inside.Files.{function_locations, function_ranges, unit_locations, unit_ranges}
use Rattle.sample_maker.specs.inside.Small.{IsUnitSmall}

-- NUMBERS

uleb_length : (n : ℕ) → length (uleb n) ≤ 3
unfolding uleb
uleb_length n =
    cond_both (ltb n 128) (n ∷ []) _ (λ (z : List ℕ). length z ≤ 3) (λ e. omega arith) (λ e.
    cond_both (ltb n 16384) ((128 + n % 128) ∷ n / 128 ∷ []) ((128 + n % 128) ∷ (128 + n / 128 % 128) ∷ n / 16384 ∷ []) (λ (z : List ℕ). length z ≤ 3) (λ f. omega arith) (λ f. omega arith))

sleb_length : (v : ℤ) → length (sleb v) ≤ 2
unfolding sleb
sleb_length (pos n) = cond_both (ltb n 64) (n ∷ []) ((128 + n % 128) ∷ n / 128 ∷ []) (λ (z : List ℕ). length z ≤ 2) (λ e. omega arith) (λ e. omega arith)
sleb_length (negsuc n) = omega arith

pub half_length : (n : ℕ) → length (half n) ≡ 2
unfolding half
half_length n = refl

pub word_length : (n : ℕ) → length (word n) ≡ 4
unfolding word
word_length n = refl

pub long_length : (n : ℕ) → length (long n) ≡ 8
unfolding long
long_length n = refl

-- THINGS ONE AFTER THE OTHER

pub concat_length : {X : Type 0} (say : X → List ℕ) (most : ℕ) (xs : List X) → ((x : X) → length (say x) ≤ most) → length (concat (map say xs)) ≤ most * length xs
concat_length say most [] each = omega arith
concat_length say most (x ∷ xs) each = omega (arith, length-append (say x) (concat (map say xs)), each x, concat_length say most xs each)

pub join_length : {X : Type 0} (say : ℕ → X → List ℕ) (most i : ℕ) (xs : List X) → ((n : ℕ) (k : ℕ) (d : X) → k < length xs → length (say n (slice_index_or xs k d)) ≤ most) → length (join_from say i xs) ≤ most * length xs
join_length say most i [] each = omega arith
join_length say most i (x ∷ xs) each =
    let first : length (say i x) ≤ most = each i 0 x (omega arith) in
    let rest : length (join_from say (suc i) xs) ≤ most * length xs = join_length say most (suc i) xs (λ n k d lt. each n (suc k) d (omega arith)) in
    omega (arith, length-append (say i x) (join_from say (suc i) xs), first, rest)

-- LISTS

pair_length : (a b : ℕ) (expression : List ℕ) → length (offset_pair_bytes a b expression) ≤ 10 + length expression
pair_length a b expression =
    omega (arith, length-append (uleb a) (uleb b ++ (uleb (length expression) ++ expression)), length-append (uleb b) (uleb (length expression) ++ expression), length-append (uleb (length expression)) expression, uleb_length a, uleb_length b, uleb_length (length expression))

located_length : (offset size : ℕ) (p : Parameter) → length (located_bytes offset size p) ≤ 32
unfolding located_bytes
located_length offset size p =
    let a = offset_pair_bytes offset (offset + p.split) (register_bytes p.register) in
    let b = offset_pair_bytes (offset + p.split) (offset + size) zero_bytes in
    omega (arith, length-append a (b ++ 0 ∷ []), length-append b (0 ∷ []), pair_length offset (offset + p.split) (register_bytes p.register), pair_length (offset + p.split) (offset + size) zero_bytes)

pub entries_length : (address : ℕ) (sizes : List ℕ) → length (range_entries address sizes) ≡ 17 * length sizes
entries_length address [] = refl
entries_length address (size ∷ sizes) =
    omega (arith, length-append (long address) (long (address + size) ++ range_entries (address + 4) sizes), length-append (long (address + size)) (range_entries (address + 4) sizes), long_length address, long_length (address + size), entries_length (address + 4) sizes)

block_length : (address : ℕ) (sizes : List ℕ) → length (block_list address sizes) ≤ 17 * length sizes + 1
unfolding range_bytes
block_length address [] = omega arith
block_length address (size ∷ sizes) = omega (arith, length-append (range_entries address (size ∷ sizes)) (0 ∷ []), entries_length address (size ∷ sizes))

pub unit_locations_length : (unit : UnitDrawn) → IsUnitSmall unit → length (unit_locations unit) ≤ 800
unit_locations_length unit small =
    let each : (n : ℕ) (k : ℕ) (d : FunctionDrawn) → k < length unit → length (function_locations n (slice_index_or unit k d)) ≤ 96 = λ n k d lt.
    let f : FunctionDrawn = slice_index_or unit k d in
    omega (arith, concat_length (located_bytes (function_offset n) f.size) 32 f.parameters (λ p. located_length (function_offset n) f.size p), (small.functions k d lt).few_parameters) in
    omega (arith, join_length function_locations 96 0 unit each, small.few)

pub unit_ranges_length : (u : ℕ) (unit : UnitDrawn) → IsUnitSmall unit → length (unit_ranges u unit) ≤ 500
unit_ranges_length u unit small =
    let each : (n : ℕ) (k : ℕ) (d : FunctionDrawn) → k < length unit → length (function_ranges u n (slice_index_or unit k d)) ≤ 60 = λ n k d lt.
    let f : FunctionDrawn = slice_index_or unit k d in
    omega (arith, block_length (function_address u n) f.ranges, (small.functions k d lt).few_ranges) in
    omega (arith, join_length (function_ranges u) 60 0 unit each, small.few)

-- PROGRAMS

step_length : (step : Step) → length (step_bytes step) ≤ 10
unfolding step_bytes
step_length step =
    omega (arith, length-append (2 ∷ uleb step.advance) ((3 ∷ sleb step.line) ++ 1 ∷ []), length-append (3 ∷ sleb step.line) (1 ∷ []), uleb_length step.advance, sleb_length step.line)

first_row_length : (u i : ℕ) (f : FunctionDrawn) → length (first_row_bytes u i f) ≤ 20
unfolding first_row_bytes
first_row_length u i f =
    let a = 5 ∷ uleb f.column in
    let b = 0 ∷ 9 ∷ 2 ∷ long (function_address u i) in
    let c = 3 ∷ sleb (pos (100 * i + 99)) in
    omega (arith, length-append a (b ++ (c ++ 1 ∷ [])), length-append b (c ++ 1 ∷ []), length-append c (1 ∷ []), uleb_length f.column, long_length (function_address u i), sleb_length (pos (100 * i + 99)))

sequence_length : (u i : ℕ) (f : FunctionDrawn) → length f.steps ≤ 40 → length (sequence_bytes u i f) ≤ 430
unfolding sequence_bytes
sequence_length u i f few =
    let steps = concat (map step_bytes f.steps) in
    omega (arith, length-append (first_row_bytes u i f) (steps ++ ((2 ∷ uleb 4) ++ 0 ∷ 1 ∷ 1 ∷ [])), length-append steps ((2 ∷ uleb 4) ++ 0 ∷ 1 ∷ 1 ∷ []), length-append (2 ∷ uleb 4) (0 ∷ 1 ∷ 1 ∷ []), first_row_length u i f, concat_length step_bytes 10 f.steps (λ step. step_length step), uleb_length 4, few)

pub program_length : (u : ℕ) (unit : UnitDrawn) → IsUnitSmall unit → length (program_bytes u unit) ≤ 3500
unfolding program_bytes
program_length u unit small =
    let ops = opcodes_bytes u unit in
    let each : (n : ℕ) (k : ℕ) (d : FunctionDrawn) → k < length unit → length (sequence_bytes u n (slice_index_or unit k d)) ≤ 430 = λ n k d lt. sequence_length u n (slice_index_or unit k d) (small.functions k d lt).few_steps in
    omega (arith, length-append (word (50 + length ops)) (line_header ++ ops), length-append line_header ops, word_length (50 + length ops), join_length (sequence_bytes u) 430 0 unit each, small.few)

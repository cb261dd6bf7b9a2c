-- The rows that the opcodes of sequences give.
use Rattle.std.proofs.Common.{◌≡◌, ◌≤◌, ◌<◌, ◌+◌, ◌*◌, ◌%◌, ◌^◌, ◌∙◌, ℕ, suc, List, [], ◌∷◌, ◌++◌, length, Bool, true, false, sym, ap, refl, subst, arith}
use Rattle.std.specs.Prelude.{ℤ, pos, negsuc, ◌+ℤ◌, ◌≤ℤ◌, ◌<ℤ◌}
use Rattle.std.specs.List.{All}
use Rattle.std.proofs.lemmas.Int.{ints}
use Rattle.std.proofs.lemmas.List.{length-append}
use Rattle.line_machine.specs.declared.head.Head.{Head}
use Rattle.line_machine.specs.declared.registers.Registers.{Registers}
use Rattle.line_machine.specs.declared.registers.Row.{Row}
use Rattle.line_machine.specs.declared.opcode.Opcode.{Opcode}
use Rattle.line_machine.specs.Rows.{start, end_row, rows_from, HasLine, AreSound, ends}
use Rattle.sample_maker.specs.declared.drawn.Step.{Step}
use Rattle.sample_maker.specs.Numbered.{join_from}
use Rattle.sample_maker.specs.Drawn.{FunctionDrawn, UnitDrawn}
use Rattle.sample_maker.specs.Places.{function_address}
use Rattle.sample_maker.specs.Generated.{row, rows_behind, first_line, sequence_of}
use Rattle.sample_maker.specs.inside.Small.{IsShortLine, IsStepSmall, IsFunctionSmall}
use Rattle.sample_maker.specs.inside.ReadLines.{program_head, steps_opcodes, end_opcodes, sequence_opcodes, opcodes_of}
use Rattle.sample_maker.proofs.SequenceOpcodes.{first_of, others_of}

-- the registers behind a row of a sequence
abbrev behind : ℕ → ℕ → ℤ → Registers
behind column address line = record {
  address = address;
  line = line;
  file = 1;
  column = column;
  isa = 0;
  discriminator = 0;
  stmt = true;
  block = false;
  prologue = false;
  epilogue = false;
}

-- So many steps are left, which pass no limit: the line stays from 0 up to 2 ^ 32, and the address below 2 ^ 64.
record HasRoom (count address : ℕ) (line : ℤ) : Type 0 where
  low : pos (2 * count) ≤ℤ line
  high : (line +ℤ pos (64 * count)) <ℤ pos (2 ^ 32)
  below : address + 128 * count + 4 < 2 ^ 64

room_after : (count address : ℕ) (line : ℤ) (by : ℕ) (more : ℤ) → by < 128 → IsShortLine more → HasRoom (suc count) address line → HasRoom count (address + by) (line +ℤ more)
room_after count address line by (pos n) few short room = record {
  low = omega (arith, ints, room.low, short);
  high = omega (arith, ints, room.high, short);
  below = omega (arith, room.below, few);
}
room_after count address line by (negsuc n) few short room = record {
  low = omega (arith, ints, room.low, short);
  high = omega (arith, ints, room.high, short);
  below = omega (arith, room.below, few);
}

has_line : (count column address : ℕ) (line : ℤ) → HasRoom count address line → HasLine (behind column address line)
has_line count column address line room = (omega (arith, ints, room.low), omega (arith, ints, room.high))

-- a small advance doesn't pass 2 ^ 64
advance_is : (address by : ℕ) → address + by < 2 ^ 64 → (address + by * 1) % 2 ^ 64 ≡ address + by
advance_is address by small = omega (arith, small)

module _ (u at : ℕ) (unit : UnitDrawn) where
  abbrev head : Head
  head = program_head u at unit

  -- the end of a sequence, and what follows it
  end_rows : (column address : ℕ) (line : ℤ) (rest : List Opcode) → address + 4 < 2 ^ 64 → rows_from head (behind column address line) (end_opcodes ++ rest) ≡ end_row (address + 4) ∷ rows_from head (start true) rest
  end_rows column address line rest small = ap (λ (z : ℕ). end_row z ∷ rows_from head (start true) rest) (advance_is address 4 small)

  end_sound : (column address : ℕ) (line : ℤ) (rest : List Opcode) → AreSound head (start true) rest → AreSound head (behind column address line) (end_opcodes ++ rest)
  end_sound column address line rest sound = (omega arith, (tt, sound))

  -- the rows behind one, and what follows their sequence
  steps_rows : (column address : ℕ) (line : ℤ) (steps : List Step) (rest : List Opcode) → All IsStepSmall steps → HasRoom (length steps) address line → rows_from head (behind column address line) ((steps_opcodes steps ++ end_opcodes) ++ rest) ≡ rows_behind column address line steps ++ rows_from head (start true) rest
  steps_rows column address line [] rest small room = end_rows column address line rest (omega (arith, room.below))
  steps_rows column address line (step ∷ steps) rest small room =
      let here = first_of IsStepSmall step steps small in
      let next : HasRoom (length steps) (address + step.advance) (line +ℤ step.line) = room_after (length steps) address line step.advance step.line here.advance here.line room in
      let moved : (address + step.advance * 1) % 2 ^ 64 ≡ address + step.advance = advance_is address step.advance (omega (arith, next.below)) in
      ap (λ (z : ℕ). row column z (line +ℤ step.line) ∷ rows_from head (behind column z (line +ℤ step.line)) ((steps_opcodes steps ++ end_opcodes) ++ rest)) moved
      ∙ ap (λ (z : List Row). row column (address + step.advance) (line +ℤ step.line) ∷ z) (steps_rows column (address + step.advance) (line +ℤ step.line) steps rest (others_of IsStepSmall step steps small) next)

  steps_sound : (column address : ℕ) (line : ℤ) (steps : List Step) (rest : List Opcode) → All IsStepSmall steps → HasRoom (length steps) address line → AreSound head (start true) rest → AreSound head (behind column address line) ((steps_opcodes steps ++ end_opcodes) ++ rest)
  steps_sound column address line [] rest small room sound = end_sound column address line rest sound
  steps_sound column address line (step ∷ steps) rest small room sound =
      let here = first_of IsStepSmall step steps small in
      let next : HasRoom (length steps) (address + step.advance) (line +ℤ step.line) = room_after (length steps) address line step.advance step.line here.advance here.line room in
      let moved : (address + step.advance * 1) % 2 ^ 64 ≡ address + step.advance = advance_is address step.advance (omega (arith, next.below)) in
      let after : AreSound head (behind column (address + step.advance) (line +ℤ step.line)) ((steps_opcodes steps ++ end_opcodes) ++ rest) = steps_sound column (address + step.advance) (line +ℤ step.line) steps rest (others_of IsStepSmall step steps small) next sound in
      let product : step.advance * 1 < 2 ^ 64 = omega (arith, here.advance) in
      let both : HasLine (behind column (address + step.advance) (line +ℤ step.line)) × AreSound head (behind column (address + step.advance) (line +ℤ step.line)) ((steps_opcodes steps ++ end_opcodes) ++ rest) = (has_line (length steps) column (address + step.advance) (line +ℤ step.line) next, after) in
      (product, (tt, subst (λ (z : ℕ). HasLine (behind column z (line +ℤ step.line)) × AreSound head (behind column z (line +ℤ step.line)) ((steps_opcodes steps ++ end_opcodes) ++ rest)) (sym moved) both))

  -- a sequence begins with room for its steps
  begins : (i : ℕ) (f : FunctionDrawn) → u < 4096 → i < 8 → IsFunctionSmall f → HasRoom (length f.steps) (function_address u i) (first_line i)
  begins i f few_u few_i small = record {
    low = omega (arith, ints, few_i, small.few_steps);
    high = omega (arith, ints, few_i, small.few_steps);
    below = omega (arith, few_u, few_i, small.few_steps);
  }

  first_is : (i : ℕ) → pos 1 +ℤ pos (100 * i + 99) ≡ first_line i
  first_is i = omega (arith, ints)

  sequence_rows : (i : ℕ) (f : FunctionDrawn) (rest : List Opcode) → u < 4096 → i < 8 → IsFunctionSmall f → rows_from head (start true) (sequence_opcodes u i f ++ rest) ≡ sequence_of u i f ++ rows_from head (start true) rest
  sequence_rows i f rest few_u few_i small =
      ap (λ (z : ℤ). row f.column (function_address u i) z ∷ rows_from head (behind f.column (function_address u i) z) ((steps_opcodes f.steps ++ end_opcodes) ++ rest)) (first_is i)
      ∙ ap (λ (z : List Row). row f.column (function_address u i) (first_line i) ∷ z) (steps_rows f.column (function_address u i) (first_line i) f.steps rest small.steps (begins i f few_u few_i small))

  sequence_sound : (i : ℕ) (f : FunctionDrawn) (rest : List Opcode) → u < 4096 → i < 8 → IsFunctionSmall f → AreSound head (start true) rest → AreSound head (start true) (sequence_opcodes u i f ++ rest)
  sequence_sound i f rest few_u few_i small sound =
      let room = begins i f few_u few_i small in
      let after : HasLine (behind f.column (function_address u i) (first_line i)) × AreSound head (behind f.column (function_address u i) (first_line i)) ((steps_opcodes f.steps ++ end_opcodes) ++ rest) = (has_line (length f.steps) f.column (function_address u i) (first_line i) room, steps_sound f.column (function_address u i) (first_line i) f.steps rest small.steps room sound) in
      let same : HasLine (behind f.column (function_address u i) (pos 1 +ℤ pos (100 * i + 99))) × AreSound head (behind f.column (function_address u i) (pos 1 +ℤ pos (100 * i + 99))) ((steps_opcodes f.steps ++ end_opcodes) ++ rest) = subst (λ (z : ℤ). HasLine (behind f.column (function_address u i) z) × AreSound head (behind f.column (function_address u i) z) ((steps_opcodes f.steps ++ end_opcodes) ++ rest)) (sym (first_is i)) after in
      (tt, (tt, (tt, same)))

  -- the sequences of functions, of which the first has a number
  pub sequences_rows : (i : ℕ) (fs : List FunctionDrawn) → u < 4096 → i + length fs ≤ 8 → All IsFunctionSmall fs → rows_from head (start true) (opcodes_of u i fs) ≡ join_from (sequence_of u) i fs
  sequences_rows i [] few_u few small = refl
  sequences_rows i (f ∷ fs) few_u few small =
      sequence_rows i f (opcodes_of u (suc i) fs) few_u (omega (arith, few)) (first_of IsFunctionSmall f fs small)
      ∙ ap (λ (z : List Row). sequence_of u i f ++ z) (sequences_rows (suc i) fs few_u (omega (arith, few)) (others_of IsFunctionSmall f fs small))

  pub sequences_sound : (i : ℕ) (fs : List FunctionDrawn) → u < 4096 → i + length fs ≤ 8 → All IsFunctionSmall fs → AreSound head (start true) (opcodes_of u i fs)
  sequences_sound i [] few_u few small = tt
  sequences_sound i (f ∷ fs) few_u few small =
      sequence_sound i f (opcodes_of u (suc i) fs) few_u (omega (arith, few)) (first_of IsFunctionSmall f fs small) (sequences_sound (suc i) fs few_u (omega (arith, few)) (others_of IsFunctionSmall f fs small))

-- a sequence ends, whatever follows it
steps_end : (before : Bool) (column address : ℕ) (line : ℤ) (steps : List Step) (rest : List Row) → ends before (rows_behind column address line steps ++ rest) ≡ ends true rest
steps_end before column address line [] rest = refl
steps_end before column address line (step ∷ steps) rest = steps_end false column (address + step.advance) (line +ℤ step.line) steps rest

pub sequences_end : (u i : ℕ) (fs : List FunctionDrawn) → ends true (join_from (sequence_of u) i fs) ≡ true
sequences_end u i [] = refl
sequences_end u i (f ∷ fs) = steps_end false f.column (function_address u i) (first_line i) f.steps (join_from (sequence_of u) (suc i) fs) ∙ sequences_end u (suc i) fs

-- how many rows there are
behind_count : (column address : ℕ) (line : ℤ) (steps : List Step) → length (rows_behind column address line steps) ≡ suc (length steps)
behind_count column address line [] = refl
behind_count column address line (step ∷ steps) = ap suc (behind_count column (address + step.advance) (line +ℤ step.line) steps)

pub sequences_count : (u i : ℕ) (fs : List FunctionDrawn) → All IsFunctionSmall fs → length (join_from (sequence_of u) i fs) ≤ 42 * length fs
sequences_count u i [] small = omega arith
sequences_count u i (f ∷ fs) small =
    let rows = rows_behind f.column (function_address u i) (first_line i) f.steps in
    let few = (first_of IsFunctionSmall f fs small).few_steps in
    omega (arith, length-append rows (join_from (sequence_of u) (suc i) fs), behind_count f.column (function_address u i) (first_line i) f.steps, few, sequences_count u (suc i) fs (others_of IsFunctionSmall f fs small))

-- What is drawn is small.
use Rattle.std.proofs.Common.{◌≡◌, ◌≤◌, ◌<◌, ℕ, zero, suc, List, [], length, sym, ap, refl, subst, arith}
use Rattle.std.specs.Prelude.{pos, ◌-ℤ◌, nat_eq, slice_index_or}
use Rattle.std.specs.List.{All}
use Rattle.std.proofs.lemmas.Bool.{cond_both}
use Rattle.std.proofs.lemmas.Int.{ints}
use Rattle.sample_maker.specs.Draws.{next, drawn, after, all_drawn}
use Rattle.sample_maker.specs.Drawn.{parameter_drawn, parameter_count, range_drawn, range_count, ranges_drawn, has_block, step_drawn, step_count, block_state, lines_state, function_drawn, behind_function, function_count, unit_drawn, behind_unit, units_drawn}
use Rattle.sample_maker.specs.inside.Small.{IsShortLine, IsStepSmall, IsParameterSmall, IsFunctionSmall, IsUnitSmall}

drawn_below : (n state : ℕ) → 0 < n → drawn n state < n
unfolding drawn
drawn_below n state some = grind arith

count_drawn : {T : Type 0} (draw : ℕ → T) (step : ℕ → ℕ) (count state : ℕ) → length (all_drawn draw step count state) ≡ count
count_drawn draw step zero state = refl
count_drawn draw step (suc count) state = ap suc (count_drawn draw step count (step state))

-- what holds of each thing that is drawn holds of all
each_holds : {T : Type 0} (P : T → Type 0) (draw : ℕ → T) (step : ℕ → ℕ) → ((state : ℕ) → P (draw state)) → (count state k : ℕ) (d : T) → k < length (all_drawn draw step count state) → P (slice_index_or (all_drawn draw step count state) k d)
each_holds P draw step each zero state k d lt = absurd (omega arith)
each_holds P draw step each (suc count) state zero d lt = each state
each_holds P draw step each (suc count) state (suc k) d lt = each_holds P draw step each count (step state) k d (omega arith)

all_hold : {T : Type 0} (P : T → Type 0) (draw : ℕ → T) (step : ℕ → ℕ) → ((state : ℕ) → P (draw state)) → (count state : ℕ) → All P (all_drawn draw step count state)
all_hold P draw step each count state = λ k d lt. each_holds P draw step each count state k d lt

parameter_small : (state : ℕ) → IsParameterSmall (parameter_drawn state)
parameter_small state = record { split = omega (arith, drawn_below 3 state (omega arith)); register = drawn_below 16 (next state) (omega arith) }

range_small : (state : ℕ) → range_drawn state < 16
range_small state = omega (arith, drawn_below 2 state (omega arith))

short_line : (n : ℕ) → n < 12 → IsShortLine (pos n -ℤ pos 2)
short_line zero few = omega arith
short_line (suc zero) few = omega arith
short_line (suc (suc n)) few =
    let e : pos (suc (suc n)) -ℤ pos 2 ≡ pos n = omega (arith, ints) in
    subst IsShortLine (sym e) (omega (arith, few))

step_small : (state : ℕ) → IsStepSmall (step_drawn state)
step_small state = record { advance = omega (arith, drawn_below 12 state (omega arith)); line = short_line (drawn 12 (next state)) (drawn_below 12 (next state) (omega arith)) }

none_small : All (λ (size : ℕ). size < 16) []
none_small = λ k d lt. absurd (omega arith)

few_ranges : (state : ℕ) → length (ranges_drawn state) ≤ 3
few_ranges state =
    cond_both (nat_eq (has_block state) 0) [] (all_drawn range_drawn next (range_count state) (after 2 state)) (λ (z : List ℕ). length z ≤ 3) (λ e. omega arith) (λ e. omega (arith, count_drawn range_drawn next (range_count state) (after 2 state), drawn_below 3 (next state) (omega arith)))

ranges_small : (state : ℕ) → All (λ (size : ℕ). size < 16) (ranges_drawn state)
ranges_small state =
    cond_both (nat_eq (has_block state) 0) [] (all_drawn range_drawn next (range_count state) (after 2 state)) (λ (z : List ℕ). All (λ (size : ℕ). size < 16) z) (λ e. none_small) (λ e. all_hold (λ (size : ℕ). size < 16) range_drawn next range_small (range_count state) (after 2 state))

pub function_small : (state : ℕ) → IsFunctionSmall (function_drawn state)
unfolding function_drawn
function_small state = record {
  size = omega (arith, drawn_below 200 state (omega arith));
  parameters = all_hold IsParameterSmall parameter_drawn (after 2) parameter_small (parameter_count state) (after 2 state);
  few_parameters = omega (arith, count_drawn parameter_drawn (after 2) (parameter_count state) (after 2 state), drawn_below 4 (next state) (omega arith));
  few_ranges = few_ranges (block_state state);
  ranges = ranges_small (block_state state);
  column = omega (arith, drawn_below 40 (lines_state state) (omega arith));
  steps = all_hold IsStepSmall step_drawn (after 2) step_small (step_count (lines_state state)) (after 2 (lines_state state));
  few_steps = omega (arith, count_drawn step_drawn (after 2) (step_count (lines_state state)) (after 2 (lines_state state)), drawn_below 32 (next (lines_state state)) (omega arith));
}

pub unit_small : (state : ℕ) → IsUnitSmall (unit_drawn state)
unfolding unit_drawn
unit_small state = record {
  few = omega (arith, count_drawn function_drawn behind_function (function_count state) (next state), drawn_below 8 state (omega arith));
  functions = all_hold IsFunctionSmall function_drawn behind_function function_small (function_count state) (next state);
}

-- the units of a file are small, and as many as are asked for
pub units_small : (number count : ℕ) → All IsUnitSmall (units_drawn number count)
units_small number count = all_hold IsUnitSmall unit_drawn behind_unit unit_small count number

pub units_counted : (number count : ℕ) → length (units_drawn number count) ≡ count
units_counted number count = count_drawn unit_drawn behind_unit count number

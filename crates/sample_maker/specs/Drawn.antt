-- What is drawn of the units of a file. The order of the draws is that of the fields, and each definition takes the state
-- of the generator before its first draw.
use Rattle.std.specs.Prelude.{◌+◌, ◌*◌, ℕ, List, [], if◌then◌else◌, nat_eq, ◌-ℤ◌, pos, map}
use Rattle.sample_maker.specs.declared.drawn.Parameter.{Parameter}
use Rattle.sample_maker.specs.declared.drawn.Step.{Step}
use Rattle.sample_maker.specs.declared.drawn.Function.{Function}
use Rattle.sample_maker.specs.declared.drawn.Unit.{Unit as UnitHeld}
use Rattle.sample_maker.specs.Draws.{next, drawn, after, repeated, all_drawn}

-- A function: its bytes; its parameters; the sizes of the address ranges of a block in it, of which there are none where it has no
-- block; the column of its rows; and its rows behind the first, each by how far it is from the row before it.
pub record FunctionDrawn : Type 0 where
  pub size : ℕ
  pub parameters : List Parameter
  pub ranges : List ℕ
  pub column : ℕ
  pub steps : List Step

-- a unit is its functions
abbrev pub UnitDrawn : Type 0
UnitDrawn = List FunctionDrawn

-- PARAMETERS: where it leaves its register, and the register

abbrev pub parameter_drawn : ℕ → Parameter
parameter_drawn state = record { split = 4 * (1 + drawn 3 state); register = drawn 16 (next state) }

-- behind the size of its function and the count of parameters
abbrev pub parameter_count : ℕ → ℕ
parameter_count state = drawn 4 (next state)

abbrev pub parameters_drawn : ℕ → List Parameter
parameters_drawn state = all_drawn parameter_drawn (after 2) (parameter_count state) (after 2 state)

-- BLOCKS: whether there is one, how many ranges it has, and their sizes

abbrev pub range_drawn : ℕ → ℕ
range_drawn state = 2 + drawn 2 state

abbrev pub has_block : ℕ → ℕ
has_block state = drawn 2 state

abbrev pub range_count : ℕ → ℕ
range_count state = 1 + drawn 3 (next state)

abbrev pub ranges_drawn : ℕ → List ℕ
ranges_drawn state = if nat_eq (has_block state) 0 then [] else all_drawn range_drawn next (range_count state) (after 2 state)

abbrev pub behind_block : ℕ → ℕ
behind_block state = if nat_eq (has_block state) 0 then next state else repeated next (range_count state) (after 2 state)

-- LINES: the column, the count of rows behind the first, and of each how far it is from the row before it

abbrev pub step_drawn : ℕ → Step
step_drawn state = record { advance = 1 + drawn 12 state; line = pos (drawn 12 (next state)) -ℤ pos 2 }

abbrev pub step_count : ℕ → ℕ
step_count state = 7 + drawn 32 (next state)

abbrev pub steps_drawn : ℕ → List Step
steps_drawn state = all_drawn step_drawn (after 2) (step_count state) (after 2 state)

-- FUNCTIONS

-- the states behind the parameters of a function, and behind its block
abbrev pub block_state : ℕ → ℕ
block_state state = repeated (after 2) (parameter_count state) (after 2 state)

abbrev pub lines_state : ℕ → ℕ
lines_state state = behind_block (block_state state)

unfoldable pub function_drawn : ℕ → FunctionDrawn
function_drawn state = record {
  size = 16 + 4 * drawn 200 state;
  parameters = parameters_drawn state;
  ranges = ranges_drawn (block_state state);
  column = 1 + drawn 40 (lines_state state);
  steps = steps_drawn (lines_state state);
}

unfoldable pub behind_function : ℕ → ℕ
behind_function state = repeated (after 2) (step_count (lines_state state)) (after 2 (lines_state state))

-- UNITS

abbrev pub function_count : ℕ → ℕ
function_count state = 1 + drawn 8 state

unfoldable pub unit_drawn : ℕ → UnitDrawn
unit_drawn state = all_drawn function_drawn behind_function (function_count state) (next state)

unfoldable pub behind_unit : ℕ → ℕ
behind_unit state = repeated behind_function (function_count state) (next state)

-- the units of a file
abbrev pub units_drawn : ℕ → ℕ → List UnitDrawn
units_drawn number units = all_drawn unit_drawn behind_unit units number

-- AS THEY ARE HELD

abbrev pub function_of : Function → FunctionDrawn
function_of f = record { size = f.size; parameters = f.parameters.items; ranges = f.ranges.items; column = f.column; steps = f.steps.items }

abbrev pub unit_of : UnitHeld → UnitDrawn
unit_of u = map function_of u.functions.items

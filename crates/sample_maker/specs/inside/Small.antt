-- What is drawn is small, so that no number passes its limit.
use Rattle.std.specs.Prelude.{◌≤◌, ◌<◌, ℕ, length, pos, negsuc, ℤ}
use Rattle.std.specs.List.{All}
use Rattle.sample_maker.specs.declared.drawn.Parameter.{Parameter}
use Rattle.sample_maker.specs.declared.drawn.Step.{Step}
use Rattle.sample_maker.specs.Drawn.{FunctionDrawn, UnitDrawn}

-- A number of one byte as an SLEB128, and none below -2: a function begins at line 100 or later, and its forty steps at most take no row
-- to a line below 0.
abbrev pub IsShortLine : ℤ → Type 0
IsShortLine (pos n) = n < 64
IsShortLine (negsuc n) = n < 2

pub record IsStepSmall (step : Step) : Type 0 where
  pub advance : step.advance < 128
  pub line : IsShortLine step.line

pub record IsParameterSmall (p : Parameter) : Type 0 where
  pub split : p.split < 16
  pub register : p.register < 16

pub record IsFunctionSmall (f : FunctionDrawn) : Type 0 where
  pub size : f.size < 1024
  pub parameters : All IsParameterSmall f.parameters
  pub few_parameters : length f.parameters ≤ 3
  pub few_ranges : length f.ranges ≤ 3
  pub ranges : All (λ (size : ℕ). size < 16) f.ranges
  pub column : f.column < 128
  pub steps : All IsStepSmall f.steps
  pub few_steps : length f.steps ≤ 40

pub record IsUnitSmall (unit : UnitDrawn) : Type 0 where
  pub few : length unit ≤ 8
  pub functions : All IsFunctionSmall unit

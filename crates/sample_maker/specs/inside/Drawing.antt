-- How far draws have come that go on one after the other.
use Rattle.std.specs.Prelude.{◌≡◌, ◌-◌, ℕ, List, ◌++◌}
use Rattle.sample_maker.specs.Draws.{repeated, all_drawn}

-- `done` of `count` things are drawn from a state, these are they, and the generator is in this state: with what is left they are all
pub record IsDrawing {T : Type 0} (draw : ℕ → T) (step : ℕ → ℕ) (count from : ℕ) (items : List T) (done state : ℕ) : Type 0 where
  pub things : items ++ all_drawn draw step (count - done) state ≡ all_drawn draw step count from
  pub behind : repeated step (count - done) state ≡ repeated step count from

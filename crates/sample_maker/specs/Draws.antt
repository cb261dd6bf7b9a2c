-- The numbers that are drawn. All follows from the first state of a generator: each draw goes on to the next state.
use Rattle.std.specs.Prelude.{◌+◌, ◌*◌, ◌/◌, ◌%◌, ◌^◌, ℕ, zero, suc, List, [], ◌∷◌}

-- the state after a draw, of a linear congruential generator over 64 bits
unfoldable pub next : ℕ → ℕ
next state = (state * 6364136223846793005 + 1442695040888963407) % 2 ^ 64

-- what is drawn below n: the remainder of the upper bits of the next state
unfoldable pub drawn : ℕ → ℕ → ℕ
drawn n state = (next state / 2 ^ 33) % n

-- a step is taken so many times
abbrev pub repeated : (ℕ → ℕ) → ℕ → ℕ → ℕ
repeated step zero state = state
repeated step (suc count) state = repeated step count (step state)

-- the state after so many draws
abbrev pub after : ℕ → ℕ → ℕ
after count state = repeated next count state

-- so many things are drawn, each from the state behind the one before it
abbrev pub all_drawn : {T : Type 0} → (ℕ → T) → (ℕ → ℕ) → ℕ → ℕ → List T
all_drawn draw step zero state = []
all_drawn draw step (suc count) state = draw state ∷ all_drawn draw step count (step state)

-- Sums for neighbouring places, of which only the changes from one to the next are held. Private functions alone cite this.
use Rattle.std.specs.Prelude.{◌+◌, ◌%◌, ◌^◌, ℕ, List, [], ◌∷◌}

-- the sums that changes make after a first one, in 64 bits
abbrev pub sums_from : ℕ → List ℕ → List ℕ
sums_from sum [] = []
sums_from sum (change ∷ changes) = (sum + change) % 2 ^ 64 ∷ sums_from ((sum + change) % 2 ^ 64) changes

-- Things by their numbers.
use Rattle.std.specs.Prelude.{ℕ, suc, List, [], ◌∷◌, ◌++◌}

-- what is said of each thing and its number, where the first has a number
abbrev pub map_from : {X T : Type 0} → (ℕ → X → T) → ℕ → List X → List T
map_from say i [] = []
map_from say i (x ∷ xs) = say i x ∷ map_from say (suc i) xs

-- the same, where a list is said of each, and these are joined
abbrev pub join_from : {X T : Type 0} → (ℕ → X → List T) → ℕ → List X → List T
join_from say i [] = []
join_from say i (x ∷ xs) = say i x ++ join_from say (suc i) xs

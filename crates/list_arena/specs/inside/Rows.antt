-- Where what belongs to a row begins, if it ends where these numbers say and the first begins at the one given.
use Rattle.std.specs.Prelude.{ℕ, zero, suc, List, [], ◌∷◌}

unfoldable pub begin_of : ℕ → List ℕ → ℕ → ℕ
begin_of first ends zero = first
begin_of first [] (suc k) = first
begin_of first (end ∷ ends) (suc k) = begin_of end ends k

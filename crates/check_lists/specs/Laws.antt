-- What the verdict on a record shows.
use Rattle.std.specs.Prelude.{◌≡◌, ℕ, List}
use Rattle.list_model.specs.declared.context.Context.{Context}
use Rattle.list_model.specs.Items.{Bounds}
use Rattle.list_model.specs.Potentials.{AcceptsList}
use Rattle.check_lists.specs.Refused.{IsFirstRefused}

-- No record is both accepted and refused.
abbrev pub NeverBoth : Type 0
NeverBoth =
    (addr : List ℕ) (context : Context) (items : List Bounds) (potentials : List ℕ) (size place : ℕ) →
    IsFirstRefused addr context items potentials size place →
    AcceptsList addr context items potentials size →
    ⊥

-- A record is refused by one place.
abbrev pub OneRefused : Type 0
OneRefused =
    (addr : List ℕ) (context : Context) (items : List Bounds) (potentials : List ℕ) (size place other : ℕ) →
    IsFirstRefused addr context items potentials size place →
    IsFirstRefused addr context items potentials size other →
    place ≡ other

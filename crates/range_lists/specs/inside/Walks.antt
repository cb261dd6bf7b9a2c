-- How a walk over a range list goes on, entry by entry.
use Rattle.std.specs.Prelude.{◌≡◌, ◌++◌, ◌∷◌, [], ℕ, Bool, true, false}
use Rattle.list_model.specs.declared.walk.Step.{Step}
use Rattle.list_model.specs.declared.walk.Step.TheVariants.{Base, Between, Elsewhere, Over}
use Rattle.list_model.specs.Entries.{no_expr}
use Rattle.range_lists.specs.declared.items.Walk.{Walk}

-- a walk with one item more
pub record HasItem (old new : Walk) (first last : ℕ) (all : Bool) : Type 0 where
  pub base : new.base ≡ old.base
  pub items : new.items.items ≡ old.items.items ++ record { start = first; end = last; whole = all; expr = no_expr } ∷ []
  pub dead : new.dead ≡ old.dead

-- a walk goes on by what the next entry does
abbrev pub WalksOn : Step → Walk → Walk → Type 0
WalksOn (Base next) old new = (new.base ≡ next) × (new.items.items ≡ old.items.items) × (new.dead ≡ old.dead)
WalksOn (Between start end) old new = HasItem old new start end false
WalksOn Elsewhere old new = HasItem old new 0 0 true
WalksOn Over old new = (new.base ≡ old.base) × (new.items.items ≡ old.items.items) × (new.dead ≡ true)

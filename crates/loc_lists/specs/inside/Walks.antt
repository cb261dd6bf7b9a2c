-- How a walk over a location list goes on, entry by entry.
use Rattle.std.specs.Prelude.{◌≡◌, ◌++◌, ◌∷◌, [], ℕ, Bool, true, false}
use Rattle.dw_base.specs.declared.fault.Span.{Span}
use Rattle.list_model.specs.declared.walk.Step.{Step}
use Rattle.list_model.specs.declared.walk.Step.TheVariants.{Base, Between, Elsewhere, Over}
use Rattle.loc_lists.specs.declared.items.Walk.{Walk}

-- a walk with one item more
pub record HasItem (old new : Walk) (first last : ℕ) (all : Bool) (place : Span) : Type 0 where
  pub base : new.base ≡ old.base
  pub items : new.items.items ≡ old.items.items ++ record { start = first; end = last; whole = all; expr = place } ∷ []
  pub dead : new.dead ≡ old.dead

-- a walk goes on by what the next entry does, whose expression lies at a place
abbrev pub WalksOn : Step → Span → Walk → Walk → Type 0
WalksOn (Base next) place old new = (new.base ≡ next) × (new.items.items ≡ old.items.items) × (new.dead ≡ old.dead)
WalksOn (Between start end) place old new = HasItem old new start end false place
WalksOn Elsewhere place old new = HasItem old new 0 0 true place
WalksOn Over place old new = (new.base ≡ old.base) × (new.items.items ≡ old.items.items) × (new.dead ≡ true)

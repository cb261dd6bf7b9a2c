-- Whether a unit names the entry of its type.
use Rattle.std.proofs.Common.{◌≡◌, ◌+◌, ℕ, sym, subst, refl, true≢false}
use Rattle.std.specs.Prelude.{◌↔◌, Option, Some, None, true, false}
use Rattle.entry_arena.specs.declared.entry.Target.{Target}
use Rattle.entry_arena.specs.declared.entry.Target.TheVariants.{Entry as TheEntry, ChainEnd as TheEnd}
use Rattle.entry_arena.specs.Order.{IsInOrder}
use Rattle.entry_read.specs.declared.head.UnitHead.{UnitHead}
use Rattle.entry_read.specs.Units.{HeadAndForest}
use Rattle.value_links.specs.inside.Links.{IsTargetFound}
use Rattle.value_links.specs.inside.Checks.{NamesType}
use Rattle.value_links.proofs.Targets.{never_both}

module _ (unit : HeadAndForest) where
  -- a local reference from where the type's stands
  pub place_same : (head : UnitHead) (found : Option Target) → head ≡ unit.head → IsTargetFound unit.forest (unit.head.at + head.type_at) found → IsTargetFound unit.forest (unit.head.at + unit.head.type_at) found
  place_same head found e is = subst (λ (z : UnitHead). IsTargetFound unit.forest (unit.head.at + z.type_at) found) e is

  pub named_entry : (id : ℕ) → IsTargetFound unit.forest (unit.head.at + unit.head.type_at) (Some (TheEntry id)) → (true ≡ true) ↔ NamesType unit
  named_entry id here = (λ yes. (id, here), λ names. refl)

  pub named_end : IsInOrder unit.forest → (id : ℕ) → IsTargetFound unit.forest (unit.head.at + unit.head.type_at) (Some (TheEnd id)) → (false ≡ true) ↔ NamesType unit
  named_end order id here = (λ no. absurd (true≢false (sym no)), λ (other, there). absurd (never_both unit.forest order other id (unit.head.at + unit.head.type_at) there here))

  pub named_none : IsTargetFound unit.forest (unit.head.at + unit.head.type_at) None → (false ≡ true) ↔ NamesType unit
  named_none none = (λ no. absurd (true≢false (sym no)), λ (id, here). absurd (none (TheEntry id) here))

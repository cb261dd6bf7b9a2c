-- The lists that slots name, by their numbers.
use Rattle.std.proofs.Common.{◌≡◌, ◌∙◌, inr, ℕ, List, get_or, sym, ap, subst}
use Rattle.std.specs.Prelude.{◌↔◌}
use Rattle.list_model.specs.declared.entry.ListKind.{ListKind}
use Rattle.list_model.specs.declared.contribution.Contribution.{Contribution}
use Rattle.value_links.specs.ListPlaces.{IsSlot, SlotNames}
use Rattle.value_links.specs.Reading.{Reading, of_kind, lists_of, part_at, list_at}
use Rattle.value_links.specs.World.{World, contribution_at, Holds}
use Rattle.value_links.specs.Whole.{IsReading}
use Rattle.value_links.proofs.LinkedOnce.{slot_once}
use Rattle.tidy_lists.specs.inside.NamedNumbers.{IsListNumber, IsNamedBySlot}
use Rattle.tidy_lists.proofs.HeldNumbers.{list_once}

module _ (file : List ℕ) (r : Reading) (read : IsReading file r) (kind : ListKind) (p i at : ℕ) (slot : IsSlot (of_kind r.links kind) p i at) where
  -- a slot tells where a list begins
  pub names : SlotNames (of_kind r.links kind) p i at
  names =
      let (place, (other, begins)) = (read.lists kind).slots p i slot.known slot.counted in
      let same : place ≡ at = other.tells ∙ sym slot.tells in
      subst (SlotNames (of_kind r.links kind) p i) same (other, begins)

  -- which was read
  pub slot_there : (k : ℕ) × IsListNumber r kind at k
  slot_there = let (k, inside, here) = (read.lists kind).all at (inr (p, i, names)) in (k, (inside, here))

  -- and its number is the one that the slot names
  pub slot_named : (number : ℕ) → IsListNumber r kind at number → (k : ℕ) → (k ≡ number) ↔ IsNamedBySlot kind r p i k
  slot_named number (known, here) k = (
    λ same. subst (IsNamedBySlot kind r p i) (sym same) (known, subst (SlotNames (of_kind r.links kind) p i) (sym here) names),
    λ (inside, other). list_once file r read kind at k number (inside, slot_once r.links kind p i (list_at (lists_of r kind) k).at at other names) (known, here),
  )

-- the slots of a contribution that is held are those that were read
pub slots_are : (world : World) (r : Reading) (kind : ListKind) (p : ℕ) → Holds world.image world r → (contribution_at world kind p).slots ≡ (part_at (of_kind r.links kind) p).slots
slots_are world r kind p holds = ap (λ (parts : List Contribution). (get_or parts p (record { at = 0; len = 0; slots = 0 })).slots) (holds.contributions kind)

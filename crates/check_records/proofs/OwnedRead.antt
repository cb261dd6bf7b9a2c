-- The location lists that a unit owns, from what World holds of them.
use Rattle.std.proofs.Common.{◌≡◌, ◌<◌, ℕ, List, length, get_or, ap, subst, arith}
use Rattle.std.specs.Prelude.{Option, Some, None}
use Rattle.dw_base.specs.declared.fault.Reach.{Reach}
use Rattle.list_model.specs.declared.entry.ListKind.{ListKind}
use Rattle.list_model.specs.declared.entry.ListKind.TheVariants.{Locations}
use Rattle.list_lookup.specs.Owned.{IsOwnedBy, AreOwnedIn}
use Rattle.list_arena.specs.Held.{HeldList}
use Rattle.written_files.specs.Layouts.{AreOwnedLists}
use Rattle.value_links.specs.Lists.{IsOwner}
use Rattle.value_links.specs.Reading.{Linkable, Reading, list_at}
use Rattle.value_links.specs.Whole.{IsReading}
use Rattle.value_links.specs.World.{World, IsWorldOf}
use Rattle.value_links.proofs.ReadingOnce.{reading_once}
use Rattle.check_records.proofs.Numbers.{numbers_of}
use Rattle.check_records.proofs.PartLists.{some_item}
use Rattle.check_records.proofs.SaidOnce.{first_once}

owner_is : (r : Linkable) (kind : ListKind) (at u : ℕ) (owner : Option ℕ) → IsOwner r kind at owner → IsOwner r kind at (Some u) → owner ≡ Some u
owner_is r kind at u (Some v) one other = ap (λ (z : ℕ). Some z) (first_once r kind at v u one other)
owner_is r kind at u None none other = absurd (none u other.0)

module _ (world : World) (some : (reach : Reach) × IsWorldOf world.image reach world) (u : ℕ) where
  owned_there : (k : ℕ) → k < length world.locations → IsOwnedBy world u k → IsOwner some.1.r.links Locations (list_at some.1.r.location_lists k).at (Some u)
  owned_there k inside owned =
      let d : HeldList = some_item world.locations k inside in
      let holds = (some.1.holds.lists Locations).each k d (omega (arith, inside, (some.1.holds.lists Locations).count)) in
      subst (λ (z : Option ℕ). IsOwner some.1.r.links Locations (list_at some.1.r.location_lists k).at z) (owned d) holds.owner

  owned_held : (k : ℕ) → k < length some.1.r.location_lists → IsOwner some.1.r.links Locations (list_at some.1.r.location_lists k).at (Some u) → IsOwnedBy world u k
  owned_held k inside owned d =
      let holds = (some.1.holds.lists Locations).each k d inside in
      owner_is some.1.r.links Locations (list_at some.1.r.location_lists k).at u (get_or world.locations k d).owner holds.owner owned

  pub owned_read : (numbers : List ℕ) → AreOwnedIn world u numbers → (s : Reading) → IsReading world.image s → AreOwnedLists s u numbers
  owned_read numbers are s read =
      let here : AreOwnedLists some.1.r u numbers = numbers_of (IsOwnedBy world u) (λ (k : ℕ). IsOwner some.1.r.links Locations (list_at some.1.r.location_lists k).at (Some u)) (length world.locations) (length some.1.r.location_lists) (some.1.holds.lists Locations).count owned_there owned_held numbers are in
      subst (λ (z : Reading). AreOwnedLists z u numbers) (reading_once world.image some.1.r s some.1.read read) here

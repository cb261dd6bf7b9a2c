-- The location lists that a unit owns are those that it owned, and the slots of their expressions tell the new places of what they named.
use Rattle.std.proofs.Common.{◌≡◌, ◌<◌, ◌∙◌, ℕ, List, [], ◌∷◌, length, get_or, map, sym, subst, arith}
use Rattle.std.specs.Prelude.{Option, Some, flat_map, slice_index}
use Rattle.std.specs.List.{All, AllZip}
use Rattle.std.proofs.lemmas.List.Elements.{All-head, All-tail}
use Rattle.dw_base.specs.declared.classes.Classes.{Classes}
use Rattle.dw_base.specs.declared.fault.Reach.TheVariants.{Narrow, Wide}
use Rattle.expr_ops.specs.Expressions.{Operation, IsExpression}
use Rattle.expr_ops.specs.Ops.{all_meant}
use Rattle.expr_ops.specs.Drafts.{with_refs}
use Rattle.expr_ops.specs.Slots.{Aim, expression_aims}
use Rattle.expr_ops.specs.Slots.Aim.{Place, Length}
use Rattle.expr_ops.proofs.Levels.{expression_once}
use Rattle.expr_ops.proofs.Reaches.{narrow_wide}
use Rattle.list_model.specs.declared.entry.ListKind.TheVariants.{Locations}
use Rattle.form_codec.specs.declared.value.Value.{Value}
use Rattle.entry_arena.specs.Arena.{Arena, with_values}
use Rattle.entry_arena.specs.Order.{IsInOrder}
use Rattle.unit_write.specs.declared.places.Places.{Places}
use Rattle.unit_write.specs.declared.slots.ListSlot.{ListSlot}
use Rattle.unit_write.specs.declared.slots.ListSlot.TheVariants.{Length as ListLength, Place as ListPlace}
use Rattle.unit_write.specs.declared.slots.Spot.{Spot}
use Rattle.unit_write.specs.declared.slots.Spot.TheVariants.{Entry as TheEntry, End as TheEnd, Nothing as NoSpot}
use Rattle.unit_write.specs.NewExpressions.{refs_among}
use Rattle.unit_write.specs.Slots.{IsSpotFor, IsSpotPlaced, IsListSlotFor, list_spot}
use Rattle.written_files.specs.Layouts.{AreNumbersOf, AreOwnedLists, list_expressions}
use Rattle.value_links.specs.Lists.{IsOwner, expressions_at}
use Rattle.value_links.specs.Reading.{Linkable, Reading, unit_at, list_at}
use Rattle.value_links.specs.World.{World, Holds}
use Rattle.list_lookup.specs.Owned.{IsOwnedBy, AreOwnedIn}
use Rattle.rewriter.specs.declared.tables.NewTable.{NewTable}
use Rattle.rewriter.specs.declared.new_places.NewPlaces.{NewPlaces}
use Rattle.rewriter.specs.inside.Numbers.{IsNewExpression}
use Rattle.rewriter.specs.inside.Owned.{AreListAims}
use Rattle.rewriter.specs.inside.Placed.{PlacesAnew, places_at}
use Rattle.rewriter.specs.inside.Follows.{AreReadAnew}
use Rattle.rewriter.proofs.Links.{some_of}
use Rattle.rewriter.proofs.ListExpressionsAnew.{owner_once, each_anew}
use Rattle.rewriter.proofs.ListNames.{owner_stays}
use Rattle.rewriter.proofs.MovedLists.{old_at, new_at}
use Rattle.rewriter.proofs.MovedSlots.{AimMoves, zip_append, operations_moved, expression_aims_move}
use Rattle.rewriter.proofs.SpotNumbers.{spot_placed}
use Rattle.rewriter.proofs.Zips.{zip_both}

-- EXPRESSIONS

module _ (r : Linkable) (places : List Places) (u : ℕ) (later : (k : ℕ) → k < length (unit_at r u).forest.entries → (places_at places u).start < slice_index (places_at places u).entries k) where
  abbrev Goes : Aim → Aim → Type 0
  Goes = AimMoves (unit_at r u).forest (places_at places u) (unit_at r u).head.at

  -- what was written of an expression has its operations with new references, so that its slots tell what the old ones told
  slots_go : (os : List Operation) (bytes made : List ℕ) (is : IsNewExpression r places u bytes made) → IsExpression Narrow os bytes → AllZip Goes (expression_aims os) (expression_aims (with_refs (refs_among is.ops is.numbers) (all_meant bytes is.ops)))
  slots_go os bytes made is spelled =
      let same : all_meant bytes is.ops ≡ os = expression_once Wide (all_meant bytes is.ops) os bytes is.spelled (narrow_wide os bytes spelled) in
      let news : List Operation = with_refs (refs_among is.ops is.numbers) (all_meant bytes is.ops) in
      let moved = operations_moved r places u later bytes is.ops is.numbers is.numbered.count is.numbered.each in
      subst (λ (z : List Operation). AllZip Goes (expression_aims z) (expression_aims news)) same (expression_aims_move r places u later (all_meant bytes is.ops) news moved)

  -- so what was written of some expressions has operations whose slots tell what the old ones told
  pub record AreMade (ops : List (List Operation)) (news : List (List ℕ)) : Type 0 where
    pub now : List (List Operation)
    pub spelled : AllZip (IsExpression Wide) now news
    pub go : AllZip (AimMoves (unit_at r u).forest (places_at places u) (unit_at r u).head.at) (flat_map expression_aims ops) (flat_map expression_aims now)

  made_of : (ops : List (List Operation)) (olds news : List (List ℕ)) → AllZip (IsExpression Narrow) ops olds → AllZip (IsNewExpression r places u) olds news → AreMade ops news
  made_of [] [] [] spelled zip = record { now = []; spelled = tt; go = tt }
  made_of [] [] (m ∷ ms) spelled zip = absurd zip
  made_of [] (b ∷ bs) news spelled zip = absurd spelled
  made_of (o ∷ os) [] news spelled zip = absurd spelled
  made_of (o ∷ os) (b ∷ bs) [] spelled zip = absurd zip
  made_of (o ∷ os) (b ∷ bs) (m ∷ ms) (first, spelled) (is, zip) =
      let new : List Operation = with_refs (refs_among is.ops is.numbers) (all_meant b is.ops) in
      let rest = made_of os bs ms spelled zip in
      record {
        now = new ∷ rest.now;
        spelled = (is.written.written.expression, rest.spelled);
        go = zip_append Goes (expression_aims o) (flat_map expression_aims os) (expression_aims new) (flat_map expression_aims rest.now) (slots_go o b m is first) rest.go;
      }

-- SPOTS

-- a slot of a list names what its spot is, whatever values the unit has
spot_for : (f : Arena) (values : List Value) (at : ℕ) (aim : Aim) (slot : ListSlot) → IsListSlotFor (with_values f values) at aim slot → IsSpotFor f at aim (list_spot slot)
spot_for f values at (Place form n) (ListPlace kind (TheEntry id)) here = here.1
spot_for f values at (Place form n) (ListPlace kind (TheEnd number)) here = here.1
spot_for f values at (Place form n) (ListPlace kind NoSpot) here = here.1
spot_for f values at (Place form n) (ListLength fixed count) here = absurd here
spot_for f values at (Length fixed count) (ListPlace kind spot) here = absurd here
spot_for f values at (Length fixed count) (ListLength size slots) here = tt

zip_map : (R : Aim → Spot → Type 0) (aims : List Aim) (slots : List ListSlot) → AllZip (λ (aim : Aim) (slot : ListSlot). R aim (list_spot slot)) aims slots → AllZip R aims (map list_spot slots)
zip_map R [] [] zip = tt
zip_map R [] (slot ∷ slots) zip = absurd zip
zip_map R (aim ∷ aims) [] zip = absurd zip
zip_map R (aim ∷ aims) (slot ∷ slots) (first, zip) = (first, zip_map R aims slots zip)

-- what slots of lists tell that have moved are the places of what they name
pub lists_placed : (f : Arena) → IsInOrder f → (values : List Value) (places : PlacesAnew) (at : ℕ) (olds news : List Aim) (slots : List ListSlot) → AllZip (AimMoves f places at) olds news → AllZip (IsListSlotFor (with_values f values) at) olds slots → AllZip (IsSpotPlaced places.start places.entries places.ends) news (map list_spot slots)
lists_placed f order values places at olds news slots moves are =
    zip_map (IsSpotPlaced places.start places.entries places.ends) news slots
    (zip_both (AimMoves f places at) (IsListSlotFor (with_values f values) at) (λ (aim : Aim) (slot : ListSlot). IsSpotPlaced places.start places.entries places.ends aim (list_spot slot)) (λ old new slot goes here. spot_placed f order places at old new (list_spot slot) goes (spot_for f values at old slot here)) olds news slots moves are)

-- NUMBERS

-- where the same is said of each number, the numbers are the same
numbers_alike : (P Q : ℕ → Type 0) (n m : ℕ) (numbers : List ℕ) → n ≡ m → ((k : ℕ) → k < n → P k → Q k) → ((k : ℕ) → k < n → Q k → P k) → AreNumbersOf P n numbers → AreNumbersOf Q m numbers
numbers_alike P Q n m numbers same there back are = record {
  rising = are.rising;
  those = λ i d less. (let one = are.those i d less in (let below = one.0 in omega (arith, below, same), there (get_or numbers i d) one.0 one.1));
  all = λ k below is. (let inside : k < n = omega (arith, below, same) in are.all k inside (back k inside is));
}

-- LISTS

module _ {classes : Classes} {file : List ℕ} {world : World} {tables : List NewTable} {places : List Places} {new_places : NewPlaces} {info abbrevs : List ℕ} {r s : Reading} (all : AreReadAnew classes file world tables places new_places info abbrevs r s) where
  held_count : length world.locations ≡ length r.location_lists
  held_count = (all.holds.lists Locations).count

  -- the unit that is held as the owner of a list is its owner
  was_owner : (u k : ℕ) → k < length r.location_lists → IsOwnedBy world u k → IsOwner r.links Locations (old_at all Locations k) (Some u)
  was_owner u k inside is =
      let some = some_of world.locations k (omega (arith, inside, held_count)) in
      subst (IsOwner r.links Locations (old_at all Locations k)) (is some) ((all.holds.lists Locations).each k some inside).owner

  owner_there : (u k : ℕ) → k < length world.locations → IsOwnedBy world u k → IsOwner s.links Locations (list_at s.location_lists k).at (Some u)
  owner_there u k below is =
      let inside : k < length r.location_lists = omega (arith, below, held_count) in
      owner_stays all Locations k (Some u) inside (was_owner u k inside is)

  owner_back : (u k : ℕ) → k < length world.locations → IsOwner s.links Locations (list_at s.location_lists k).at (Some u) → IsOwnedBy world u k
  owner_back u k below owned d =
      let inside : k < length r.location_lists = omega (arith, below, held_count) in
      let owner : Option ℕ = (get_or world.locations k d).owner in
      let held : IsOwner r.links Locations (old_at all Locations k) owner = ((all.holds.lists Locations).each k d inside).owner in
      owner_once s.links Locations (new_at all Locations k) owner (Some u) (owner_stays all Locations k owner inside held) owned

  -- a unit owns the lists that it owned
  pub owned_there : (u : ℕ) (numbers : List ℕ) → AreOwnedIn world u numbers → AreOwnedLists s u numbers
  owned_there u numbers owns =
      numbers_alike (IsOwnedBy world u) (λ (k : ℕ). IsOwner s.links Locations (list_at s.location_lists k).at (Some u)) (length world.locations) (length s.location_lists) numbers (held_count ∙ sym (all.lists Locations).count) (owner_there u) (owner_back u) owns

  -- their expressions are written anew in it
  expressions_anew : (u : ℕ) (numbers : List ℕ) → All (λ (k : ℕ). (k < length world.locations) × IsOwnedBy world u k) numbers → AllZip (IsNewExpression r.links places u) (list_expressions r numbers) (list_expressions s numbers)
  expressions_anew u [] those = tt
  expressions_anew u (k ∷ ks) those =
      let one : (k < length world.locations) × IsOwnedBy world u k = All-head (λ (n : ℕ). (n < length world.locations) × IsOwnedBy world u n) k ks those in
      let inside : k < length r.location_lists = (let below = one.0 in omega (arith, below, held_count)) in
      zip_append (IsNewExpression r.links places u) (expressions_at r.links Locations (list_at r.location_lists k)) (list_expressions r ks) (expressions_at s.links Locations (list_at s.location_lists k)) (list_expressions s ks) (each_anew all Locations k (Some u) inside (was_owner u k inside one.1)) (expressions_anew u ks (All-tail (λ (n : ℕ). (n < length world.locations) × IsOwnedBy world u n) k ks those))

  -- and their slots tell what they told
  pub lists_made : (u : ℕ) (later : (k : ℕ) → k < length (unit_at r.links u).forest.entries → (places_at places u).start < slice_index (places_at places u).entries k) (numbers : List ℕ) (more : List Aim) → AreOwnedIn world u numbers → AreListAims world numbers more → (ops : List (List Operation)) × (more ≡ flat_map expression_aims ops) × AreMade r.links places u later ops (list_expressions s numbers)
  lists_made u later numbers more owns told =
      let (ops, spelled, same) = told r (subst (λ (z : List ℕ). Holds z world r) (sym all.holds.image) all.holds) in
      (ops, same, made_of r.links places u later ops (list_expressions r numbers) (list_expressions s numbers) spelled (expressions_anew u numbers owns.those))

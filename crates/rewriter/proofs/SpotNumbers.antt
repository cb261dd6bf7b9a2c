-- Each slot of a unit that is written anew tells the new place of what it named.
use Rattle.std.proofs.Common.{◌≡◌, ◌≤◌, ◌<◌, ◌+◌, ◌∙◌, inl, inr, ℕ, zero, suc, List, [], length, sym, ap, subst, refl, arith}
use Rattle.std.specs.Prelude.{slice_index}
use Rattle.std.specs.List.{AllZip}
use Rattle.std.proofs.lemmas.Bool.{cases_lt}
use Rattle.dw_base.specs.declared.fault.Reach.{Reach}
use Rattle.expr_ops.specs.Expressions.{Operation}
use Rattle.expr_ops.specs.Slots.{Aim, expression_aims}
use Rattle.expr_ops.specs.Slots.Aim.{Place, Length}
use Rattle.form_codec.specs.declared.value.Value.{Value}
use Rattle.form_codec.specs.Forms.{Meaning}
use Rattle.form_codec.specs.Forms.Meaning.{Expression, InUnit, InSection, SectionPlace}
use Rattle.entry_arena.specs.Arena.{Arena, with_values, chain_end_at, value_at}
use Rattle.entry_arena.specs.Operations.{HeldOps, ops_of, for_value}
use Rattle.entry_arena.specs.Order.{IsInOrder}
use Rattle.entry_read.specs.Slots.{value_aims, aims_before, aims_of, meaning_at, expression_bytes, operations_in}
use Rattle.entry_read.specs.Units.{HeadAndForest}
use Rattle.entry_read.proofs.OwnerLaws.{values_belong}
use Rattle.entry_read.proofs.PlaceLaws.{units_lie}
use Rattle.unit_write.specs.declared.places.Places.{Places}
use Rattle.unit_write.specs.declared.slots.Spot.{Spot}
use Rattle.unit_write.specs.declared.slots.Spot.TheVariants.{Entry as TheEntry, End as TheEnd, Nothing as NoSpot}
use Rattle.unit_write.specs.declared.write.NewNumbers.{NewNumbers}
use Rattle.unit_write.specs.NewExpressions.{made_of, operations_anew}
use Rattle.unit_write.specs.Slots.{IsSpotAt, IsSpotFor, IsSpotPlaced, spot_place, aims_anew, AreSpotsOf, AreSpotNumbers}
use Rattle.unit_write.specs.Values.{renewed}
use Rattle.value_links.specs.Sections.{debug_info, debug_abbrev}
use Rattle.value_links.specs.Reading.{UnitRead, Linkable, Reading, declarations, unit_at, IsUnitRead}
use Rattle.value_links.specs.World.{World, head_and_forest, operations_at, Holds, IsWorldOf}
use Rattle.value_links.proofs.EntryValues.{value_stands}
use Rattle.value_links.proofs.Targets.{entry_once, never_both}
use Rattle.rewriter.specs.declared.tables.NewTable.{NewTable}
use Rattle.rewriter.specs.declared.new_places.NewPlaces.{NewPlaces}
use Rattle.rewriter.specs.inside.Placed.{PlacesAnew, places_at, written_in, AreTaken, IsPlacedBy}
use Rattle.rewriter.specs.inside.Taken.{IsTakenFrom}
use Rattle.rewriter.specs.inside.Numbers.{MovesTo, IsNewValue, AreNewNumbers}
use Rattle.rewriter.proofs.Arranged.{placed_behind}
use Rattle.rewriter.proofs.Final.{unit_reads}
use Rattle.rewriter.proofs.MovedSlots.{AimMoves, zip_append, operations_moved, expression_aims_move}
use Rattle.rewriter.proofs.NewExpressions.{expression_span}
use Rattle.rewriter.proofs.Standing.{held_unit}
use Rattle.rewriter.proofs.TakenLaws.{taken_count, read_expr}
use Rattle.rewriter.proofs.Zips.{zip_weaker, zip_both}

-- of the codes 0 that end chains each stands at a place of its own
end_once : (f : Arena) → IsInOrder f → (i j : ℕ) → i < length f.ends → j < length f.ends → (chain_end_at f.ends i).at ≡ (chain_end_at f.ends j).at → i ≡ j
end_once f order i j i_in j_in same = elim (cases_lt i j) [
  | inl less ↦ absurd (let rising = order.ended.rising i j less j_in in omega (arith, rising, same))
  | inr rest ↦ elim (cases_lt j i) [
    | inl less ↦ absurd (let rising = order.ended.rising j i less i_in in omega (arith, rising, same))
    | inr more ↦ omega arith
  ]
]

-- what moves from the place of what is named is that
spot_moves : (f : Arena) → IsInOrder f → (places : PlacesAnew) (spot : Spot) (old new : ℕ) → IsSpotAt f spot old → MovesTo f places old new → new ≡ spot_place places.entries places.ends spot
spot_moves f order places (TheEntry id) old new here moves = elim moves [
  | inl m ↦ sym m.to ∙ ap (λ (z : ℕ). slice_index places.entries z) (entry_once f order m.id id old (m.inside, m.from) here)
  | inr m ↦ absurd (never_both f order id (chain_end_at f.ends m.number).entry old here (m.number, m.inside, ap (λ (z : ℕ). record { entry = (chain_end_at f.ends m.number).entry; at = z }) m.from))
]
spot_moves f order places NoSpot old new here moves = absurd here
spot_moves f order places (TheEnd number) old new here moves = elim moves [
  | inl m ↦ absurd (never_both f order m.id (chain_end_at f.ends number).entry old (m.inside, m.from) (number, here.0, ap (λ (z : ℕ). record { entry = (chain_end_at f.ends number).entry; at = z }) here.1))
  | inr m ↦ sym m.to ∙ ap (λ (z : ℕ). slice_index places.ends z) (end_once f order m.number number m.inside here.0 (m.from ∙ sym here.1))
]

-- what a slot tells that has moved is the place of what it names
pub spot_placed : (f : Arena) → IsInOrder f → (places : PlacesAnew) (at : ℕ) (old new : Aim) (spot : Spot) → AimMoves f places at old new → IsSpotFor f at old spot → IsSpotPlaced places.start places.entries places.ends new spot
spot_placed f order places at (Place form n) (Place other new) spot moves here = spot_moves f order places spot (at + n) (places.start + new) here moves.1
spot_placed f order places at (Place form n) (Length fixed count) spot moves here = absurd moves
spot_placed f order places at (Length fixed count) (Place form n) spot moves here = absurd moves
spot_placed f order places at (Length fixed count) (Length size number) spot moves here = tt

-- what a slot names is told of entries and codes 0 alone
spot_for : (f : Arena) (values : List Value) (at : ℕ) (aim : Aim) (spot : Spot) → IsSpotFor (with_values f values) at aim spot → IsSpotFor f at aim spot
spot_for f values at (Place form n) (TheEntry id) here = here
spot_for f values at (Place form n) (TheEnd number) here = here
spot_for f values at (Place form n) NoSpot here = here
spot_for f values at (Length fixed count) spot here = here

-- THE VALUES OF A UNIT

-- the unit as it is read, and as it is written
module _ (info abbrevs : List ℕ) (world : World) (r : Linkable) (tables : List NewTable) (places : List Places) (new_places : NewPlaces) (u : ℕ) (new : NewNumbers) (is : IsUnitRead info abbrevs (unit_at r u)) (taken : IsTakenFrom (head_and_forest (unit_at r u)) (written_in world tables u)) (numbered : AreNewNumbers world r tables places new_places u new) (later : (k : ℕ) → k < length (unit_at r u).forest.entries → (places_at places u).start < slice_index (places_at places u).entries k) where
  abbrev held : HeldOps
  held = operations_at world.operations u

  abbrev own : Arena
  own = (written_in world tables u).forest

  abbrev Aims : Aim → Aim → Type 0
  Aims = AimMoves (unit_at r u).forest (places_at places u) (unit_at r u).head.at

  counted : length (written_in world tables u).forest.values ≡ length (unit_at r u).forest.values
  counted = taken_count (head_and_forest (unit_at r u)) (written_in world tables u) taken

  -- a reference within the unit has the number of the new place of what it names
  reference_moves : (k n : ℕ) → k < length (written_in world tables u).forest.values → meaning_at (written_in world tables u).forest k ≡ InUnit n → MovesTo (unit_at r u).forest (places_at places u) ((unit_at r u).head.at + n) ((places_at places u).start + slice_index new.held.items k)
  reference_moves k n inside means =
      let unit : UnitRead = unit_at r u in
      let owned = values_belong info unit.head (declarations unit) unit.forest is.section is.entries in
      let (id, name, place, stands) = value_stands info abbrevs unit is owned k (subst (λ (z : ℕ). k < z) counted inside) in
      subst (λ (m : Meaning). IsNewValue r places new_places u id name m (slice_index new.held.items k) (made_of new.expressions.ends.items new.expressions.bytes.items k)) means (numbered.each id k name (meaning_at (unit_at r u).forest k) place stands)

  -- and the slots of an expression tell what they told
  expression_moves : (k : ℕ) (bytes : List ℕ) → k < length (written_in world tables u).forest.values → meaning_at (written_in world tables u).forest k ≡ Expression bytes → AllZip Aims (expression_aims (operations_in (written_in world tables u).forest (operations_at world.operations u) k)) (expression_aims (operations_anew (written_in world tables u).forest (operations_at world.operations u) numbered.op_numbers k))
  expression_moves k bytes inside means =
      let (span, at, _) = expression_span own.section (value_at own.values k) bytes (sym means) in
      let was = read_expr (head_and_forest (unit_at r u)) (written_in world tables u) taken k span (record { inside = inside; is = at }) in
      let are = numbered.references k span was in
      let outer : List ℕ = expression_bytes (meaning_at own k) in
      let moved = operations_moved r places u later outer (ops_of held k) (for_value held numbered.op_numbers k) are.count are.each in
      expression_aims_move r places u later (operations_in own held k) (operations_anew own held numbered.op_numbers k) moved

  value_by : (m : Meaning) (new_number : ℕ) (made : List ℕ) (os news : List Operation) → ((n : ℕ) → m ≡ InUnit n → MovesTo (unit_at r u).forest (places_at places u) ((unit_at r u).head.at + n) ((places_at places u).start + new_number)) → ((bytes : List ℕ) → m ≡ Expression bytes → AllZip Aims (expression_aims os) (expression_aims news)) → AllZip Aims (value_aims m os) (value_aims (renewed new_number made m) news)
  value_by (InUnit n) new_number made os news reference expression = ((refl, reference n refl), tt)
  value_by (Expression bytes) new_number made os news reference expression = expression bytes refl
  value_by (InSection n) new_number made os news reference expression = tt
  value_by (SectionPlace n) new_number made os news reference expression = tt
  value_by m new_number made os news reference expression = tt

  -- those of the first so many values
  pub aims_moved : (k : ℕ) → k ≤ length (written_in world tables u).forest.values → AllZip (AimMoves (unit_at r u).forest (places_at places u) (unit_at r u).head.at) (aims_before (meaning_at (written_in world tables u).forest) (operations_in (written_in world tables u).forest (operations_at world.operations u)) k) (aims_before (λ (n : ℕ). renewed (slice_index new.held.items n) [] (meaning_at (written_in world tables u).forest n)) (operations_anew (written_in world tables u).forest (operations_at world.operations u) numbered.op_numbers) k)
  aims_moved zero inside = tt
  aims_moved (suc k) inside =
      let f : Arena = (written_in world tables u).forest in
      zip_append Aims (aims_before (meaning_at f) (operations_in f held) k) (value_aims (meaning_at f k) (operations_in f held k)) (aims_before (λ (n : ℕ). renewed (slice_index new.held.items n) [] (meaning_at f n)) (operations_anew f held numbered.op_numbers) k) (value_aims (renewed (slice_index new.held.items k) [] (meaning_at f k)) (operations_anew f held numbered.op_numbers k)) (aims_moved k (omega (arith, inside)))
      (value_by (meaning_at f k) (slice_index new.held.items k) [] (operations_in f held k) (operations_anew f held numbered.op_numbers k) (λ n means. reference_moves k n (omega (arith, inside)) means) (λ bytes means. expression_moves k bytes (omega (arith, inside)) means))

  -- what its slots name is named by those of the unit that is read
  named_read : (aims : List Aim) (spots : List Spot) → AllZip (IsSpotFor (written_in world tables u).forest (written_in world tables u).head.at) aims spots → AllZip (IsSpotFor (unit_at r u).forest (unit_at r u).head.at) aims spots
  named_read aims spots named =
      zip_weaker _ _ (spot_for (unit_at r u).forest own.values (unit_at r u).head.at) aims spots (subst (λ (h : HeadAndForest). AllZip (IsSpotFor h.forest h.head.at) aims spots) taken.same named)

  -- so each slot of a unit that is written tells the new place of what it names
  pub read_numbers : (spots : List Spot) → AreSpotsOf (written_in world tables u) (operations_in (written_in world tables u).forest (operations_at world.operations u)) spots → AreSpotNumbers (written_in world tables u).forest (operations_at world.operations u) new.held.items numbered.op_numbers spots (places_at places u).start (places_at places u).entries (places_at places u).ends
  read_numbers spots named =
      let f : Arena = (unit_at r u).forest in
      let lies = units_lie info (unit_at r u).head (declarations (unit_at r u)) f is.section is.entries in
      zip_both Aims (IsSpotFor f (unit_at r u).head.at) (IsSpotPlaced (places_at places u).start (places_at places u).entries (places_at places u).ends) (spot_placed f lies.order (places_at places u) (unit_at r u).head.at) (aims_of own (operations_in own held)) (aims_anew own held new.held.items numbered.op_numbers) spots (aims_moved (length own.values) (omega arith)) (named_read (aims_of own (operations_in own held)) spots named)

-- the entries of a unit that is held stand behind its first byte
pub entries_later : (file : List ℕ) (world : World) (r : Reading) (tables : List NewTable) (places : List Places) (u : ℕ) → Holds file world r → IsPlacedBy world tables u (places_at places u) → (k : ℕ) → k < length (unit_at r.links u).forest.entries → (places_at places u).start < slice_index (places_at places u).entries k
entries_later file world r tables places u holds p =
    subst (λ (h : HeadAndForest). (k : ℕ) → k < length h.forest.entries → (places_at places u).start < slice_index (places_at places u).entries k) (held_unit file world r u holds) (placed_behind (written_in world tables u) _ _ _ _ (places_at places u).start (places_at places u).entries (places_at places u).ends (places_at places u).end p.placed)

-- and its values stand for those that are read
pub taken_read : (file : List ℕ) (world : World) (r : Reading) (tables : List NewTable) (u : ℕ) → Holds file world r → AreTaken world tables → u < length world.units → IsTakenFrom (head_and_forest (unit_at r.links u)) (written_in world tables u)
taken_read file world r tables u holds taken known =
    subst (λ (h : HeadAndForest). IsTakenFrom h (written_in world tables u)) (held_unit file world r u holds) (taken u known)

-- the slots of a unit that is held tell the new places of what they name
pub spot_numbers : (file : List ℕ) (world : World) (reach : Reach) (r : Reading) (tables : List NewTable) (places : List Places) (new_places : NewPlaces) (u : ℕ) (new : NewNumbers) → IsWorldOf world.image reach world → (holds : Holds file world r) → AreTaken world tables → u < length world.units → (numbered : AreNewNumbers world r.links tables places new_places u new) → (p : IsPlacedBy world tables u (places_at places u)) → AreSpotNumbers (written_in world tables u).forest (operations_at world.operations u) new.held.items numbered.op_numbers p.spots (places_at places u).start (places_at places u).entries (places_at places u).ends
spot_numbers file world reach r tables places new_places u new is holds taken known numbered p =
    let read : IsUnitRead (debug_info world.image) (debug_abbrev world.image) (unit_at r.links u) = unit_reads file world r u reach is holds known in
    read_numbers (debug_info world.image) (debug_abbrev world.image) world r.links tables places new_places u new read (taken_read file world r tables u holds taken known) numbered (entries_later file world r tables places u holds p) p.spots p.named

-- The slots of each new unit, and of the location lists that it owns, have the least sizes under which they hold the places of what they
-- name, and the lengths of expressions; and the ranks that were kept show it.
use Rattle.std.proofs.Common.{◌≡◌, ◌≤◌, ◌<◌, ◌+◌, ◌++◌, ◌∙◌, ℕ, zero, suc, List, [], length, sym, ap, subst, refl, arith}
use Rattle.std.specs.Prelude.{map, flat_map, slice_index}
use Rattle.std.specs.List.{AllZip}
use Rattle.std.proofs.lemmas.List.Elements.{AllZip-get_or, length_all_zip}
use Rattle.dw_base.specs.declared.classes.Classes.{Classes}
use Rattle.dw_base.specs.declared.fault.Reach.TheVariants.{Wide}
use Rattle.dw_base.specs.declared.fault.Span.{Span}
use Rattle.leb_codec.specs.Layout.{SlotRow, uleb, row_at, IsLeastLayout, AcceptsLayout}
use Rattle.expr_ops.specs.Expressions.{Operation, IsExpression}
use Rattle.expr_ops.specs.Ops.{all_meant}
use Rattle.expr_ops.specs.Drafts.{with_refs}
use Rattle.expr_ops.specs.Slots.{Aim, expression_aims}
use Rattle.expr_ops.specs.Slots.Aim.{Place, Length}
use Rattle.form_codec.specs.declared.value.Value.{Value}
use Rattle.form_codec.specs.Forms.{Meaning}
use Rattle.form_codec.specs.Forms.Meaning.{Expression, InUnit, InSection, SectionPlace}
use Rattle.form_codec.specs.Values.{bytes_in, meant_in}
use Rattle.abbrev_tables.specs.declared.decl.Spec.{Spec}
use Rattle.abbrev_tables.specs.Listings.{Listing}
use Rattle.entry_arena.specs.declared.entry.Entry.{Entry}
use Rattle.entry_arena.specs.Arena.{value_at}
use Rattle.entry_arena.specs.Operations.{HeldOps, ops_of}
use Rattle.entry_arena.specs.Trees.{listed_to}
use Rattle.entry_read.specs.Expressions.{IsExprAt}
use Rattle.entry_read.specs.Slots.{value_aims, aims_before, aims_of, aim_at, meaning_at, expression_bytes, operations_in, AreValuesBefore, IsRowOf, slots_before}
use Rattle.entry_read.specs.Units.{HeadAndForest}
use Rattle.entry_read.proofs.PlaceLaws.{units_lie}
use Rattle.unit_write.specs.declared.places.Places.{Places}
use Rattle.unit_write.specs.declared.slots.Spot.{Spot}
use Rattle.unit_write.specs.NewExpressions.{made_of, refs_of, operations_anew, AreWrittenShortest}
use Rattle.unit_write.specs.Values.{renewed}
use Rattle.unit_write.specs.Moved.{NewValues, IsMovedEntry, AreMovedValues, IsPlacedAt, new_values}
use Rattle.unit_write.specs.Slots.{spot_place, spot_at, list_spot, IsSpotPlaced, IsListSlotFor, aims_anew, IsLaidOut, AreSpotNumbers}
use Rattle.value_links.specs.Sections.{debug_info, debug_abbrev}
use Rattle.value_links.specs.Reading.{UnitRead, Reading, declarations, unit_at, IsUnitRead}
use Rattle.written_files.specs.Layouts.{place_told, all_aims, list_expressions, AreOwnedLists, HasSlots, HasLayout, HasLeastLayout}
use Rattle.written_files.specs.Certificates.{AreFirstRanks, HaveRanks}
use Rattle.value_links.specs.World.{World, head_and_forest, table_at, operations_at}
use Rattle.rewriter.specs.declared.tables.NewTable.{NewTable}
use Rattle.rewriter.specs.declared.new_places.NewPlaces.{NewPlaces}
use Rattle.rewriter.specs.inside.Tables.{new_table_at}
use Rattle.rewriter.specs.inside.Taken.{IsTakenFrom}
use Rattle.rewriter.specs.inside.Placed.{PlacesAnew, places_at, written_in, IsPlacedBy, AreRanksOf}
use Rattle.rewriter.specs.inside.Units.{IsUnitMoved}
use Rattle.rewriter.specs.inside.Follows.{AreReadAnew}
use Rattle.rewriter.proofs.Meant.{read_unit_at}
use Rattle.rewriter.proofs.NewExpressions.{expression_span}
use Rattle.rewriter.proofs.WideExpressions.{was_expression}
use Rattle.rewriter.proofs.MovedSlots.{AimMoves, zip_append, zip_at, zip_counts}
use Rattle.rewriter.proofs.OwnedAnew.{owned_there, lists_made, lists_placed}
use Rattle.rewriter.proofs.MovedEntries.{taken}
use Rattle.rewriter.proofs.SpotNumbers.{aims_moved, read_numbers, entries_later, taken_read}
use Rattle.rewriter.proofs.Standing.{held_count}
use Rattle.rewriter.proofs.TakenLaws.{taken_shortest}

-- VALUES THAT ARE RENEWED

-- what the slots of a value tell doesn't depend on the bytes of its expression
aims_without : (new : ℕ) (made : List ℕ) (m : Meaning) (os : List Operation) → value_aims (renewed new made m) os ≡ value_aims (renewed new [] m) os
aims_without new made (InUnit n) os = refl
aims_without new made (InSection n) os = refl
aims_without new made (SectionPlace n) os = refl
aims_without new made (Expression bytes) os = refl
aims_without new made m os = refl

-- where the meanings of the first values are such, so are all that they tell
aims_alike : (ms ns : ℕ → Meaning) (ops : ℕ → List Operation) (count : ℕ) → ((k : ℕ) → k < count → value_aims (ms k) (ops k) ≡ value_aims (ns k) (ops k)) → aims_before ms ops count ≡ aims_before ns ops count
aims_alike ms ns ops zero each = refl
aims_alike ms ns ops (suc k) each =
    ap (λ (z : List Aim). z ++ value_aims (ms k) (ops k)) (aims_alike ms ns ops k (λ j less. each j (omega (arith, less)))) ∙ ap (λ (z : List Aim). aims_before ns ops k ++ z) (each k (omega arith))

-- the slots of a unit of a file have the least layout, and these ranks show it
record IsRanked (s : Reading) (u : ℕ) (ranks : List ℕ) : Type 0 where
  pub rows : List SlotRow
  pub sizes : List ℕ
  pub layout : HasLayout s u rows sizes
  pub least : IsLeastLayout rows sizes
  pub ranked : AreFirstRanks rows sizes ranks

-- ONE UNIT

-- a unit that is written anew at its places, where its slots count to these, and what was read for it
module _ (s : Reading) (u : ℕ) (read unit : HeadAndForest) (table : Listing) (columns : List Spec) (numbers : List ℕ) (held : HeldOps) (anew : NewValues) (op_numbers : List ℕ) (more : List Aim) (spots more_spots : List Spot) (lens ranks : List ℕ) (start : ℕ) (entries ends : List ℕ) (to : ℕ) (laid : IsLaidOut unit table columns numbers (operations_in unit.forest held) more (spots ++ more_spots) lens ranks) (placed : IsPlacedAt unit table columns numbers lens start entries ends to) (counted : AreSpotNumbers unit.forest held anew.held op_numbers spots start entries ends) (values : AreMovedValues unit.forest anew (unit_at s.links u).forest.section (listed_to (unit_at s.links u).forest 0)) (moved : AllZip (IsMovedEntry numbers) unit.forest.entries (unit_at s.links u).forest.entries) (begins : (unit_at s.links u).head.at ≡ start) (places : map (λ (e : Entry). e.at) (unit_at s.links u).forest.entries ≡ entries) (written : AreWrittenShortest unit.forest held anew.ends op_numbers anew.expressions) (went : PlacesAnew) (follow : (k : ℕ) → k ≤ length unit.forest.values → AllZip (AimMoves read.forest went read.head.at) (aims_before (meaning_at unit.forest) (operations_in unit.forest held) k) (aims_before (λ (n : ℕ). renewed (slice_index anew.held n) [] (meaning_at unit.forest n)) (operations_anew unit.forest held op_numbers) k)) (owned : List ℕ) (owns : AreOwnedLists s u owned) (lists : List (List Operation)) (lists_spelled : AllZip (IsExpression Wide) lists (list_expressions s owned)) (lists_go : AllZip (AimMoves read.forest went read.head.at) more (flat_map expression_aims lists)) (lists_placed : AllZip (IsSpotPlaced start entries ends) (flat_map expression_aims lists) more_spots) where
  abbrev new : UnitRead
  new = unit_at s.links u

  abbrev no_entry : Entry
  no_entry = record { at = 0; len = 0; depth = 0; decl = 0; first = 0; count = 0 }

  abbrev olds : ℕ → List Aim
  olds k = aims_before (meaning_at unit.forest) (operations_in unit.forest held) k

  abbrev news : ℕ → List Aim
  news k = aims_before (meaning_at new.forest) (operations_anew unit.forest held op_numbers) k

  abbrev Goes : Aim → Aim → Type 0
  Goes = AimMoves read.forest went read.head.at

  -- the slots of the first values tell what they tell with the new numbers
  aims_are : (k : ℕ) → k ≤ length unit.forest.values → aims_before (meaning_at new.forest) (operations_anew unit.forest held op_numbers) k ≡ aims_before (λ (n : ℕ). renewed (slice_index anew.held n) [] (meaning_at unit.forest n)) (operations_anew unit.forest held op_numbers) k
  aims_are count inside =
      aims_alike (meaning_at new.forest) (λ (n : ℕ). renewed (slice_index anew.held n) [] (meaning_at unit.forest n)) (operations_anew unit.forest held op_numbers) count (λ k less.
      ap (λ (m : Meaning). value_aims m (operations_anew unit.forest held op_numbers k)) (values.each k (omega (arith, inside, less))) ∙ aims_without (slice_index anew.held k) (made_of anew.ends anew.expressions k) (meaning_at unit.forest k) (operations_anew unit.forest held op_numbers k))

  aims_go : (k : ℕ) → k ≤ length unit.forest.values → AllZip Goes (olds k) (news k)
  aims_go k inside = subst (AllZip Goes (olds k)) (sym (aims_are k inside)) (follow k inside)

  before_still : (k : ℕ) → k ≤ length unit.forest.values → slots_before new.forest (operations_anew unit.forest held op_numbers) k ≡ slots_before unit.forest (operations_in unit.forest held) k
  before_still k inside = sym (zip_counts Goes (olds k) (news k) (aims_go k inside))

  abbrev was : List Aim
  was = aims_of unit.forest (operations_in unit.forest held) ++ more

  abbrev now : List Aim
  now = all_aims new.forest (operations_anew unit.forest held op_numbers) lists

  own_go : AllZip Goes (aims_of unit.forest (operations_in unit.forest held)) (aims_of new.forest (operations_anew unit.forest held op_numbers))
  own_go = subst (λ (n : ℕ). AllZip Goes (olds (length unit.forest.values)) (news n)) (sym values.count) (aims_go (length unit.forest.values) (omega arith))

  all_go : AllZip Goes was now
  all_go = zip_append Goes (aims_of unit.forest (operations_in unit.forest held)) more (aims_of new.forest (operations_anew unit.forest held op_numbers)) (flat_map expression_aims lists) own_go lists_go

  all_still : length now ≡ length was
  all_still = sym (zip_counts Goes was now all_go)

  -- each names its spot
  own_placed : AllZip (IsSpotPlaced start entries ends) (aims_of new.forest (operations_anew unit.forest held op_numbers)) spots
  own_placed =
      let same : aims_of new.forest (operations_anew unit.forest held op_numbers) ≡ aims_anew unit.forest held anew.held op_numbers = ap news values.count ∙ aims_are (length unit.forest.values) (omega arith) in
      subst (λ (z : List Aim). AllZip (IsSpotPlaced start entries ends) z spots) (sym same) counted

  all_placed : AllZip (IsSpotPlaced start entries ends) now (spots ++ more_spots)
  all_placed = zip_append (IsSpotPlaced start entries ends) (aims_of new.forest (operations_anew unit.forest held op_numbers)) (flat_map expression_aims lists) spots more_spots own_placed lists_placed

  -- the entries stand at their new places with the values that they had
  before_there : (place count : ℕ) → AreValuesBefore unit.forest entries place count → AreValuesBefore new.forest (map (λ (e : Entry). e.at) new.forest.entries) place count
  before_there place count before =
      let size = values.count in
      let few = before.few in
      record {
        few = omega (arith, size, few);
        before = λ id inside less. (
            let old : id < length unit.forest.entries = subst (λ (z : ℕ). id < z) (sym (length_all_zip (IsMovedEntry numbers) unit.forest.entries new.forest.entries moved)) inside in
            let e = AllZip-get_or (IsMovedEntry numbers) unit.forest.entries new.forest.entries id no_entry no_entry moved old in
            let first = e.first in
            let values_count = e.count in
            let here = before.before id old (subst (λ (z : List ℕ). slice_index z id < place) places less) in
            omega (arith, first, values_count, here)
            );
        behind = λ id inside more. (
            let old : id < length unit.forest.entries = subst (λ (z : ℕ). id < z) (sym (length_all_zip (IsMovedEntry numbers) unit.forest.entries new.forest.entries moved)) inside in
            let e = AllZip-get_or (IsMovedEntry numbers) unit.forest.entries new.forest.entries id no_entry no_entry moved old in
            let first = e.first in
            let here = before.behind id old (subst (λ (z : List ℕ). place ≤ slice_index z id) places more) in
            omega (arith, first, here)
            );
      }

  -- a slot that tells what an old one told has its row
  row_goes : (i : ℕ) (old now : Aim) (spot : Spot) (row : SlotRow) → Goes old now → IsSpotPlaced start entries ends now spot → IsRowOf unit.forest (operations_in unit.forest held) entries laid.sizes start (spot_place entries ends spot) i old row → IsRowOf new.forest (operations_anew unit.forest held op_numbers) (map (λ (e : Entry). e.at) new.forest.entries) laid.sizes new.head.at (place_told new.head.at now) i now row
  row_goes i (Place form n) (Place other m) spot row goes here is =
      let place : spot_place entries ends spot ≡ new.head.at + m = sym here ∙ ap (λ (z : ℕ). z + m) (sym begins) in
      let number = is.number in
      record {
        form_is = is.form_is ∙ goes.0;
        from = is.from;
        values = is.values;
        before = subst (λ (z : ℕ). AreValuesBefore new.forest (map (λ (e : Entry). e.at) new.forest.entries) z is.values) place (before_there (spot_place entries ends spot) is.values is.before);
        to = is.to ∙ sym (before_still is.values is.before.few);
        number = omega (arith, number, place, begins);
      }
  row_goes i (Place form n) (Length fixed count) spot row goes here is = absurd goes
  row_goes i (Length fixed count) (Place form n) spot row goes here is = absurd goes
  row_goes i (Length fixed count) (Length size slots) spot row goes here is =
      let fixed_is : fixed ≡ size = goes.0 in
      let count_is : count ≡ slots = goes.1 in
      is ∙ ap (λ (z : ℕ). record { form = uleb; fixed = z; from = suc i; to = suc i + count }) fixed_is ∙ ap (λ (z : ℕ). record { form = uleb; fixed = size; from = suc i; to = suc i + z }) count_is

  row_there : (i : ℕ) → i < length laid.rows → IsRowOf new.forest (operations_anew unit.forest held op_numbers) (map (λ (e : Entry). e.at) new.forest.entries) laid.sizes new.head.at (place_told new.head.at (aim_at now i)) i (aim_at now i) (row_at laid.rows i)
  row_there i inside =
      let old_in : i < length was = subst (λ (z : ℕ). i < z) laid.slots.count inside in
      let new_in : i < length now = subst (λ (z : ℕ). i < z) (sym all_still) old_in in
      row_goes i (aim_at was i) (aim_at now i) (spot_at (spots ++ more_spots) i) (row_at laid.rows i) (zip_at Goes was now i (Length 0 0) (Length 0 0) all_go old_in) (zip_at (IsSpotPlaced start entries ends) now (spots ++ more_spots) i (Length 0 0) _ all_placed new_in) (laid.slots.each laid.sizes lens start entries ends to laid.layout.same_length laid.lens_are placed i inside)

  -- an expression of the unit has its operations with their new references
  spelled_there : (k : ℕ) (span : Span) → IsExprAt new.forest k span → IsExpression Wide (operations_anew unit.forest held op_numbers k) (bytes_in new.forest.section span)
  spelled_there k span is =
      let inside : k < length unit.forest.values = subst (λ (z : ℕ). k < z) values.count is.inside in
      let now : meaning_at new.forest k ≡ Expression (bytes_in new.forest.section span) = ap (meant_in new.forest.section) is.is in
      let (old, meant, made) = was_expression (slice_index anew.held k) (made_of anew.ends anew.expressions k) (bytes_in new.forest.section span) (meaning_at unit.forest k) (sym (values.each k inside) ∙ now) in
      let (old_span, at, _) = expression_span unit.forest.section (value_at unit.forest.values k) old (sym meant) in
      let e = written.each k old_span (record { inside = inside; is = at }) in
      let refs : List ℕ = refs_of held op_numbers k in
      let bytes : bytes_in unit.forest.section old_span ≡ expression_bytes (meaning_at unit.forest k) = sym (ap (λ (v : Value). expression_bytes (meant_in unit.forest.section v)) at) in
      subst (λ (z : List ℕ). IsExpression Wide (with_refs refs (all_meant z (ops_of held k))) (bytes_in new.forest.section span)) bytes (subst (IsExpression Wide (with_refs refs (all_meant (bytes_in unit.forest.section old_span) (ops_of held k)))) made e.written.expression)

  slots_there : HasSlots s u laid.rows laid.sizes
  slots_there = record {
    ops = operations_anew unit.forest held op_numbers;
    spelled = spelled_there;
    owned = owned;
    owns = owns;
    lists = lists;
    lists_spelled = lists_spelled;
    count = laid.slots.count ∙ sym all_still;
    each = laid.layout.same_length;
    slots = row_there;
  }

  layout_there : HasLayout s u laid.rows laid.sizes
  layout_there = record { made = slots_there; sized = laid.tight }

  ranked_there : IsRanked s u ranks
  ranked_there = record { rows = laid.rows; sizes = laid.sizes; layout = layout_there; least = laid.least; ranked = (laid.accepted, laid.first) }

-- ALL UNITS

module _ {classes : Classes} {file : List ℕ} {world : World} {tables : List NewTable} {places : List Places} {new_places : NewPlaces} {info abbrevs : List ℕ} {r s : Reading} (all : AreReadAnew classes file world tables places new_places info abbrevs r s) where
  unit_ranked : (u : ℕ) → u < length r.links.units → (p : IsPlacedBy world tables u (places_at places u)) → IsRanked s u p.ranks
  unit_ranked u inside p =
      let old : HeadAndForest = head_and_forest (unit_at r.links u) in
      let own : HeadAndForest = written_in world tables u in
      let held_in : length world.units ≡ length r.links.units = held_count file world r all.holds in
      let stands : IsTakenFrom old own = taken_read file world r tables u all.holds (taken all) (omega (arith, held_in, inside)) in
      let m : IsUnitMoved world r.links tables places new_places u (unit_at s.links u) = all.units.each u inside in
      let i : ℕ = slice_index world.table_of u in
      let held : HeldOps = operations_at world.operations u in
      let later = entries_later file world r tables places u all.holds p in
      let is : IsUnitRead (debug_info file) (debug_abbrev file) (unit_at r.links u) = read_unit_at file r u all.read.links.units.each inside in
      let lies = units_lie (debug_info file) (unit_at r.links u).head (declarations (unit_at r.links u)) (unit_at r.links u).forest is.section is.entries in
      let (ops, told, made) = lists_made all u later p.owned p.more p.owns p.told in
      let go = subst (λ (z : List Aim). AllZip (AimMoves (unit_at r.links u).forest (places_at places u) (unit_at r.links u).head.at) z (flat_map expression_aims made.now)) (sym told) made.go in
      let listed = subst (λ (h : HeadAndForest). AllZip (IsListSlotFor h.forest h.head.at) p.more p.lists) stands.same p.listed.each in
      let entries = subst (λ (h : HeadAndForest). AllZip (IsMovedEntry (new_table_at tables i).numbers) h.forest.entries (unit_at s.links u).forest.entries) (sym stands.same) m.entries in
      ranked_there s u old own (table_at world.tables i).table (new_table_at tables i).columns (new_table_at tables i).numbers held (new_values m.numbers) m.numbered.op_numbers p.more p.spots (map list_spot p.lists) p.lens p.ranks (places_at places u).start (places_at places u).entries (places_at places u).ends (places_at places u).end
      p.laid_out
      p.placed
      (read_numbers (debug_info file) (debug_abbrev file) world r.links tables places new_places u m.numbers is stands m.numbered later p.spots p.named)
      m.values
      entries
      m.at
      m.entry_places
      (taken_shortest old own stands held m.numbers.expressions.ends.items m.numbered.op_numbers m.numbers.expressions.bytes.items m.numbered.expressions)
      (places_at places u)
      (aims_moved (debug_info file) (debug_abbrev file) world r.links tables places new_places u m.numbers is stands m.numbered later)
      p.owned
      (owned_there all u p.owned p.owns)
      made.now
      made.spelled
      go
      (lists_placed (unit_at r.links u).forest lies.order own.forest.values (places_at places u) (unit_at r.links u).head.at p.more (flat_map expression_aims made.now) p.lists go listed)

  was_inside : (u : ℕ) → u < length s.links.units → u < length r.links.units
  was_inside u inside = subst (λ (z : ℕ). u < z) all.units.count inside

  was_held : (u : ℕ) → u < length s.links.units → u < length world.units
  was_held u inside = let count : length world.units ≡ length r.links.units = held_count file world r all.holds in omega (arith, count, was_inside u inside)

  pub least_layouts : ((u : ℕ) → u < length world.units → IsPlacedBy world tables u (places_at places u)) → (u : ℕ) → u < length s.links.units → HasLeastLayout s u
  least_layouts placed u inside =
      let ranked = unit_ranked u (was_inside u inside) (placed u (was_held u inside)) in
      record { rows = ranked.rows; sizes = ranked.sizes; layout = ranked.layout; least = ranked.least }

  -- the ranks of the records are those of the layouts, whatever is asked of them that these tell
  ranks_by : (Judge : List SlotRow → List ℕ → List ℕ → Type 0) → ((rows : List SlotRow) (sizes ranks : List ℕ) → AreFirstRanks rows sizes ranks → Judge rows sizes ranks) → (records : List ℕ) (are : AreRanksOf world tables places records) → HaveRanks Judge s are.all
  ranks_by Judge tells records are = record {
    count = are.count ∙ held_count file world r all.holds ∙ sym all.units.count;
    each = λ u inside.
        let (placed, same) = are.each u (was_held u inside) in
        let ranked = unit_ranked u (was_inside u inside) placed in
        (ranked.rows, ranked.sizes, ranked.layout, subst (Judge ranked.rows ranked.sizes) same (tells ranked.rows ranked.sizes placed.ranks ranked.ranked));
  }

  pub ranks_there : (records : List ℕ) (are : AreRanksOf world tables places records) → HaveRanks AcceptsLayout s are.all
  ranks_there records are = ranks_by AcceptsLayout (λ rows sizes ranks first. first.0) records are

  pub first_ranks_there : (records : List ℕ) (are : AreRanksOf world tables places records) → HaveRanks AreFirstRanks s are.all
  first_ranks_there records are = ranks_by AreFirstRanks (λ rows sizes ranks first. first) records are

-- A unit that is placed: it has few slots, and has the places that it got.
use Rattle.std.proofs.Common.{◌≡◌, ◌≤◌, ◌<◌, ◌+◌, ◌^◌, ℕ, zero, suc, List, [], ◌∷◌, length, slice_index, inl, inr, sym, ap, refl, subst, arith}
use Rattle.std.specs.Prelude.{map}
use Rattle.std.proofs.lemmas.List.{length-map}
use Rattle.std.proofs.lemmas.Slice.Zip.{AllZip-long}
use Rattle.dw_base.specs.declared.fault.Reach.TheVariants.{Narrow}
use Rattle.spelled.specs.Spelled.{Appends}
use Rattle.leb_codec.specs.Records.{OfLayout, SpellsRecord}
use Rattle.slot_layout.specs.Rows.{most_slots}
use Rattle.expr_ops.specs.Slots.{Aim}
use Rattle.fixed_width.specs.InitialLengths.{least_reserved}
use Rattle.form_codec.specs.declared.value.Value.{Value}
use Rattle.form_codec.specs.declared.value.Value.TheVariants as value
use Rattle.abbrev_tables.specs.Listings.{Listing}
use Rattle.entry_arena.specs.Arena.{Arena, span_of}
use Rattle.entry_arena.specs.Operations.{HeldOps}
use Rattle.entry_arena.specs.Order.{IsInOrder, IsHeld, LendAlike}
use Rattle.entry_arena.proofs.Held.{values_held}
use Rattle.entry_read.specs.declared.head.UnitHead.{UnitHead}
use Rattle.entry_read.specs.Slots.{aims_of, operations_in}
use Rattle.entry_read.specs.Units.{HeadAndForest}
use Rattle.entry_read.proofs.PlaceLaws.{units_lie}
use Rattle.unit_write.specs.declared.places.Places.{Places}
use Rattle.unit_write.specs.declared.slots.ListSlot.{ListSlot}
use Rattle.unit_write.specs.declared.slots.Spot.{Spot}
use Rattle.unit_write.specs.Lens.{AreLensFor}
use Rattle.unit_write.specs.Moved.{IsWritable, IsPlacedAt}
use Rattle.unit_write.specs.Taken.{StandsFor}
use Rattle.unit_write.specs.Slots.{IsSpotFor, AreSpotsOf, AreListSlots, IsLaidOut, all_spots, SlotsFit}
use Rattle.value_links.specs.Sections.{debug_info}
use Rattle.value_links.specs.Reading.{unit_at, declarations}
use Rattle.value_links.specs.World.{World, table_at, operations_at, IsWorldOf}
use Rattle.value_links.specs.declared.units.NamedTable.{NamedTable}
use Rattle.list_lookup.specs.Owned.{AreOwnedIn}
use Rattle.rewriter.specs.declared.tables.NewTable.{NewTable}
use Rattle.rewriter.specs.inside.Tables.{TableAnew, table_anew, new_table_at}
use Rattle.rewriter.specs.inside.Owned.{AreListAims}
use Rattle.rewriter.specs.inside.Taken.{IsTakenFrom}
use Rattle.rewriter.specs.inside.Placed.{unit_in, written_in, operations_for, AreWritable}
use Rattle.rewriter.specs.inside.Held.{HasTable, table_for, IsPlacedFrom}
use Rattle.rewriter.proofs.Standing.{held_unit, has_written}
use Rattle.rewriter.proofs.Final.{unit_reads}
use Rattle.rewriter.proofs.NamedSpots.{ends_few}
use Rattle.rewriter.proofs.TakenLaws.{taken_count, taken_operations}
use Rattle.rewriter.proofs.UnitExpressions.{unit_short, entries_few, values_few}
use Rattle.rewriter.proofs.Zips.{zip_weaker}

-- LENGTHS

no_len : (values : List Value) (k : ℕ) → slice_index (map (λ (v : Value). 0) values) k ≡ 0
no_len [] k = refl
no_len (v ∷ vs) zero = refl
no_len (v ∷ vs) (suc k) = no_len vs k

-- a unit can be written if none of its values has a byte, so that it has tables
pub no_lens : (f : Arena) → AreLensFor f (map (λ (v : Value). 0) f.values)
no_lens f = record {
  each = length-map f.values (λ (v : Value). 0);
  few = λ k span is. omega (arith, no_len f.values k);
  narrow = λ k inside local. omega (arith, no_len f.values k);
}

pub has_tables : (world : World) (tables : List NewTable) (u : ℕ) → IsWorldOf world.image Narrow world → AreWritable world tables → u < length world.units → HasTable world tables u
has_tables world tables u is writable known =
    has_written world tables u (map (λ (v : Value). 0) (written_in world tables u).forest.values) (Narrow, is) writable known (no_lens (written_in world tables u).forest)

-- FEW SLOTS

-- what is written for a value lends the same bytes
stands_lend : (head : UnitHead) (v w : Value) → StandsFor head v w → span_of w ≡ span_of v
stands_lend head (value.SectionRef n) w (inl same) = ap span_of same
stands_lend head (value.SectionRef n) w (inr (m, place, few, same)) = ap span_of same
stands_lend head v w same = ap span_of same

module _ (world : World) (u : ℕ) (written : HeadAndForest) (is : IsWorldOf world.image Narrow world) (known : u < length world.units) (taken : IsTakenFrom (unit_in world.units u) written) where
  in_order : IsInOrder (unit_in world.units u).forest
  in_order =
      let read = unit_reads world.image world is.r u Narrow is is.holds known in
      let order : IsInOrder (unit_at is.r.links u).forest = (units_lie (debug_info world.image) (unit_at is.r.links u).head (declarations (unit_at is.r.links u)) (unit_at is.r.links u).forest read.section read.entries).order in
      subst (λ (h : HeadAndForest). IsInOrder h.forest) (sym (held_unit world.image world is.r u is.holds)) order

  read_held : IsHeld (unit_in world.units u).forest
  read_held =
      let ends = ends_few (unit_in world.units u).forest in_order in
      record {
        order = in_order;
        count = record { entries = omega (arith, entries_few world u is known); values = omega (arith, values_few world u is known); ends = omega (arith, ends, unit_short world u is known) };
      }

  written_order : IsInOrder written.forest
  written_order =
      let alike : LendAlike (unit_in world.units u).forest.values written.forest.values = zip_weaker (StandsFor (unit_in world.units u).head) (λ v w. span_of w ≡ span_of v) (stands_lend (unit_in world.units u).head) (unit_in world.units u).forest.values written.forest.values taken.each in
      subst (λ (h : HeadAndForest). IsInOrder h.forest) (sym taken.same) (values_held (unit_in world.units u).forest written.forest.values read_held alike).order

  -- a unit within the narrow limits has few slots as it is written, with those of its lists
  pub spots_few : (spots : List Spot) (lists : List ListSlot) → SlotsFit → AreSpotsOf written (operations_for world written u) spots → length lists ≤ 2 ^ 24 + 2 ^ 26 → length spots + length lists ≤ most_slots
  spots_few spots lists fit are more =
      let count : length spots ≡ length (aims_of written.forest (operations_for world written u)) = AllZip-long (IsSpotFor written.forest written.head.at) (aims_of written.forest (operations_for world written u)) spots are in
      let few = fit written.forest (operations_at world.operations u) written_order (taken_operations (unit_in world.units u) written taken Narrow (operations_at world.operations u) (is.operations.each u (unit_in [] 0) known)) in
      let section : length written.forest.section ≡ length (unit_in world.units u).forest.section = ap (λ (h : HeadAndForest). length h.forest.section) taken.same in
      omega (arith, count, few, taken_count (unit_in world.units u) written taken, values_few world u is known, section, unit_short world u is known, more)

-- WHAT IS READ OF THE PARTS

module _ (world : World) (tables : List NewTable) (u : ℕ) (unit : HeadAndForest) (operations : HeldOps) (old : NamedTable) (anew : NewTable) (unit_is : unit ≡ written_in world tables u) (operations_are : operations ≡ operations_at world.operations u) (old_is : old ≡ table_at world.tables (slice_index world.table_of u)) (anew_is : table_anew anew ≡ new_table_at tables (slice_index world.table_of u)) where
  -- what holds of the parts that were read holds of those that are held, and the other way round
  back : (P : HeadAndForest → HeldOps → Listing → TableAnew → Type 0) → P unit operations old.table (table_anew anew) → P (written_in world tables u) (operations_at world.operations u) (table_for world u) (new_table_at tables (slice_index world.table_of u))
  back P read =
      subst (P (written_in world tables u) (operations_at world.operations u) (table_for world u)) anew_is (subst (λ (n : NamedTable). P (written_in world tables u) (operations_at world.operations u) n.table (table_anew anew)) old_is (subst (λ (o : HeldOps). P (written_in world tables u) o old.table (table_anew anew)) operations_are (subst (λ (h : HeadAndForest). P h operations old.table (table_anew anew)) unit_is read)))

  there : (P : HeadAndForest → Listing → TableAnew → Type 0) → P (written_in world tables u) (table_for world u) (new_table_at tables (slice_index world.table_of u)) → P unit old.table (table_anew anew)
  there P held =
      subst (λ (h : HeadAndForest). P h old.table (table_anew anew)) (sym unit_is) (subst (λ (n : NamedTable). P (written_in world tables u) n.table (table_anew anew)) (sym old_is) (subst (P (written_in world tables u) (table_for world u)) (sym anew_is) held))

  -- it can be written whatever sizes its slots have
  pub writable_however : AreWritable world tables → u < length world.units → (lens : List ℕ) → AreLensFor unit.forest lens → IsWritable unit old.table anew.columns.items anew.numbers.items lens
  writable_however writable known lens fit =
      there (λ h t n. IsWritable h t n.columns n.numbers lens) (writable u lens known (subst (λ (h : HeadAndForest). AreLensFor h.forest lens) unit_is fit))

  pub spots_there : (spots : List Spot) → AreSpotsOf unit (operations_for world unit u) spots → AreSpotsOf unit (operations_in unit.forest operations) spots
  spots_there spots are = subst (λ (o : HeldOps). AreSpotsOf unit (operations_in unit.forest o) spots) (sym operations_are) are

  -- the layout of the unit's slots and of those of the lists that it owns, with the ranks of its steps
  pub record IsLaid (lens ranks : List ℕ) : Type 0 where
    pub spots : List Spot
    pub named : AreSpotsOf unit (operations_for world unit u) spots
    pub owned : List ℕ
    pub owns : AreOwnedIn world u owned
    pub more : List Aim
    pub told : AreListAims world owned more
    pub lists : List ListSlot
    pub listed : AreListSlots unit more lists
    pub laid_out : IsLaidOut unit old.table anew.columns.items anew.numbers.items (operations_in unit.forest operations) more (all_spots spots lists) lens ranks

  -- a unit that was placed stands at its places
  pub placed_back : (lens ranks : List ℕ) (start : ℕ) (before after : List ℕ) (places : Places) → IsLaid lens ranks → Appends SpellsRecord (OfLayout ranks) before after → places.start ≡ start → places.end < least_reserved → IsPlacedAt unit old.table anew.columns.items anew.numbers.items lens start places.entries.items places.ends.items places.end → IsPlacedFrom world tables u start before after places
  placed_back lens ranks start before after places laid recorded begins fits placed = record {
    begins = begins;
    placed = record {
      spots = laid.spots;
      named = subst (λ (h : HeadAndForest). AreSpotsOf h (operations_for world h u) laid.spots) unit_is laid.named;
      owned = laid.owned;
      owns = laid.owns;
      more = laid.more;
      told = laid.told;
      lists = laid.lists;
      listed = subst (λ (h : HeadAndForest). AreListSlots h laid.more laid.lists) unit_is laid.listed;
      lens = lens;
      ranks = ranks;
      laid_out = back (λ h o t n. IsLaidOut h t n.columns n.numbers (operations_in h.forest o) laid.more (all_spots laid.spots laid.lists) lens ranks) laid.laid_out;
      placed = back (λ h o t n. IsPlacedAt h t n.columns n.numbers lens places.start places.entries.items places.ends.items places.end) (subst (λ (z : ℕ). IsPlacedAt unit old.table anew.columns.items anew.numbers.items lens z places.entries.items places.ends.items places.end) (sym begins) placed);
    };
    fits = fits;
    recorded = recorded;
  }

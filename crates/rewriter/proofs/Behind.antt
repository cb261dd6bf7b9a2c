-- What the writer of a unit asks and gives, said of the unit that is held, its table and its new one.
use Rattle.std.proofs.Common.{◌≡◌, ◌≢◌, ◌≤◌, ◌<◌, ◌+◌, ◌-◌, ◌^◌, ℕ, zero, suc, List, [], ◌∷◌, length, slice_index, ◌∙◌, sym, ap, subst, arith}
use Rattle.dw_base.specs.declared.classes.Classes.{Classes}
use Rattle.dw_base.specs.declared.fault.Reach.TheVariants.{Narrow}
use Rattle.abbrev_tables.specs.Tables.{Declared}
use Rattle.abbrev_tables.specs.Listings.{Listing}
use Rattle.fixed_width.specs.InitialLengths.{least_reserved}
use Rattle.entry_read.specs.Expressions.{HasOperations}
use Rattle.entry_read.specs.Heads.{type_unit}
use Rattle.entry_read.specs.Units.{HeadAndForest, entries_at}
use Rattle.unit_write.specs.declared.places.Places.{Places}
use Rattle.unit_write.specs.declared.write.NewNumbers.{NewNumbers}
use Rattle.unit_write.specs.Placing.{IsRenumbered}
use Rattle.unit_write.specs.NewExpressions.{AreEndsFor, AreWrittenShortest}
use Rattle.unit_write.specs.Lens.{AreLensFor}
use Rattle.unit_write.specs.Moved.{IsWritable, IsPlacedAt, IsWrittenAnew, new_values, lens_anew}
use Rattle.unit_write.specs.Slots.{LayoutsHold}
use Rattle.unit_write.proofs.LensLaws.{lens_fit}
use Rattle.unit_write.proofs.UnitLaws.{placed_order}
use Rattle.value_links.specs.Reading.{Reading, unit_at}
use Rattle.value_links.specs.World.{World, head_and_forest, table_at, operations_at, Holds, IsWorldOf}
use Rattle.value_links.specs.declared.units.NamedTable.{NamedTable}
use Rattle.rewriter.specs.declared.tables.NewTable.{NewTable}
use Rattle.rewriter.specs.declared.new_places.NewPlaces.{NewPlaces}
use Rattle.rewriter.specs.inside.Tables.{TableAnew, table_anew, new_table_at, AreTablesWritten}
use Rattle.rewriter.specs.inside.Placed.{places_at, unit_in, written_in, AreTaken, AreWritable, IsPlacedBy, PlacesFollow, ArePlacesOf}
use Rattle.rewriter.specs.inside.Taken.{IsTakenFrom}
use Rattle.rewriter.specs.inside.Numbers.{AreNewNumbers}
use Rattle.rewriter.specs.inside.Held.{table_for}
use Rattle.rewriter.proofs.Standing.{held_unit}
use Rattle.rewriter.proofs.SpotNumbers.{taken_read, spot_numbers}
use Rattle.rewriter.proofs.TakenLaws.{taken_count, taken_operations, taken_ends, taken_shortest}
use Rattle.rewriter.proofs.UnitExpressions.{section_short}

-- PLACES RISE

abbrev Rise : List Places → Type 0
Rise places = (v : ℕ) → v < length places → (places_at places v).start ≤ (places_at places v).end

rise_later : (p : Places) (places : List Places) → Rise (p ∷ places) → Rise places
rise_later p places rise v inside = rise (suc v) (omega arith)

follow_rises : (places : List Places) (at end : ℕ) → Rise places → PlacesFollow places at end → at ≤ end
follow_rises [] at end rise same = let e : at ≡ end = same in omega arith
follow_rises (p ∷ places) at end rise (first, rest) =
    let here : p.start ≡ at = first in
    let up : p.start ≤ p.end = rise 0 (omega arith) in
    let more : p.end ≤ end = follow_rises places p.end end (rise_later p places rise) rest in
    omega arith

follow_ends : (places : List Places) (at end u : ℕ) → Rise places → PlacesFollow places at end → u < length places → (places_at places u).end ≤ end
follow_ends [] at end u rise same inside = absurd (let b : u < 0 = inside in omega arith)
follow_ends (p ∷ places) at end zero rise (first, rest) inside = follow_rises places p.end end (rise_later p places rise) rest
follow_ends (p ∷ places) at end (suc u) rise (first, rest) inside = follow_ends places p.end end u (rise_later p places rise) rest (omega arith)

pub unit_ends : (world : World) (tables : List NewTable) (places : List Places) (size u : ℕ) → ArePlacesOf world tables places size → u < length world.units → (places_at places u).end < least_reserved
unit_ends world tables places size u are known =
    let count : length places ≡ length world.units = are.count in
    let rise : Rise places = λ v inside.
    let p = (are.each v (let i : v < length places = inside in omega arith)).placed in
    let up : (places_at places v).start + (entries_at (unit_in world.units v).head - (unit_in world.units v).head.at) ≤ (places_at places v).end = placed_order _ 0 ((places_at places v).start + (entries_at (unit_in world.units v).head - (unit_in world.units v).head.at)) p.whole.items (places_at places v).entries (places_at places v).ends (places_at places v).end p.placed in
    omega arith in
    let below : (places_at places u).end ≤ size = follow_ends places 0 size u rise are.follow (omega arith) in
    let small : size < least_reserved = are.small in
    omega arith

-- THE SIZES OF SLOTS

-- as many new numbers as values, and as many ends
module _ (file : List ℕ) (world : World) (r : Reading) (tables : List NewTable) (places : List Places) (new_places : NewPlaces) (u : ℕ) (new : NewNumbers) (is : IsWorldOf world.image Narrow world) (holds : Holds file world r) (taken : AreTaken world tables) (known : u < length world.units) (numbers : AreNewNumbers world r.links tables places new_places u new) where
  taken_there : IsTakenFrom (head_and_forest (unit_at r.links u)) (written_in world tables u)
  taken_there = taken_read file world r tables u holds taken known

  numbers_counted : length new.held.items ≡ length (written_in world tables u).forest.values
  numbers_counted = numbers.count ∙ sym (taken_count (head_and_forest (unit_at r.links u)) (written_in world tables u) taken_there)

  ends_known : AreEndsFor (written_in world tables u).forest new.expressions.ends.items
  ends_known = taken_ends (head_and_forest (unit_at r.links u)) (written_in world tables u) taken_there new.expressions.ends.items numbers.ends_are

  expressions_known : AreWrittenShortest (written_in world tables u).forest (operations_at world.operations u) new.expressions.ends.items numbers.op_numbers new.expressions.bytes.items
  expressions_known = taken_shortest (head_and_forest (unit_at r.links u)) (written_in world tables u) taken_there (operations_at world.operations u) new.expressions.ends.items numbers.op_numbers new.expressions.bytes.items numbers.expressions

  -- the sizes that the new numbers need are such as a unit can be written with
  anew_fits : AreLensFor (written_in world tables u).forest (lens_anew (written_in world tables u).forest (new_values new))
  anew_fits =
      let short : length (unit_in world.units u).forest.section < 2 ^ 32 = section_short world u is known in
      lens_fit (written_in world tables u).forest (new_values new) numbers_counted ends_known.rise.each ends_known (omega (arith, short)) numbers.fit

  -- they are those with which it has its places
  pub placed_with : LayoutsHold → IsPlacedBy world tables u (places_at places u) → IsPlacedAt (written_in world tables u) (table_for world u) (new_table_at tables (slice_index world.table_of u)).columns (new_table_at tables (slice_index world.table_of u)).numbers (lens_anew (written_in world tables u).forest (new_values new)) (places_at places u).start (places_at places u).entries (places_at places u).ends (places_at places u).end
  placed_with hold p =
      let operations : HasOperations Narrow (written_in world tables u).forest (operations_at world.operations u) = taken_operations (unit_in world.units u) (written_in world tables u) (taken u known) Narrow (operations_at world.operations u) (is.operations.each u (unit_in [] 0) known) in
      let counts = spot_numbers file world Narrow r tables places new_places u new is holds taken known numbers p in
      let same : lens_anew (written_in world tables u).forest (new_values new) ≡ p.lens = hold (written_in world tables u) (table_for world u) (new_table_at tables (slice_index world.table_of u)).columns (new_table_at tables (slice_index world.table_of u)).numbers (operations_at world.operations u) (new_values new) numbers.op_numbers p.more p.spots p.lists p.lens p.ranks (places_at places u).start (places_at places u).entries (places_at places u).ends (places_at places u).end operations p.named numbers_counted ends_known.rise.each p.laid_out p.placed counts expressions_known in
      subst (λ (lens : List ℕ). IsPlacedAt (written_in world tables u) (table_for world u) (new_table_at tables (slice_index world.table_of u)).columns (new_table_at tables (slice_index world.table_of u)).numbers lens (places_at places u).start (places_at places u).entries (places_at places u).ends (places_at places u).end) (sym same) p.placed

-- WHAT IS READ OF THE PARTS

module _ (world : World) (tables : List NewTable) (u : ℕ) (unit : HeadAndForest) (old : NamedTable) (anew : NewTable) (unit_is : unit ≡ written_in world tables u) (old_is : old ≡ table_at world.tables (slice_index world.table_of u)) (anew_is : table_anew anew ≡ new_table_at tables (slice_index world.table_of u)) where
  -- what holds of the parts that are held holds of those that were read, and the other way round
  there : (P : HeadAndForest → Listing → TableAnew → Type 0) → P (written_in world tables u) (table_for world u) (new_table_at tables (slice_index world.table_of u)) → P unit old.table (table_anew anew)
  there P held =
      subst (λ (h : HeadAndForest). P h old.table (table_anew anew)) (sym unit_is) (subst (λ (n : NamedTable). P (written_in world tables u) n.table (table_anew anew)) (sym old_is) (subst (P (written_in world tables u) (table_for world u)) (sym anew_is) held))

  back : (P : HeadAndForest → Listing → TableAnew → Type 0) → P unit old.table (table_anew anew) → P (written_in world tables u) (table_for world u) (new_table_at tables (slice_index world.table_of u))
  back P read =
      subst (P (written_in world tables u) (table_for world u)) anew_is (subst (λ (n : NamedTable). P (written_in world tables u) n.table (table_anew anew)) old_is (subst (λ (h : HeadAndForest). P h old.table (table_anew anew)) unit_is read))

  abbrev Writes : HeadAndForest → Listing → TableAnew → NewNumbers → ℕ → List ℕ → Type 0
  Writes h t n new start section = (ds : List Declared) → IsRenumbered t n.columns n.numbers ds → IsWrittenAnew h t n.columns n.numbers ds new.table new.type_offset (new_values new) start section

  pub written_there : (new : NewNumbers) (start at : ℕ) (section : List ℕ) → at ≡ start → ((ds : List Declared) → IsRenumbered old.table anew.columns.items anew.numbers.items ds → IsWrittenAnew unit old.table anew.columns.items anew.numbers.items ds new.table new.type_offset (new_values new) at section) → ((ds : List Declared) → IsRenumbered (table_for world u) (new_table_at tables (slice_index world.table_of u)).columns (new_table_at tables (slice_index world.table_of u)).numbers ds → IsWrittenAnew (written_in world tables u) (table_for world u) (new_table_at tables (slice_index world.table_of u)).columns (new_table_at tables (slice_index world.table_of u)).numbers ds new.table new.type_offset (new_values new) start section)
  written_there new start at section start_is writes =
      subst (λ (z : ℕ). Writes (written_in world tables u) (table_for world u) (new_table_at tables (slice_index world.table_of u)) new z section) start_is (back (λ h t n. Writes h t n new at section) writes)

  module _ (file : List ℕ) (r : Reading) (places : List Places) (new_places : NewPlaces) (new : NewNumbers) (is : IsWorldOf world.image Narrow world) (holds : Holds file world r) (taken : AreTaken world tables) (known : u < length world.units) (numbers : AreNewNumbers world r.links tables places new_places u new) where
    pub held_counted : length new.held.items ≡ length unit.forest.values
    held_counted = subst (λ (h : HeadAndForest). length new.held.items ≡ length h.forest.values) (sym unit_is) (numbers_counted file world r tables places new_places u new is holds taken known numbers)

    -- the ends of its expressions are those of the unit
    pub ends_there : AreEndsFor unit.forest new.expressions.ends.items
    ends_there = subst (λ (h : HeadAndForest). AreEndsFor h.forest new.expressions.ends.items) (sym unit_is) (ends_known file world r tables places new_places u new is holds taken known numbers)

    pub filled_there : (k : ℕ) → k < length unit.forest.values → slice_index new.expressions.ends.items k ≤ length new.expressions.bytes.items
    filled_there = subst (λ (h : HeadAndForest). (k : ℕ) → k < length h.forest.values → slice_index new.expressions.ends.items k ≤ length new.expressions.bytes.items) (sym unit_is) (expressions_known file world r tables places new_places u new is holds taken known numbers).all

    pub type_none : unit.head.kind ≢ type_unit → new.type_offset ≡ 0
    type_none other =
        let kind : (unit_in world.units u).head.kind ≡ (unit_at r.links u).head.kind = ap (λ (h : HeadAndForest). h.head.kind) (held_unit file world r u holds) in
        numbers.type_at.none (λ same. other (ap (λ (h : HeadAndForest). h.head.kind) unit_is ∙ kind ∙ same))

    pub table_fits : {classes : Classes} → (section : List ℕ) → AreTablesWritten classes world section tables → slice_index world.table_of u < length world.tables → length section < 2 ^ 32 → new.table < 2 ^ 32
    table_fits section written there narrow =
        let inside : (new_table_at tables (slice_index world.table_of u)).at < length section = (written.each (slice_index world.table_of u) there).inside in
        let same : new.table ≡ (new_table_at tables (slice_index world.table_of u)).at = numbers.table_at in
        omega arith

    -- it can be written with the sizes that its new numbers need
    pub writable_anew : AreWritable world tables → IsWritable unit old.table anew.columns.items anew.numbers.items (lens_anew unit.forest (new_values new))
    writable_anew writable =
        there (λ h t n. IsWritable h t n.columns n.numbers (lens_anew h.forest (new_values new))) (writable u (lens_anew (written_in world tables u).forest (new_values new)) known (anew_fits file world r tables places new_places u new is holds taken known numbers))

    -- and stands at its places with them
    pub placed_there : (start end : ℕ) → start ≡ (places_at places u).start → end ≡ (places_at places u).end → IsPlacedAt (written_in world tables u) (table_for world u) (new_table_at tables (slice_index world.table_of u)).columns (new_table_at tables (slice_index world.table_of u)).numbers (lens_anew (written_in world tables u).forest (new_values new)) (places_at places u).start (places_at places u).entries (places_at places u).ends (places_at places u).end → IsPlacedAt unit old.table anew.columns.items anew.numbers.items (lens_anew unit.forest (new_values new)) start (places_at places u).entries (places_at places u).ends end
    placed_there start end start_is end_is placed =
        there (λ h t n. IsPlacedAt h t n.columns n.numbers (lens_anew h.forest (new_values new)) start (places_at places u).entries (places_at places u).ends end) (subst (λ (z : ℕ). IsPlacedAt (written_in world tables u) (table_for world u) (new_table_at tables (slice_index world.table_of u)).columns (new_table_at tables (slice_index world.table_of u)).numbers (lens_anew (written_in world tables u).forest (new_values new)) z (places_at places u).entries (places_at places u).ends end) (sym start_is) (subst (IsPlacedAt (written_in world tables u) (table_for world u) (new_table_at tables (slice_index world.table_of u)).columns (new_table_at tables (slice_index world.table_of u)).numbers (lens_anew (written_in world tables u).forest (new_values new)) (places_at places u).start (places_at places u).entries (places_at places u).ends) (sym end_is) placed))

-- The rows and sizes that were made are those of the slots of a unit as they stand.
use Rattle.std.proofs.Common.{◌≡◌, ◌≤◌, ◌<◌, ◌+◌, ◌^◌, ◌∙◌, inl, inr, ℕ, zero, suc, List, [], ◌∷◌, length, slice_index, sym, ap, subst, arith}
use Rattle.std.specs.List.{AllZip}
use Rattle.std.proofs.lemmas.List.{append-nil, length-append, length-map}
use Rattle.dw_base.specs.declared.fault.Reach.{Reach}
use Rattle.dw_base.specs.declared.fault.Reach.TheVariants.{Wide}
use Rattle.dw_base.specs.declared.fault.Span.{Span}
use Rattle.abbrev_tables.specs.Listings.{Listing}
use Rattle.leb_codec.specs.Layout.{SlotRow, row_at}
use Rattle.slot_layout.specs.declared.slots.Slot.{Slot}
use Rattle.slot_layout.specs.Rows.{row_of, rows_of, most_slots, HasRangesInside, HasFittingFixed, CanHaveSize, CanBeSizes}
use Rattle.expr_ops.specs.Expressions.{Operation, IsExpression}
use Rattle.expr_ops.specs.Slots.{Aim}
use Rattle.expr_ops.specs.Slots.Aim.{Place, Length}
use Rattle.form_codec.specs.Values.{bytes_in}
use Rattle.entry_arena.specs.Arena.{Arena}
use Rattle.entry_arena.specs.Operations.{HeldOps}
use Rattle.entry_read.specs.Expressions.{IsExprAt, HasOperations}
use Rattle.entry_read.specs.Slots.{aims_of, aim_at, operations_in, IsRowOf}
use Rattle.entry_read.specs.Units.{HeadAndForest}
use Rattle.written_files.specs.Layouts.{AreOwnedLists, list_expressions, place_told, all_aims, HasSlots}
use Rattle.value_links.specs.Links.{held_at}
use Rattle.value_links.specs.Reading.{UnitRead, Reading, unit_at}
use Rattle.value_links.specs.Whole.{IsReading}
use Rattle.value_links.specs.World.{World, head_and_forest, table_at, operations_at, Holds, IsWorldOf}
use Rattle.value_links.proofs.ReadingOnce.{reading_once}
use Rattle.unit_slots.specs.declared.spots.Spots.{Spots}
use Rattle.unit_slots.specs.Standing.{AreUnitSizes, HasStandingSlots}
use Rattle.unit_slots.specs.inside.Added.{form_told, CanHaveSizes}
use Rattle.unit_slots.specs.inside.Own.{unit_by, AreStarts, AreOwn}
use Rattle.unit_slots.specs.inside.Rows.{entry_places, HasSpots, AreRows}
use Rattle.unit_slots.specs.inside.Made.{AreMade, AddsLists}
use Rattle.unit_slots.proofs.AddedItems.{zip_length, as_many}
use Rattle.unit_slots.proofs.WorldUnits.{value_spelled, held_same, as_read, operations_there}

-- THE UNIT'S OWN SLOTS

module _ (unit : HeadAndForest) (table : Listing) (operations : HeldOps) (sizes starts : List ℕ) (own : AreOwn (unit_by unit table) operations sizes starts) where
  pub aims_few : length (aims_of unit.forest (operations_in unit.forest operations)) ≤ most_slots
  aims_few =
      let same : length (aims_of unit.forest (operations_in unit.forest operations)) ≡ length sizes = zip_length (λ (aim : Aim) (size : ℕ). CanHaveSize (form_told aim) size) (aims_of unit.forest (operations_in unit.forest operations)) sizes own.can in
      let few : length sizes ≤ most_slots = own.few in
      omega (arith, same, few)

  -- nothing of lists was made yet
  pub own_made : (slots : List Slot) → AreRows unit (operations_in unit.forest operations) sizes (aims_of unit.forest (operations_in unit.forest operations)) slots → AreMade unit (operations_in unit.forest operations) sizes [] [] slots sizes
  own_made slots rows =
      let same : all_aims unit.forest (operations_in unit.forest operations) [] ≡ aims_of unit.forest (operations_in unit.forest operations) = append-nil (aims_of unit.forest (operations_in unit.forest operations)) in
      record {
        whole = sym (append-nil sizes);
        rows = subst (λ (z : List Aim). AreRows unit (operations_in unit.forest operations) sizes z slots) (sym same) rows;
        can = subst (λ (z : List Aim). CanHaveSizes z sizes) (sym same) own.can;
        few = own.few;
      }

-- ALL SLOTS

-- a row has the form that is told
form_same : (f : Arena) (ops : ℕ → List Operation) (entries sizes : List ℕ) (start place i : ℕ) (aim : Aim) (row : SlotRow) → IsRowOf f ops entries sizes start place i aim row → row.form ≡ form_told aim
form_same f ops entries sizes start place i (Place form n) row is = is.form_is
form_same f ops entries sizes start place i (Length fixed count) row is = ap (λ (x : SlotRow). x.form) is

zip_at : (aims : List Aim) (sizes : List ℕ) (i : ℕ) → CanHaveSizes aims sizes → i < length aims → CanHaveSize (form_told (aim_at aims i)) (slice_index sizes i)
zip_at [] sizes i can inside = absurd (omega (arith, inside))
zip_at (aim ∷ aims) [] i can inside = absurd can
zip_at (aim ∷ aims) (size ∷ sizes) zero can inside = can.0
zip_at (aim ∷ aims) (size ∷ sizes) (suc i) can inside = zip_at aims sizes i can.1 (omega (arith, inside))

module _ (unit : HeadAndForest) (held : ℕ → List Operation) (own : List ℕ) (lists : List (List Operation)) (listed : List ℕ) (slots : List Slot) (sizes : List ℕ) (made : AreMade unit held own lists listed slots sizes) where
  counted : length (rows_of slots) ≡ length slots
  counted = length-map slots row_of

  row_stands : (i : ℕ) → i < length (rows_of slots) → IsRowOf unit.forest held (entry_places unit.forest) sizes unit.head.at (place_told unit.head.at (aim_at (all_aims unit.forest held lists) i)) i (aim_at (all_aims unit.forest held lists) i) (row_at (rows_of slots) i)
  row_stands i inside =
      subst (λ (z : List ℕ). IsRowOf unit.forest held (entry_places unit.forest) z unit.head.at (place_told unit.head.at (aim_at (all_aims unit.forest held lists) i)) i (aim_at (all_aims unit.forest held lists) i) (row_at (rows_of slots) i)) (sym made.whole) (made.rows.rows listed i (omega (arith, inside, counted)))

  pub made_few : length slots ≤ most_slots
  made_few =
      let few : length sizes ≤ most_slots = made.few in
      omega (arith, as_many unit held own lists listed slots sizes made, few)

  pub made_inside : HasRangesInside (rows_of slots)
  made_inside i inside =
      let less : i < length slots = omega (arith, inside, counted) in
      let parts : length sizes ≡ length own + length listed = ap length made.whole ∙ length-append own listed in
      let same : length slots ≡ length sizes = as_many unit held own lists listed slots sizes made in (
        made.rows.order i less,
        elim (made.rows.inside i less) [
          | inl low ↦ omega (arith, low, parts, same, counted)
          | inr high ↦ omega (arith, high, counted)
        ],
      )

  pub made_fitting : HasFittingFixed (rows_of slots)
  made_fitting i inside =
      let small : (row_at (rows_of slots) i).fixed < 2 ^ 34 = made.rows.small i (omega (arith, inside, counted)) in
      omega (arith, small)

  pub made_sized : CanBeSizes (rows_of slots) sizes
  made_sized = record {
    each_slot = omega (arith, counted, as_many unit held own lists listed slots sizes made);
    sized = λ i inside.
        let aims : List Aim = all_aims unit.forest held lists in
        let count : length slots ≡ length aims = made.rows.counted in
        let form : (row_at (rows_of slots) i).form ≡ form_told (aim_at aims i) = form_same unit.forest held (entry_places unit.forest) sizes unit.head.at (place_told unit.head.at (aim_at (all_aims unit.forest held lists) i)) i (aim_at (all_aims unit.forest held lists) i) (row_at (rows_of slots) i) (row_stands i inside) in
        subst (λ f. CanHaveSize f (slice_index sizes i)) (sym form) (zip_at aims sizes i made.can (omega (arith, inside, counted, count)));
  }

  -- of a reading that has this unit
  pub made_slots : (s : Reading) (u : ℕ) (owned : List ℕ) → unit ≡ head_and_forest (unit_at s.links u) → ((k : ℕ) (span : Span) → IsExprAt unit.forest k span → IsExpression Wide (held k) (bytes_in unit.forest.section span)) → AreOwnedLists s u owned → AllZip (IsExpression Wide) lists (list_expressions s owned) → HasSlots s u (rows_of slots) sizes
  made_slots s u owned same spelled owns lists_spelled = record {
    ops = held;
    spelled = subst (λ (h : HeadAndForest). (k : ℕ) (span : Span) → IsExprAt h.forest k span → IsExpression Wide (held k) (bytes_in h.forest.section span)) same spelled;
    owned = owned;
    owns = owns;
    lists = lists;
    lists_spelled = lists_spelled;
    count = subst (λ (h : HeadAndForest). length (rows_of slots) ≡ length (all_aims h.forest held lists)) same (counted ∙ made.rows.counted);
    each = omega (arith, counted, as_many unit held own lists listed slots sizes made);
    slots = subst (λ (h : HeadAndForest). (i : ℕ) → i < length (rows_of slots) → IsRowOf h.forest held (entry_places h.forest) sizes h.head.at (place_told h.head.at (aim_at (all_aims h.forest held lists) i)) i (aim_at (all_aims h.forest held lists) i) (row_at (rows_of slots) i)) same row_stands;
  }

-- A UNIT OF A WORLD

-- how many slots stand before each entry, as it is held
pub spots_there : (unit : HeadAndForest) (table : Listing) (operations : HeldOps) (sizes slice starts : List ℕ) (spots : Spots) → AreOwn (unit_by unit table) operations sizes starts → slice ≡ sizes → ((own : HeadAndForest) (ops : ℕ → List Operation) → AreStarts own ops slice starts → HasSpots own ops slice spots) → HasSpots unit (operations_in unit.forest operations) sizes spots
spots_there unit table operations sizes slice starts spots own same has =
    subst (λ (z : List ℕ). HasSpots unit (operations_in unit.forest operations) z spots) same
    (has unit (operations_in unit.forest operations) (subst (λ (z : List ℕ). AreStarts unit (operations_in unit.forest operations) z starts) (sym same) own.begin))

-- all that is said of what was made
pub record IsDone (world : World) (u : ℕ) (slots : List Slot) (sizes : List ℕ) : Type 0 where
  pub stand : (s : Reading) → IsReading world.image s → HasStandingSlots s u (rows_of slots) sizes
  pub few : length slots ≤ most_slots
  pub inside : HasRangesInside (rows_of slots)
  pub fitting : HasFittingFixed (rows_of slots)
  pub sized : CanBeSizes (rows_of slots) sizes

module _ (world : World) (some : (reach : Reach) × IsWorldOf world.image reach world) (u : ℕ) (known : u < length world.units) (unit : HeadAndForest) (table : Listing) (operations : HeldOps) (unit_is : unit ≡ held_at world.units u) (table_is : table ≡ (table_at world.tables (slice_index world.table_of u)).table) (operations_are : operations ≡ operations_at world.operations u) where
  abbrev held : ℕ → List Operation
  held = operations_in unit.forest operations

  module _ (numbers : List ℕ) (owned : (s : Reading) → IsReading world.image s → AreOwnedLists s u numbers) (sizes starts : List ℕ) (own : AreOwn (unit_by unit table) operations sizes starts) (slots new_slots : List Slot) (new_sizes : List ℕ) (rows : AreRows unit (operations_in unit.forest operations) sizes (aims_of unit.forest (operations_in unit.forest operations)) slots) (adds : AddsLists world unit (operations_in unit.forest operations) sizes numbers slots sizes new_slots new_sizes) where
    all : AreMade unit (operations_in unit.forest operations) sizes adds.operations adds.added new_slots new_sizes
    all = adds.made [] [] (own_made unit table operations sizes starts own slots rows)

    stands : (s : Reading) → IsReading world.image s → HasStandingSlots s u (rows_of new_slots) new_sizes
    stands s read =
        let same : some.1.r ≡ s = reading_once world.image some.1.r s some.1.read read in
        let holds : Holds world.image world s = subst (Holds world.image world) same some.1.holds in
        let here : unit ≡ head_and_forest (unit_at s.links u) = unit_is ∙ held_same world some u known ∙ ap (λ (z : Reading). head_and_forest (unit_at z.links u)) same in
        let by_table : unit_by unit table ≡ unit_at s.links u = as_read world some u known unit table operations unit_is table_is operations_are ∙ ap (λ (z : Reading). unit_at z.links u) same in
        let has : HasOperations Wide unit.forest operations = operations_there world some u known unit table operations unit_is table_is operations_are in
        record {
          slots = made_slots unit (operations_in unit.forest operations) sizes adds.operations adds.added new_slots new_sizes all s u numbers here (value_spelled unit.forest operations has) (owned s read) (adds.spelled s holds);
          own = sizes;
          of_unit = subst (λ (z : UnitRead). AreUnitSizes z sizes) by_table own.are;
          owned = numbers;
          owns = owned s read;
          listed = adds.added;
          of_lists = adds.are s holds;
          stand = all.whole;
          can = made_sized unit (operations_in unit.forest operations) sizes adds.operations adds.added new_slots new_sizes all;
        }

    pub done : IsDone world u new_slots new_sizes
    done = record {
      stand = stands;
      few = made_few unit (operations_in unit.forest operations) sizes adds.operations adds.added new_slots new_sizes all;
      inside = made_inside unit (operations_in unit.forest operations) sizes adds.operations adds.added new_slots new_sizes all;
      fitting = made_fitting unit (operations_in unit.forest operations) sizes adds.operations adds.added new_slots new_sizes all;
      sized = made_sized unit (operations_in unit.forest operations) sizes adds.operations adds.added new_slots new_sizes all;
    }

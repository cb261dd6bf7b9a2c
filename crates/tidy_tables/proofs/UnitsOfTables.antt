-- The units that are listed for a table are those that have it, and what a world says of them.
use Rattle.std.proofs.Common.{◌≡◌, ◌≢◌, ◌≤◌, ◌<◌, ◌+◌, ◌^◌, ◌∙◌, inl, inr, ℕ, zero, suc, List, [], ◌∷◌, ◌++◌, length, take, get_or, eqb, sym, ap, refl, subst, arith}
use Rattle.std.specs.Prelude.{map}
use Rattle.std.specs.List.{All, sum_by}
use Rattle.std.proofs.lemmas.Bool.{cases_lt, cond_both, eqb-true}
use Rattle.std.proofs.lemmas.List.{get_or-map, length-map, take_all}
use Rattle.std.proofs.lemmas.List.Elements.{All-nil, All-push, All-get_or, All-from_get_or}
use Rattle.std.proofs.lemmas.List.Sums.{sum_by_push, sum_by_more, sum_by-cons}
use Rattle.abbrev_tables.specs.Listings.{Listing}
use Rattle.entry_read.specs.Units.{HeadAndForest, declarations_of, IsTable, IsUnitHeld}
use Rattle.value_links.specs.declared.units.NamedTable.{NamedTable}
use Rattle.value_links.specs.Sections.{debug_info, debug_abbrev}
use Rattle.value_links.specs.Reading.{UnitRead, Reading, unit_among, no_unit, IsUnitRead}
use Rattle.value_links.specs.Whole.{IsReading}
use Rattle.value_links.specs.World.{World, Holds, head_and_forest, table_at, named_by}
use Rattle.value_links.proofs.HeldUnits.{few_units}
use Rattle.tidy_tables.specs.inside.TableNamers.{unit_in, units_with, entry_count, entries_of, AreOfTable, AreUnitsOf}

-- LISTED UNITS

-- a unit among so many that has the table with a number
abbrev Has : List ℕ → ℕ → ℕ → ℕ → Type 0
Has table_of i most u = (u < most) × (get_or table_of u 0 ≡ i)

-- each of those that are listed has the table
all_have : (table_of : List ℕ) (i most n : ℕ) → n ≤ most → All (Has table_of i most) (units_with table_of i n)
all_have table_of i most zero few = All-nil (Has table_of i most)
all_have table_of i most (suc n) few =
    let before = all_have table_of i most n (omega arith) in
    cond_both (eqb (get_or table_of n 0) i) (units_with table_of i n ++ n ∷ []) (units_with table_of i n) (λ (us : List ℕ). All (Has table_of i most) us)
    (λ same. All-push (Has table_of i most) (units_with table_of i n) n before (omega arith, eqb-true (get_or table_of n 0) i same))
    (λ _. before)

-- they have no more entries than all units
few_entries : (units : List HeadAndForest) (table_of : List ℕ) (i n : ℕ) → n ≤ length units → sum_by (entries_of units) (units_with table_of i n) ≤ sum_by entry_count (take n units)
few_entries units table_of i zero few = omega arith
few_entries units table_of i (suc n) few =
    let us : List ℕ = units_with table_of i n in
    let before : sum_by (entries_of units) us ≤ sum_by entry_count (take n units) = few_entries units table_of i n (omega arith) in
    let next : n + 1 ≡ suc n = omega arith in
    let more : sum_by entry_count (take (n + 1) units) ≡ sum_by entry_count (take n units) + entry_count (unit_in units n) = sum_by_more entry_count units n (unit_in [] 0) (omega arith) in
    let all : sum_by entry_count (take (suc n) units) ≡ sum_by entry_count (take n units) + entry_count (unit_in units n) = subst (λ (m : ℕ). sum_by entry_count (take m units) ≡ sum_by entry_count (take n units) + entry_count (unit_in units n)) next more in
    cond_both (eqb (get_or table_of n 0) i) (us ++ n ∷ []) us (λ (ns : List ℕ). sum_by (entries_of units) ns ≤ sum_by entry_count (take (suc n) units))
    (λ _. omega (arith, sum_by_push (entries_of units) us n, before, all))
    (λ _. omega (arith, before, all))

-- what is asked of the units whose columns are gathered
pub units_of_table : (units : List HeadAndForest) (table : NamedTable) (section table_of : List ℕ) (i : ℕ) → AreOfTable units table section table_of i → AreUnitsOf units table.table (units_with table_of i (length units)) section
units_of_table units table section table_of i of =
    let us : List ℕ = units_with table_of i (length units) in
    let have : All (Has table_of i (length units)) us = all_have table_of i (length units) (length units) (omega arith) in
    let at : (n : ℕ) → n < length us → Has table_of i (length units) (get_or us n 0) = λ n below. All-get_or (Has table_of i (length units)) us n 0 below have in
    record {
      known = λ n below. (at n below).0;
      held = λ n below. of.held (get_or us n 0) (at n below).0 (at n below).1;
      lent = λ n below. of.lent (get_or us n 0) (at n below).0 (at n below).1;
      few = omega (arith, few_entries units table_of i (length units) (omega arith), ap (sum_by entry_count) (take_all (length units) units (omega arith)), of.few);
    }

-- THE UNITS OF A WORLD

sum_by-map : {X Y : Type 0} (f : Y → ℕ) (g : X → Y) (xs : List X) → sum_by f (map g xs) ≡ sum_by (λ (x : X). f (g x)) xs
sum_by-map f g [] = refl
sum_by-map {X} f g (x ∷ xs) = sum_by-cons f (g x) (map g xs) ∙ ap (λ (n : ℕ). f (g x) + n) (sum_by-map f g xs) ∙ sym (sum_by-cons (λ (y : X). f (g y)) x xs)

module _ (world : World) (r : Reading) (read : IsReading world.image r) (holds : Holds world.image world r) where
  abbrev units_read : List UnitRead
  units_read = r.links.units

  pub unit_count : length world.units ≡ length r.links.units
  unit_count = ap length holds.units ∙ length-map units_read head_and_forest

  unit_is : (u : ℕ) → u < length world.units → unit_in world.units u ≡ head_and_forest (unit_among r.links.units u)
  unit_is u below = ap (λ (units : List HeadAndForest). unit_in units u) holds.units ∙ get_or-map head_and_forest units_read u no_unit (unit_in [] 0) (omega (arith, below, unit_count))

  read_at : (u : ℕ) → u < length r.links.units → IsUnitRead (debug_info world.image) (debug_abbrev world.image) (unit_among r.links.units u)
  read_at u inside = All-get_or (IsUnitRead (debug_info world.image) (debug_abbrev world.image)) units_read u no_unit inside read.links.units.each

  place_at : (u : ℕ) → u < length world.units → (unit_in world.units u).head.table ≡ (table_at world.tables (get_or world.table_of u 0)).place
  place_at u below = ap (λ (x : HeadAndForest). x.head.table) (unit_is u below) ∙ sym (ap (λ (t : NamedTable). t.place) (holds.tables.each u (omega (arith, below, unit_count))))

  -- the numbers of tables
  pub numbers_inside : All (λ (number : ℕ). number < length world.tables) world.table_of
  numbers_inside = All-from_get_or (λ (number : ℕ). number < length world.tables) world.table_of 0 (λ u below. holds.tables.inside u (omega (arith, below, holds.tables.count)))

  pub few_numbers : length world.table_of < 2 ^ 32
  few_numbers = omega (arith, few_units (debug_info world.image) (debug_abbrev world.image) r.links.units read.links.units, holds.tables.count)

  table_known : (i : ℕ) → i < length world.tables → IsTable (table_at world.tables i).table
  table_known i below =
      let named = holds.tables.named i below in
      let u : ℕ = named.0 in
      let same : table_at world.tables i ≡ named_by (unit_among units_read u) = ap (table_at world.tables) (sym named.2) ∙ holds.tables.each u named.1 in
      let stands : IsTable (unit_among units_read u).table = (debug_abbrev world.image, (unit_among units_read u).head.table, (read_at u named.1).table) in
      subst (λ (t : NamedTable). IsTable t.table) (sym same) stands

  -- the units that have a table
  pub of_table : (i : ℕ) → i < length world.tables → AreOfTable world.units (table_at world.tables i) (debug_info world.image) world.table_of i
  of_table i below = record {
    stands = table_known i below;
    named = λ u inside same. place_at u inside ∙ ap (λ (n : ℕ). (table_at world.tables n).place) same;
    apart = λ u inside other same.
        let known : get_or world.table_of u 0 < length world.tables = holds.tables.inside u (omega (arith, inside, unit_count)) in
        elim (cases_lt (get_or world.table_of u 0) i) [
          | inl less ↦ omega (arith, holds.tables.rising (get_or world.table_of u 0) i less below, place_at u inside, same)
          | inr more ↦
              let past : i < get_or world.table_of u 0 = (let o : get_or world.table_of u 0 ≢ i = other in omega arith) in
              omega (arith, holds.tables.rising i (get_or world.table_of u 0) past known, place_at u inside, same)
        ];
    lent = λ u inside same. ap (λ (x : HeadAndForest). x.forest.section) (unit_is u inside) ∙ (read_at u (omega (arith, inside, unit_count))).section;
    held = λ u inside same.
        let within : u < length units_read = omega (arith, inside, unit_count) in
        let unit : UnitRead = unit_among units_read u in
        let table : unit.table ≡ (table_at world.tables i).table = sym (ap (λ (t : NamedTable). t.table) (holds.tables.each u within)) ∙ ap (λ (n : ℕ). (table_at world.tables n).table) same in
        let held : IsUnitHeld (debug_info world.image) unit.head (declarations_of (table_at world.tables i).table) unit.forest = subst (λ (t : Listing). IsUnitHeld (debug_info world.image) unit.head (declarations_of t) unit.forest) table (read_at u within).entries in
        subst (λ (x : HeadAndForest). IsUnitHeld (debug_info world.image) x.head (declarations_of (table_at world.tables i).table) x.forest) (sym (unit_is u inside)) held;
    few =
        let all : sum_by entry_count world.units ≡ sum_by (λ (u : UnitRead). length u.forest.entries) units_read = ap (sum_by entry_count) holds.units ∙ sum_by-map entry_count head_and_forest units_read in
        omega (arith, all, read.links.units.within.entries);
  }

-- The values of all entries of a unit, and of all units that are listed.
use Rattle.std.proofs.Common.{◌≡◌, ◌≤◌, ◌<◌, ◌+◌, ◌-◌, ◌^◌, ◌∙◌, ℕ, List, [], ◌∷◌, ◌++◌, length, take, drop, get_or, sym, ap, refl, subst, arith}
use Rattle.std.specs.Prelude.{Option, Some, None, IfSome}
use Rattle.std.specs.List.{All, sum_by}
use Rattle.std.proofs.lemmas.List.{length-append, length-drop, length-take-le, take_more, flat_map_more, get_or_default, get_or-take, get_or-drop, append-nil}
use Rattle.std.proofs.lemmas.List.Sums.{sum_by_more_le_part, sum_by-cons}
use Rattle.spelled.specs.Spelled.{AreBytes}
use Rattle.form_codec.specs.declared.value.Value.{Value}
use Rattle.form_codec.specs.Values.{IsValueIn}
use Rattle.abbrev_tables.specs.declared.decl.Decl.{Decl}
use Rattle.abbrev_tables.specs.declared.decl.Spec.{Spec}
use Rattle.abbrev_tables.specs.Tables.{Declared}
use Rattle.abbrev_tables.specs.Listings.{Listing, decl_at, spec_at, declared_in}
use Rattle.column_forms.specs.Tallies.{Tallying}
use Rattle.column_forms.specs.Rows.{AreHere}
use Rattle.column_forms.specs.TableColumns.{IsTallyOf, tally_at, AreTalliesOf, HaveNames, HaveRoomForRow, AddsRow}
use Rattle.entry_arena.specs.declared.entry.Entry.{Entry}
use Rattle.entry_arena.specs.Arena.{entry_at, value_at}
use Rattle.entry_arena.specs.Trees.{declared_at}
use Rattle.entry_read.specs.Units.{HeadAndForest, declarations_of, IsTable, IsUnitHeld}
use Rattle.entry_read.specs.Places.{HaveOwners}
use Rattle.entry_read.proofs.Declarations.{columns_inside, count_same, declared_is}
use Rattle.entry_read.proofs.OwnerLaws.{values_belong}
use Rattle.entry_read.proofs.PlaceLaws.{entry_stands}
use Rattle.unit_write.proofs.Sizing.{valued_between}
use Rattle.rewriter.specs.inside.Placed.{unit_in}
use Rattle.rewriter.specs.inside.Columns.{names_of, values_in_column, values_of_units, with_entries, HaveRoomFor, AddsEntries, AreUnitsOf, AreGathered}
use Rattle.rewriter.proofs.ColumnRows.{row_added, few_values}

-- ROOM

room_of : (section : List ℕ) (name : ℕ) (values : List Value) (tally : Option Tallying) → IsTallyOf section name values tally → length values < 2 ^ 63 → IfSome tally (λ t. t.count < 2 ^ 63)
room_of section name values None is few = tt
room_of section name values (Some t) (named, is) few = omega (arith, is.count, few)

-- where few values are counted there is room for one more
pub has_room : (section : List ℕ) (names : ℕ → ℕ) (values : ℕ → List Value) (tallies : List (Option Tallying)) → AreTalliesOf section names values tallies → ((k : ℕ) → length (values k) < 2 ^ 63) → HaveRoomForRow tallies
has_room section names values tallies tallied few k inside = room_of section (names k) (values k) (tally_at tallies k) (tallied k inside) (few k)

-- the same values by another name
pub tallies_as : (section : List ℕ) (names : ℕ → ℕ) (values others : ℕ → List Value) (tallies : List (Option Tallying)) → ((k : ℕ) → values k ≡ others k) → AreTalliesOf section names values tallies → AreTalliesOf section names others tallies
tallies_as section names values others tallies same tallied k inside = subst (λ (vs : List Value). IsTallyOf section (names k) vs (tally_at tallies k)) (same k) (tallied k inside)

-- AN ENTRY

module _ (table : Listing) (unit : HeadAndForest) (known : IsTable table) (held : IsUnitHeld unit.forest.section unit.head (declarations_of table) unit.forest) (id : ℕ) (inside : id < length unit.forest.entries) where
  abbrev e : Entry
  e = entry_at unit.forest.entries id

  abbrev values : List Value
  values = unit.forest.values

  owners : HaveOwners (declarations_of table) unit.forest
  owners = values_belong unit.forest.section unit.head (declarations_of table) unit.forest refl held

  -- it has a declaration of the table
  pub entry_declared : (entry_at unit.forest.entries id).decl < length table.decls
  entry_declared = omega (arith, owners.declared id inside, count_same table)

  -- and a value for each of its columns
  pub entry_counted : (entry_at unit.forest.entries id).count ≡ (decl_at table.decls (entry_at unit.forest.entries id).decl).count
  entry_counted =
      let d : Decl = decl_at table.decls e.decl in
      let wide : d.first + d.count ≤ length table.specs = columns_inside table e.decl known entry_declared in
      owners.counted id inside ∙ ap (λ (z : Declared). length z.columns) (declared_is table e.decl entry_declared) ∙ length-take-le d.count (drop d.first table.specs) (omega (arith, length-drop d.first table.specs))

  pub entry_columns : (decl_at table.decls (entry_at unit.forest.entries id).decl).first + (entry_at unit.forest.entries id).count ≤ length table.specs
  entry_columns = omega (arith, entry_counted, columns_inside table e.decl known entry_declared)

  pub entry_values : (entry_at unit.forest.entries id).first + (entry_at unit.forest.entries id).count ≤ length unit.forest.values
  entry_values = owners.inside id inside

  -- they are values of the section
  pub entry_here : AreBytes unit.forest.section → length unit.forest.section < 2 ^ 63 → AreHere unit.forest.section (take (entry_at unit.forest.entries id).count (drop (entry_at unit.forest.entries id).first unit.forest.values))
  entry_here small few k below =
      let s = entry_stands unit.forest.section unit.head (declarations_of table) unit.forest refl held id inside in
      let all : All (IsValueIn unit.forest.section) (take e.count (drop e.first values)) = valued_between unit.forest.section small (declared_at (declarations_of table) e.decl).columns (take e.count (drop e.first values)) s.values_at (e.at + e.len) s.valued in
      record { value = all k (value_at [] 0) below; fits = few }

  -- the columns of its declaration are so many of the table
  pub entry_names : (first : ℕ) → first ≡ (decl_at table.decls (entry_at unit.forest.entries id).decl).first → (columns : List Spec) → columns ≡ (declared_in table.specs (decl_at table.decls (entry_at unit.forest.entries id).decl)).columns → HaveNames (names_of table.specs) first columns
  entry_names first first_is columns columns_are j below =
      let d : Decl = decl_at table.decls e.decl in
      let among : j < length (take d.count (drop d.first table.specs)) = subst (λ (cs : List Spec). j < length cs) columns_are below in
      let wide : d.first + d.count ≤ length table.specs = columns_inside table e.decl known entry_declared in
      let within : j < d.count = omega (arith, length-take-le d.count (drop d.first table.specs) (omega (arith, length-drop d.first table.specs)), among) in
      let there : spec_at (take d.count (drop d.first table.specs)) j ≡ spec_at table.specs (d.first + j) = get_or-take d.count (drop d.first table.specs) j (spec_at [] 0) within ∙ get_or-drop d.first table.specs j (spec_at [] 0) in
      ap (λ (n : ℕ). (spec_at table.specs (n + j)).name) first_is ∙ sym (ap (λ (c : Spec). c.name) there) ∙ sym (ap (λ (cs : List Spec). (spec_at cs j).name) columns_are)

  module _ (old now new : List (Option Tallying)) (adds : AddsEntries (names_of table.specs) table.decls unit (take id unit.forest.entries) old now) where
    -- there is room for its values
    pub entry_room : HaveRoomFor (names_of table.specs) unit.forest.section old (length unit.forest.entries) → HaveRoomForRow now
    entry_room room =
        let done : List Entry = take id unit.forest.entries in
        let size : length done ≡ id = length-take-le id unit.forest.entries (omega arith) in
        has_room unit.forest.section (names_of table.specs) (with_entries table.decls values done room.before) now (adds.added room.before room.tallied) (λ k. omega (arith, length-append (room.before k) (values_in_column table.decls values done k), few_values table.decls values done k, room.few k, size, inside))

    -- they are counted
    pub entry_added : length new ≡ length now → AreBytes unit.forest.section → length unit.forest.section < 2 ^ 63 → (row : List Value) → row ≡ take (entry_at unit.forest.entries id).count (drop (entry_at unit.forest.entries id).first unit.forest.values) → (first : ℕ) → first ≡ (decl_at table.decls (entry_at unit.forest.entries id).decl).first → (columns : List Spec) → columns ≡ (declared_in table.specs (decl_at table.decls (entry_at unit.forest.entries id).decl)).columns → ((section : List ℕ) (names : ℕ → ℕ) (before after : ℕ → List Value) → AreHere section row → HaveNames names first columns → AddsRow first row before after → AreTalliesOf section names before now → AreTalliesOf section names after new) → AddsEntries (names_of table.specs) table.decls unit (take (id + 1) unit.forest.entries) old new
    entry_added same small few row row_is first first_is columns columns_are law =
        let done : List Entry = take id unit.forest.entries in
        let more : done ++ e ∷ [] ≡ take (id + 1) unit.forest.entries = sym (take_more unit.forest.entries id (entry_at [] 0) inside) in
        record {
          count = same ∙ adds.count;
          added = λ before tallied.
              let here : AreHere unit.forest.section row = subst (AreHere unit.forest.section) (sym row_is) (entry_here small few) in
              let one : AddsRow first row (with_entries table.decls values done before) (with_entries table.decls values (done ++ e ∷ []) before) = subst (λ (k : ℕ). AddsRow k row (with_entries table.decls values done before) (with_entries table.decls values (done ++ e ∷ []) before)) (sym first_is) (row_added table.decls values e done before row row_is entry_counted entry_values) in
              subst (λ (es : List Entry). AreTalliesOf unit.forest.section (names_of table.specs) (with_entries table.decls values es before) new) more (law unit.forest.section (names_of table.specs) (with_entries table.decls values done before) (with_entries table.decls values (done ++ e ∷ []) before) here (entry_names first first_is columns columns_are) one (adds.added before tallied));
        }

-- the same of lists that are the unit's
module _ (table : Listing) (unit : HeadAndForest) (known : IsTable table) (held : IsUnitHeld unit.forest.section unit.head (declarations_of table) unit.forest) (entries : List Entry) (entries_are : entries ≡ unit.forest.entries) (id : ℕ) (below : id < length entries) where
  pub inside_unit : id < length unit.forest.entries
  inside_unit = subst (λ (es : List Entry). id < length es) entries_are below

  pub declared_read : (entry_at entries id).decl < length table.decls
  declared_read = subst (λ (es : List Entry). (entry_at es id).decl < length table.decls) (sym entries_are) (entry_declared table unit known held id inside_unit)

  pub first_read : (d : Decl) → d ≡ decl_at table.decls (entry_at entries id).decl → d.first ≡ (decl_at table.decls (entry_at unit.forest.entries id).decl).first
  first_read d d_is = ap (λ (z : Decl). z.first) (d_is ∙ ap (λ (es : List Entry). decl_at table.decls (entry_at es id).decl) entries_are)

  pub declared_as : (columns : List Spec) → columns ≡ (declared_in table.specs (decl_at table.decls (entry_at entries id).decl)).columns → columns ≡ (declared_in table.specs (decl_at table.decls (entry_at unit.forest.entries id).decl)).columns
  declared_as columns columns_are = columns_are ∙ ap (λ (es : List Entry). (declared_in table.specs (decl_at table.decls (entry_at es id).decl)).columns) entries_are

  module _ (values : List Value) (values_are : values ≡ unit.forest.values) (row : List Value) (row_is : row ≡ take ((entry_at entries id).first + (entry_at entries id).count - (entry_at entries id).first) (drop (entry_at entries id).first values)) where
    pub row_read : row ≡ take (entry_at unit.forest.entries id).count (drop (entry_at unit.forest.entries id).first unit.forest.values)
    row_read =
        let e : Entry = entry_at entries id in
        let count : e.first + e.count - e.first ≡ e.count = omega arith in
        row_is
        ∙ ap (λ (n : ℕ). take n (drop e.first values)) count
        ∙ ap (λ (vs : List Value). take e.count (drop e.first vs)) values_are
        ∙ ap (λ (es : List Entry). take (entry_at es id).count (drop (entry_at es id).first unit.forest.values)) entries_are

    row_size : length row ≡ (entry_at unit.forest.entries id).count
    row_size =
        let e : Entry = entry_at unit.forest.entries id in
        ap length row_read ∙ length-take-le e.count (drop e.first unit.forest.values) (omega (arith, length-drop e.first unit.forest.values, entry_values table unit known held id inside_unit))

    -- as many values as columns
    pub width_read : (columns : List Spec) → columns ≡ (declared_in table.specs (decl_at table.decls (entry_at entries id).decl)).columns → length columns ≡ length row
    width_read columns columns_are =
        let e : Entry = entry_at unit.forest.entries id in
        let d : Decl = decl_at table.decls e.decl in
        let size : length (take d.count (drop d.first table.specs)) ≡ d.count = length-take-le d.count (drop d.first table.specs) (omega (arith, length-drop d.first table.specs, columns_inside table e.decl known (entry_declared table unit known held id inside_unit))) in
        ap length (declared_as columns columns_are) ∙ size ∙ sym (entry_counted table unit known held id inside_unit) ∙ sym row_size

    pub columns_read : (d : Decl) → d ≡ decl_at table.decls (entry_at entries id).decl → (width : ℕ) → width ≡ length table.specs → d.first + length row ≤ width
    columns_read d d_is width wide =
        omega (arith, row_size, first_read d d_is, entry_columns table unit known held id inside_unit, wide)

pub entries_none : (names : ℕ → ℕ) (decls : List Decl) (unit : HeadAndForest) (tallies : List (Option Tallying)) → AddsEntries names decls unit [] tallies tallies
entries_none names decls unit tallies = record {
  count = refl;
  added = λ before tallied. tallies_as unit.forest.section names before (with_entries decls unit.forest.values [] before) tallies (λ k. sym (append-nil (before k))) tallied;
}

-- ALL UNITS

abbrev pub entries_of : List HeadAndForest → ℕ → ℕ
entries_of units u = length (unit_in units u).forest.entries

-- no column has more values than there are entries
pub few_in_units : (units : List HeadAndForest) (decls : List Decl) (named : List ℕ) (k : ℕ) → length (values_of_units units decls named k) ≤ sum_by (entries_of units) named
few_in_units units decls [] k = omega arith
few_in_units units decls (u ∷ named) k =
    let own : List Value = values_in_column decls (unit_in units u).forest.values (unit_in units u).forest.entries k in
    let rest : length (values_of_units units decls named k) ≤ sum_by (entries_of units) named = few_in_units units decls named k in
    omega (arith, length-append own (values_of_units units decls named k), few_values decls (unit_in units u).forest.values (unit_in units u).forest.entries k, rest, sum_by-cons (entries_of units) u named)

module _ (units : List HeadAndForest) (table : Listing) (named : List ℕ) (section : List ℕ) (are : AreUnitsOf units table named section) (n : ℕ) (inside : n < length named) (u : ℕ) (u_is : u ≡ get_or named n 0) where
  pub unit_known : u < length units
  unit_known = subst (λ (z : ℕ). z < length units) (sym u_is) (are.known n inside)

  module _ (unit : HeadAndForest) (unit_is : unit ≡ get_or units u unit) where
    unit_there : unit_in units u ≡ unit
    unit_there = get_or_default units u (unit_in [] 0) unit unit_known ∙ sym unit_is

    pub at_number : unit_in units (get_or named n 0) ≡ unit
    at_number = ap (unit_in units) (sym u_is) ∙ unit_there

    pub unit_lent : unit.forest.section ≡ section
    unit_lent = subst (λ (z : HeadAndForest). z.forest.section ≡ section) at_number (are.lent n inside)

    pub unit_held : IsUnitHeld unit.forest.section unit.head (declarations_of table) unit.forest
    unit_held =
        let here : IsUnitHeld section unit.head (declarations_of table) unit.forest = subst (λ (z : HeadAndForest). IsUnitHeld section z.head (declarations_of table) z.forest) at_number (are.held n inside) in
        subst (λ (z : List ℕ). IsUnitHeld z unit.head (declarations_of table) unit.forest) (sym unit_lent) here

    module _ (now new : List (Option Tallying)) (gathered : AreGathered units table named (take n named) now) where
      -- all values of the unit can be counted
      pub unit_room : HaveRoomFor (names_of table.specs) unit.forest.section now (length unit.forest.entries)
      unit_room =
          let most = sum_by_more_le_part (entries_of units) (entries_of units) named n 0 inside (λ (z : ℕ). omega arith) in
          let most' : sum_by (entries_of units) (take n named) + length unit.forest.entries ≤ sum_by (entries_of units) named = subst (λ (z : HeadAndForest). sum_by (entries_of units) (take n named) + length z.forest.entries ≤ sum_by (entries_of units) named) at_number most in
          record {
            before = values_of_units units table.decls (take n named);
            tallied = subst (λ (z : List ℕ). AreTalliesOf z (names_of table.specs) (values_of_units units table.decls (take n named)) now) (sym unit_lent) (gathered.tallied section are);
            few = λ k. omega (arith, few_in_units units table.decls (take n named) k, most', are.few);
          }

      more_units : (k : ℕ) → with_entries table.decls unit.forest.values unit.forest.entries (values_of_units units table.decls (take n named)) k ≡ values_of_units units table.decls (take (n + 1) named) k
      more_units k =
          let values_at : ℕ → List Value = λ (z : ℕ). values_in_column table.decls (unit_in units z).forest.values (unit_in units z).forest.entries k in
          let own : values_in_column table.decls unit.forest.values unit.forest.entries k ≡ values_at (get_or named n 0) = ap (λ (z : HeadAndForest). values_in_column table.decls z.forest.values z.forest.entries k) (sym at_number) in
          ap (λ (vs : List Value). values_of_units units table.decls (take n named) k ++ vs) own
          ∙ flat_map_more values_at [] (take n named) (get_or named n 0)
          ∙ ap (λ (ns : List ℕ). values_of_units units table.decls ns k) (sym (take_more named n 0 inside))

      -- and then they are
      pub gathered_more : AddsEntries (names_of table.specs) table.decls unit unit.forest.entries now new → AreGathered units table named (take (n + 1) named) new
      gathered_more adds = record {
        count = adds.count ∙ gathered.count;
        tallied = λ other others.
            let lent : unit.forest.section ≡ other = subst (λ (z : HeadAndForest). z.forest.section ≡ other) at_number (others.lent n inside) in
            let before = subst (λ (z : List ℕ). AreTalliesOf z (names_of table.specs) (values_of_units units table.decls (take n named)) now) (sym lent) (gathered.tallied other others) in
            let after = subst (λ (z : List ℕ). AreTalliesOf z (names_of table.specs) (with_entries table.decls unit.forest.values unit.forest.entries (values_of_units units table.decls (take n named))) new) lent (adds.added (values_of_units units table.decls (take n named)) before) in
            tallies_as other (names_of table.specs) (with_entries table.decls unit.forest.values unit.forest.entries (values_of_units units table.decls (take n named))) (values_of_units units table.decls (take (n + 1) named)) new more_units after;
      }

pub gathered_none : (units : List HeadAndForest) (table : Listing) (named : List ℕ) (tallies : List (Option Tallying)) → length tallies ≡ length table.specs → ((section : List ℕ) (names : ℕ → ℕ) → AreTalliesOf section names (λ (k : ℕ). []) tallies) → AreGathered units table named [] tallies
gathered_none units table named tallies wide none = record { count = wide; tallied = λ section are. none section (names_of table.specs) }

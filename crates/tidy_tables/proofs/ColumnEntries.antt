-- The values of the entries of units, each in its column, as they are counted.
use Rattle.std.proofs.Common.{◌≡◌, ◌≤◌, ◌<◌, ◌+◌, ◌-◌, ◌^◌, ◌⊎◌, ◌&&◌, inl, inr, ◌∙◌, ℕ, zero, suc, Bool, true, false, List, [], ◌∷◌, ◌++◌, length, take, drop, get_or, sym, ap, refl, subst, leb, ltb, arith}
use Rattle.std.specs.Prelude.{slice_range, map, Option, Some, None, IfSome}
use Rattle.std.specs.List.{All, sum_by, list_all}
use Rattle.std.proofs.lemmas.Bool.{cases_lt, and_from, and_left, and_right, le-leb, lt-leb, lt-ltb, le-ltb, cond-true, cond-false}
use Rattle.std.proofs.lemmas.List.{append-nil, append_assoc, length-append, length-drop, length-take-le, get_or-take, get_or-drop, get_or_default, flat_map_more, map-append, take_more}
use Rattle.std.proofs.lemmas.List.Folds.{list_all-append}
use Rattle.std.proofs.lemmas.List.Sums.{sum_by_more_le_part, sum_by_push}
use Rattle.spelled.specs.Spelled.{AreBytes}
use Rattle.form_codec.specs.declared.value.Value.{Value}
use Rattle.form_codec.specs.Forms.{Meaning}
use Rattle.form_codec.specs.Values.{meant_in, IsValueIn}
use Rattle.form_codec.proofs.FormLaws.{read_in}
use Rattle.abbrev_tables.specs.declared.decl.Decl.{Decl}
use Rattle.abbrev_tables.specs.declared.decl.Spec.{Spec}
use Rattle.abbrev_tables.specs.Tables.{Declared}
use Rattle.abbrev_tables.specs.Listings.{Listing, decl_at, spec_at, declared_in}
use Rattle.column_forms.specs.Tallies.{Tallying}
use Rattle.column_forms.specs.Rows.{AreHere}
use Rattle.column_forms.specs.TableColumns.{IsTallyOf, tally_at, AreTalliesOf, HaveNames, HaveRoomForRow, HaveAtMost, AddsRow}
use Rattle.entry_arena.specs.declared.entry.Entry.{Entry}
use Rattle.entry_arena.specs.Arena.{Arena, entry_at, value_at}
use Rattle.entry_arena.specs.Trees.{ValuesBetween, declared_at}
use Rattle.entry_read.specs.declared.head.UnitHead.{UnitHead}
use Rattle.entry_read.specs.Units.{HeadAndForest, declarations_of, IsTable, IsUnitHeld}
use Rattle.entry_read.specs.Places.{HaveOwners}
use Rattle.entry_read.proofs.Declarations.{columns_inside, count_same, declared_is}
use Rattle.entry_read.proofs.OwnerLaws.{values_belong}
use Rattle.entry_read.proofs.PlaceLaws.{entry_stands}
use Rattle.written_files.specs.Uses.{names_inside, are_inside}
use Rattle.tidy_tables.specs.declared.column_values.ColumnValues.{ColumnValues}
use Rattle.tidy_tables.specs.inside.TableNamers.{unit_in, entries_of, AreUnitsOf}
use Rattle.tidy_tables.specs.inside.ColumnValues.{Headed, headed, without_heads, meant_with_heads, has_column, value_in_column, values_in_column, values_of_unit, values_of_units, with_entries, names_in, told_at, HasSeen, HoldsValues, AddsHeaded, HasWidth, HasRoomFor, AddsEntries, AreGathered}

-- COLUMNS OF A DECLARATION

-- a declaration has those columns of its table that follow its first one, and no others
column_here : (d : Decl) (k : ℕ) → d.first ≤ k → k < d.first + d.count → has_column d k ≡ true
column_here d k low high = and_from (leb d.first k) (ltb k (d.first + d.count)) (le-leb d.first k low) (lt-ltb k (d.first + d.count) high)

pub column_outside : (d : Decl) (k : ℕ) → (k < d.first) ⊎ (d.first + d.count ≤ k) → has_column d k ≡ false
column_outside d k (inl low) = and_left (leb d.first k) (ltb k (d.first + d.count)) (lt-leb d.first k low)
column_outside d k (inr high) = and_right (leb d.first k) (ltb k (d.first + d.count)) (le-ltb k (d.first + d.count) high)

module _ (decls : List Decl) (values : List Value) (e : Entry) where
  -- an entry has a value in each column of its declaration
  pub value_here : (j : ℕ) → j < (decl_at decls e.decl).count → value_in_column decls values ((decl_at decls e.decl).first + j) e ≡ value_at values (e.first + j) ∷ []
  value_here j inside =
      let d : Decl = decl_at decls e.decl in
      let k : ℕ = d.first + j in
      let place : k - d.first ≡ j = omega arith in
      cond-true {A = List Value} (has_column d k) (value_at values (e.first + (k - d.first)) ∷ []) [] (column_here d k (omega arith) (omega arith))
      ∙ ap (λ (n : ℕ). value_at values (e.first + n) ∷ []) place

  -- and in no other
  pub value_none : (k : ℕ) → has_column (decl_at decls e.decl) k ≡ false → value_in_column decls values k e ≡ []
  value_none k none =
      let d : Decl = decl_at decls e.decl in
      cond-false {A = List Value} (has_column d k) (value_at values (e.first + (k - d.first)) ∷ []) [] none

module _ (decls : List Decl) (unit : HeadAndForest) (e : Entry) where
  more_values : (entries : List Entry) (before : ℕ → List Headed) (k : ℕ) → with_entries decls unit (entries ++ e ∷ []) before k ≡ with_entries decls unit entries before k ++ headed unit.head (value_in_column decls unit.forest.values k e)
  more_values entries before k =
      let values : List Value = unit.forest.values in
      let own : List Value = values_in_column decls values entries k in
      let next : List Value = value_in_column decls values k e in
      ap (λ (vs : List Value). before k ++ headed unit.head vs) (sym (flat_map_more (value_in_column decls values k) [] entries e))
      ∙ ap (λ (vs : List Headed). before k ++ vs) (map-append (λ (v : Value). (unit.head, v)) own next)
      ∙ sym (append_assoc (before k) (headed unit.head own) (headed unit.head next))

  -- One entry more: each of its values comes behind those that its column had.
  row_added : (entries : List Entry) (before : ℕ → List Headed) (row : List Value) → row ≡ take e.count (drop e.first unit.forest.values) → e.count ≡ (decl_at decls e.decl).count → e.first + e.count ≤ length unit.forest.values → AddsHeaded (decl_at decls e.decl).first unit.head row (with_entries decls unit entries before) (with_entries decls unit (entries ++ e ∷ []) before)
  row_added entries before row row_is counted inside =
      let d : Decl = decl_at decls e.decl in
      let values : List Value = unit.forest.values in
      let size : length row ≡ e.count = ap length row_is ∙ length-take-le e.count (drop e.first values) (omega (arith, length-drop e.first values)) in
      record {
        each = λ j below.
            let within : j < e.count = omega arith in
            let same : value_at row j ≡ value_at values (e.first + j) = ap (λ (vs : List Value). value_at vs j) row_is ∙ get_or-take e.count (drop e.first values) j (value_at [] 0) within ∙ get_or-drop e.first values j (value_at [] 0) in
            let now : value_in_column decls values (d.first + j) e ≡ value_at row j ∷ [] = value_here decls values e j (omega arith) ∙ ap (λ (v : Value). v ∷ []) (sym same) in
            more_values entries before (d.first + j) ∙ ap (λ (vs : List Value). with_entries decls unit entries before (d.first + j) ++ headed unit.head vs) now;
        others = λ k out.
            let far : (k < d.first) ⊎ (d.first + d.count ≤ k) = elim out [
              | inl low ↦ inl low
              | inr high ↦ inr (omega (arith, size, counted, high))
            ] in
            more_values entries before k ∙ ap (λ (vs : List Value). with_entries decls unit entries before k ++ headed unit.head vs) (value_none decls values e k (column_outside d k far)) ∙ append-nil (with_entries decls unit entries before k);
      }

-- WHAT IS HELD

-- the same values by another name
pub holds_as : (section : List ℕ) (names : ℕ → ℕ) (values others : ℕ → List Headed) (held : ColumnValues) → ((k : ℕ) → values k ≡ others k) → HoldsValues section names values held → HoldsValues section names others held
holds_as section names values others held same holds = record {
  tallied = λ k inside. subst (λ (vs : List Headed). IsTallyOf section (names k) (without_heads vs) (tally_at held.tallies k)) (same k) (holds.tallied k inside);
  told = λ k inside. subst (λ (vs : List Headed). told_at held.inside.items k ≡ are_inside (meant_with_heads section vs)) (same k) (holds.told k inside);
}

and_true : (b : Bool) → (b && true) ≡ b
and_true true = refl
and_true false = refl

-- one value more
inside_more : (section : List ℕ) (values : List Headed) (head : UnitHead) (v : Value) → are_inside (meant_with_heads section (values ++ (head, v) ∷ [])) ≡ (are_inside (meant_with_heads section values) && names_inside head (meant_in section v))
inside_more section values head v =
    let test : UnitHead × Meaning → Bool = λ (x : UnitHead × Meaning). names_inside x.0 x.1 in
    let mean : Headed → UnitHead × Meaning = λ (x : Headed). (x.0, meant_in section x.1) in
    let one : (names_inside head (meant_in section v) && true) ≡ names_inside head (meant_in section v) = and_true (names_inside head (meant_in section v)) in
    ap (list_all test) (map-append mean values ((head, v) ∷ []))
    ∙ list_all-append test (map mean values) ((head, meant_in section v) ∷ [])
    ∙ ap (λ (b : Bool). are_inside (meant_with_heads section values) && b) one

-- the values of a row are counted, each in its column
pub row_held : (section : List ℕ) (names : ℕ → ℕ) (first : ℕ) (head : UnitHead) (row : List Value) (old new : ColumnValues) (before after : ℕ → List Headed) → first + length row ≤ length old.inside.items → HasSeen first head row (length row) old.inside.items new.inside.items → ((values others : ℕ → List Value) → AddsRow first row values others → AreTalliesOf section names values old.tallies → AreTalliesOf section names others new.tallies) → AddsHeaded first head row before after → HoldsValues section names before old → HoldsValues section names after new
row_held section names first head row old new before after wide seen counted adds holds = record {
  tallied = counted (λ k. without_heads (before k)) (λ k. without_heads (after k)) (record {
    each = λ j below. ap without_heads (adds.each j below) ∙ map-append (λ (v : Headed). v.1) (before (first + j)) ((head, value_at row j) ∷ []);
    others = λ k out. ap without_heads (adds.others k out);
  }) holds.tallied;
  told = λ k below.
      let known : k < length old.inside.items = omega (arith, below, seen.count) in
      elim (cases_lt k first) [
        | inl low ↦ kept k known (inl low)
        | inr from ↦ elim (cases_lt k (first + length row)) [
          | inl within ↦
              let is : first + (k - first) ≡ k = omega arith in
              subst (λ (n : ℕ). told_at new.inside.items n ≡ are_inside (meant_with_heads section (after n))) is (added (k - first) (omega arith))
          | inr high ↦ kept k known (inr high)
        ]
      ];
}
  where
    kept : (k : ℕ) → k < length old.inside.items → (k < first) ⊎ (first + length row ≤ k) → told_at new.inside.items k ≡ are_inside (meant_with_heads section (after k))
    kept k known out = seen.others k out ∙ holds.told k known ∙ ap (λ (vs : List Headed). are_inside (meant_with_heads section vs)) (sym (adds.others k out))

    added : (j : ℕ) → j < length row → told_at new.inside.items (first + j) ≡ are_inside (meant_with_heads section (after (first + j)))
    added j within =
        seen.each j section within
        ∙ ap (λ (b : Bool). b && names_inside head (meant_in section (value_at row j))) (holds.told (first + j) (omega (arith, within, wide)))
        ∙ sym (inside_more section (before (first + j)) head (value_at row j))
        ∙ ap (λ (vs : List Headed). are_inside (meant_with_heads section vs)) (sym (adds.each j within))

room_in : (n : ℕ) (tally : Option Tallying) → IfSome tally (λ t. t.count ≤ n) → n < 2 ^ 63 → IfSome tally (λ t. t.count < 2 ^ 63)
room_in n None few below = tt
room_in n (Some t) few below = omega (arith, few, below)

-- where no column has many values there is room for one more
room_for_row : (n : ℕ) (tallies : List (Option Tallying)) → HaveAtMost n tallies → n < 2 ^ 63 → HaveRoomForRow tallies
room_for_row n tallies few below k inside = room_in n (tally_at tallies k) (few k inside) below

-- AN ENTRY

all_cons : (section : List ℕ) (v : Value) (vs : List Value) → IsValueIn section v → All (IsValueIn section) vs → All (IsValueIn section) (v ∷ vs)
all_cons section v vs first rest zero d below = first
all_cons section v vs first rest (suc k) d below = rest k d (omega arith)

-- values that stand in a section are values of it
valued_between : (section : List ℕ) → AreBytes section → (columns : List Spec) (values : List Value) (from to : ℕ) → ValuesBetween section columns values from to → All (IsValueIn section) values
valued_between section small [] [] from to p = λ k d below. absurd (omega arith)
valued_between section small [] (v ∷ values) from to p = absurd p
valued_between section small (c ∷ columns) [] from to p = absurd p
valued_between section small (c ∷ columns) (v ∷ values) from to p =
    all_cons section v values (read_in c.name c.form c.constant section from (length section) (record { value = v; end = p.0 }) (omega arith) small (record { starts = p.1.order; inside = p.1.inside; spelled = p.1.spelled; placed = p.2 })) (valued_between section small columns values p.0 to p.3)

module _ (table : Listing) (unit : HeadAndForest) (known : IsTable table) (held : IsUnitHeld unit.forest.section unit.head (declarations_of table) unit.forest) (id : ℕ) (inside : id < length unit.forest.entries) where
  abbrev e : Entry
  e = entry_at unit.forest.entries id

  abbrev own_values : List Value
  own_values = unit.forest.values

  owners : HaveOwners (declarations_of table) unit.forest
  owners = values_belong unit.forest.section unit.head (declarations_of table) unit.forest refl held

  -- it has a declaration of the table
  pub entry_declared : (entry_at unit.forest.entries id).decl < length table.decls
  entry_declared = omega (arith, owners.declared id inside, count_same table)

  -- and a value for each of its columns
  pub entry_counted : (entry_at unit.forest.entries id).count ≡ (decl_at table.decls (entry_at unit.forest.entries id).decl).count
  entry_counted =
      let d : Decl = decl_at table.decls e.decl in
      let wide : d.first + d.count ≤ length table.specs = columns_inside table e.decl known entry_declared in
      owners.counted id inside ∙ ap (λ (z : Declared). length z.columns) (declared_is table e.decl entry_declared) ∙ length-take-le d.count (drop d.first table.specs) (omega (arith, length-drop d.first table.specs))

  entry_columns : (decl_at table.decls (entry_at unit.forest.entries id).decl).first + (entry_at unit.forest.entries id).count ≤ length table.specs
  entry_columns = omega (arith, entry_counted, columns_inside table e.decl known entry_declared)

  entry_values : (entry_at unit.forest.entries id).first + (entry_at unit.forest.entries id).count ≤ length unit.forest.values
  entry_values = owners.inside id inside

  -- they are values of the section
  entry_here : AreBytes unit.forest.section → length unit.forest.section < 2 ^ 63 → AreHere unit.forest.section (take (entry_at unit.forest.entries id).count (drop (entry_at unit.forest.entries id).first unit.forest.values))
  entry_here small few k below =
      let s = entry_stands unit.forest.section unit.head (declarations_of table) unit.forest refl held id inside in
      let all : All (IsValueIn unit.forest.section) (take e.count (drop e.first own_values)) = valued_between unit.forest.section small (declared_at (declarations_of table) e.decl).columns (take e.count (drop e.first own_values)) s.values_at (e.at + e.len) s.valued in
      record { value = all k (value_at [] 0) below; fits = few }

  module _ (old now : ColumnValues) (adds : AddsEntries table unit (take id unit.forest.entries) old now) where
    abbrev done : List Entry
    done = take id unit.forest.entries

    -- there is room for its values
    pub entry_room : HasRoomFor old (length unit.forest.entries) → HaveRoomForRow now.tallies
    entry_room (n, most, below) =
        let size : length done ≡ id = length-take-le id unit.forest.entries (omega arith) in
        room_for_row (n + length done) now.tallies (adds.few n most) (omega (arith, size, inside, below))

    -- they are counted
    pub entry_added : (new : ColumnValues) → length new.tallies ≡ length now.tallies → length new.inside.items ≡ length now.inside.items → ((n : ℕ) → HaveAtMost n now.tallies → HaveAtMost (n + 1) new.tallies) → AreBytes unit.forest.section → length unit.forest.section < 2 ^ 63 → (row : List Value) → row ≡ take (entry_at unit.forest.entries id).count (drop (entry_at unit.forest.entries id).first unit.forest.values) → (first : ℕ) → first ≡ (decl_at table.decls (entry_at unit.forest.entries id).decl).first → (head : UnitHead) → head ≡ unit.head → (columns : List Spec) → HaveNames (names_in table) first columns → ((section : List ℕ) (names : ℕ → ℕ) (before after : ℕ → List Headed) → AreHere section row → HaveNames names first columns → AddsHeaded first head row before after → HoldsValues section names before now → HoldsValues section names after new) → AddsEntries table unit (take (id + 1) unit.forest.entries) old new
    entry_added new tallies_same inside_same one_more small few row row_is first first_is head head_is columns named law =
        let more : done ++ e ∷ [] ≡ take (id + 1) unit.forest.entries = sym (take_more unit.forest.entries id (entry_at [] 0) inside) in
        let longer : length (take (id + 1) unit.forest.entries) ≡ length done + 1 = sym (ap length more) ∙ length-append done (e ∷ []) in
        record {
          tallies = tallies_same ∙ adds.tallies;
          inside = inside_same ∙ adds.inside;
          few = λ n most.
              let sum : (n + length done) + 1 ≡ n + length (take (id + 1) unit.forest.entries) = omega (arith, longer) in
              subst (λ (z : ℕ). HaveAtMost z new.tallies) sum (one_more (n + length done) (adds.few n most));
          added = λ before holds.
              let here : AreHere unit.forest.section row = subst (AreHere unit.forest.section) (sym row_is) (entry_here small few) in
              let own : AddsHeaded (decl_at table.decls e.decl).first unit.head row (with_entries table.decls unit done before) (with_entries table.decls unit (done ++ e ∷ []) before) = row_added table.decls unit e done before row row_is entry_counted entry_values in
              let there : AddsHeaded first unit.head row (with_entries table.decls unit done before) (with_entries table.decls unit (done ++ e ∷ []) before) = subst (λ (k : ℕ). AddsHeaded k unit.head row (with_entries table.decls unit done before) (with_entries table.decls unit (done ++ e ∷ []) before)) (sym first_is) own in
              let one : AddsHeaded first head row (with_entries table.decls unit done before) (with_entries table.decls unit (done ++ e ∷ []) before) = subst (λ (h : UnitHead). AddsHeaded first h row (with_entries table.decls unit done before) (with_entries table.decls unit (done ++ e ∷ []) before)) (sym head_is) there in
              subst (λ (es : List Entry). HoldsValues unit.forest.section (names_in table) (with_entries table.decls unit es before) new) more (law unit.forest.section (names_in table) (with_entries table.decls unit done before) (with_entries table.decls unit (done ++ e ∷ []) before) here named one (adds.added before holds));
        }

-- the same of lists that are the unit's
module _ (table : Listing) (unit : HeadAndForest) (known : IsTable table) (held : IsUnitHeld unit.forest.section unit.head (declarations_of table) unit.forest) (entries : List Entry) (entries_are : entries ≡ unit.forest.entries) (id : ℕ) (below : id < length entries) where
  pub inside_unit : id < length unit.forest.entries
  inside_unit = subst (λ (es : List Entry). id < length es) entries_are below

  pub declared_read : (entry_at entries id).decl < length table.decls
  declared_read = subst (λ (es : List Entry). (entry_at es id).decl < length table.decls) (sym entries_are) (entry_declared table unit known held id inside_unit)

  pub first_read : (d : Decl) → d ≡ decl_at table.decls (entry_at entries id).decl → d.first ≡ (decl_at table.decls (entry_at unit.forest.entries id).decl).first
  first_read d d_is = ap (λ (z : Decl). z.first) (d_is ∙ ap (λ (es : List Entry). decl_at table.decls (entry_at es id).decl) entries_are)

  -- the columns of its declaration
  module _ (columns : List Spec) (columns_are : columns ≡ (declared_in table.specs (decl_at table.decls (entry_at entries id).decl)).columns) where
    abbrev own_decl : Decl
    own_decl = decl_at table.decls (entry_at entries id).decl

    own_count : length columns ≡ (decl_at table.decls (entry_at entries id).decl).count
    own_count =
        ap length columns_are ∙ length-take-le own_decl.count (drop own_decl.first table.specs) (omega (arith, length-drop own_decl.first table.specs, columns_inside table (entry_at entries id).decl known declared_read))

    -- have their names
    pub names_read : (d : Decl) → d ≡ decl_at table.decls (entry_at entries id).decl → HaveNames (names_in table) d.first columns
    names_read d d_is j within =
        let inside : j < own_decl.count = subst (λ (n : ℕ). j < n) own_count within in
        let here : spec_at columns j ≡ spec_at table.specs (own_decl.first + j) = ap (λ (cs : List Spec). spec_at cs j) columns_are ∙ get_or-take own_decl.count (drop own_decl.first table.specs) j (spec_at [] 0) inside ∙ get_or-drop own_decl.first table.specs j (spec_at [] 0) in
        ap (λ (z : Decl). (spec_at table.specs (z.first + j)).name) d_is ∙ ap (λ (c : Spec). c.name) (sym here)

    -- and are as many as the values
    pub width_read : (row : List Value) → row ≡ take (entry_at unit.forest.entries id).count (drop (entry_at unit.forest.entries id).first unit.forest.values) → length columns ≡ length row
    width_read row row_is =
        let e : Entry = entry_at unit.forest.entries id in
        let size : length (take e.count (drop e.first unit.forest.values)) ≡ e.count = length-take-le e.count (drop e.first unit.forest.values) (omega (arith, length-drop e.first unit.forest.values, entry_values table unit known held id inside_unit)) in
        own_count ∙ ap (λ (es : List Entry). (decl_at table.decls (entry_at es id).decl).count) entries_are ∙ sym (entry_counted table unit known held id inside_unit) ∙ sym size ∙ sym (ap length row_is)

  module _ (lender : Arena) (lent : lender ≡ unit.forest) where
    pub values_read : (entry_at entries id).first + (entry_at entries id).count ≤ length lender.values
    values_read =
        let own : (entry_at entries id).first + (entry_at entries id).count ≤ length unit.forest.values = subst (λ (es : List Entry). (entry_at es id).first + (entry_at es id).count ≤ length unit.forest.values) (sym entries_are) (entry_values table unit known held id inside_unit) in
        subst (λ (f : Arena). (entry_at entries id).first + (entry_at entries id).count ≤ length f.values) (sym lent) own

    module _ (row : List Value) (read : row ≡ slice_range lender.values (entry_at entries id).first ((entry_at entries id).first + (entry_at entries id).count)) where
      pub row_read : row ≡ take (entry_at unit.forest.entries id).count (drop (entry_at unit.forest.entries id).first unit.forest.values)
      row_read =
          let e : Entry = entry_at entries id in
          let count : e.first + e.count - e.first ≡ e.count = omega arith in
          read
          ∙ ap (λ (n : ℕ). take n (drop e.first lender.values)) count
          ∙ ap (λ (f : Arena). take e.count (drop e.first f.values)) lent
          ∙ ap (λ (es : List Entry). take (entry_at es id).count (drop (entry_at es id).first unit.forest.values)) entries_are

      pub columns_read : (d : Decl) → d ≡ decl_at table.decls (entry_at entries id).decl → (width : ℕ) → width ≡ length table.specs → d.first + length row ≤ width
      columns_read d d_is width wide =
          let e : Entry = entry_at unit.forest.entries id in
          let size : length (take e.count (drop e.first unit.forest.values)) ≡ e.count = length-take-le e.count (drop e.first unit.forest.values) (omega (arith, length-drop e.first unit.forest.values, entry_values table unit known held id inside_unit)) in
          omega (arith, ap length row_read, size, first_read d d_is, entry_columns table unit known held id inside_unit, wide)

pub entries_none : (table : Listing) (unit : HeadAndForest) (held : ColumnValues) → AddsEntries table unit [] held held
entries_none table unit held = record {
  tallies = refl;
  inside = refl;
  few = λ n most. subst (λ (z : ℕ). HaveAtMost z held.tallies) (let same : n ≡ n + 0 = omega arith in same) most;
  added = λ before holds. holds_as unit.forest.section (names_in table) before (with_entries table.decls unit [] before) held (λ k. sym (append-nil (before k))) holds;
}

-- ALL UNITS

module _ (units : List HeadAndForest) (table : Listing) (named : List ℕ) (section : List ℕ) (are : AreUnitsOf units table named section) (n : ℕ) (inside : n < length named) (u : ℕ) (u_is : u ≡ get_or named n 0) (unit : HeadAndForest) (unit_is : unit ≡ get_or units u unit) where
  unit_known : u < length units
  unit_known = subst (λ (z : ℕ). z < length units) (sym u_is) (are.known n inside)

  at_number : unit_in units (get_or named n 0) ≡ unit
  at_number = ap (unit_in units) (sym u_is) ∙ get_or_default units u (unit_in [] 0) unit unit_known ∙ sym unit_is

  unit_lent : unit.forest.section ≡ section
  unit_lent = subst (λ (z : HeadAndForest). z.forest.section ≡ section) at_number (are.lent n inside)

  pub unit_held : IsUnitHeld unit.forest.section unit.head (declarations_of table) unit.forest
  unit_held =
      let here : IsUnitHeld section unit.head (declarations_of table) unit.forest = subst (λ (z : HeadAndForest). IsUnitHeld section z.head (declarations_of table) z.forest) at_number (are.held n inside) in
      subst (λ (z : List ℕ). IsUnitHeld z unit.head (declarations_of table) unit.forest) (sym unit_lent) here

  -- the entries of the units so far and of this one
  so_far : sum_by (entries_of units) (take n named) + length unit.forest.entries ≡ sum_by (entries_of units) (take (n + 1) named)
  so_far =
      let pushed : sum_by (entries_of units) (take n named ++ get_or named n 0 ∷ []) ≡ sum_by (entries_of units) (take n named) + entries_of units (get_or named n 0) = sum_by_push (entries_of units) (take n named) (get_or named n 0) in
      let own : entries_of units (get_or named n 0) ≡ length unit.forest.entries = ap (λ (z : HeadAndForest). length z.forest.entries) at_number in
      let more : sum_by (entries_of units) (take (n + 1) named) ≡ sum_by (entries_of units) (take n named ++ get_or named n 0 ∷ []) = ap (sum_by (entries_of units)) (take_more named n 0 inside) in
      omega (arith, pushed, own, more)

  module _ (now : ColumnValues) (gathered : AreGathered units table named (take n named) now) where
    -- all values of the unit can be counted
    pub unit_room : HasRoomFor now (length unit.forest.entries)
    unit_room =
        let most = sum_by_more_le_part (entries_of units) (entries_of units) named n 0 inside (λ (z : ℕ). omega arith) in
        let most' : sum_by (entries_of units) (take n named) + length unit.forest.entries ≤ sum_by (entries_of units) named = subst (λ (z : HeadAndForest). sum_by (entries_of units) (take n named) + length z.forest.entries ≤ sum_by (entries_of units) named) at_number most in
        (sum_by (entries_of units) (take n named), gathered.few, omega (arith, most', are.few))

    more_units : (k : ℕ) → with_entries table.decls unit unit.forest.entries (values_of_units units table.decls (take n named)) k ≡ values_of_units units table.decls (take (n + 1) named) k
    more_units k =
        let values_at : ℕ → List Headed = λ (z : ℕ). values_of_unit table.decls (unit_in units z) k in
        let own : values_of_unit table.decls unit k ≡ values_at (get_or named n 0) = ap (λ (z : HeadAndForest). values_of_unit table.decls z k) (sym at_number) in
        ap (λ (vs : List Headed). values_of_units units table.decls (take n named) k ++ vs) own
        ∙ flat_map_more values_at [] (take n named) (get_or named n 0)
        ∙ ap (λ (ns : List ℕ). values_of_units units table.decls ns k) (sym (take_more named n 0 inside))

    -- and then they are
    pub gathered_more : (new : ColumnValues) → AddsEntries table unit unit.forest.entries now new → AreGathered units table named (take (n + 1) named) new
    gathered_more new adds = record {
      wide = record { tallies = adds.tallies ∙ gathered.wide.tallies; inside = adds.inside ∙ gathered.wide.inside };
      few = subst (λ (z : ℕ). HaveAtMost z new.tallies) so_far (adds.few (sum_by (entries_of units) (take n named)) gathered.few);
      holds = λ other others.
          let lent : unit.forest.section ≡ other = subst (λ (z : HeadAndForest). z.forest.section ≡ other) at_number (others.lent n inside) in
          let before = subst (λ (z : List ℕ). HoldsValues z (names_in table) (values_of_units units table.decls (take n named)) now) (sym lent) (gathered.holds other others) in
          let after = subst (λ (z : List ℕ). HoldsValues z (names_in table) (with_entries table.decls unit unit.forest.entries (values_of_units units table.decls (take n named))) new) lent (adds.added (values_of_units units table.decls (take n named)) before) in
          holds_as other (names_in table) (with_entries table.decls unit unit.forest.entries (values_of_units units table.decls (take n named))) (values_of_units units table.decls (take (n + 1) named)) new more_units after;
    }

pub gathered_none : (units : List HeadAndForest) (table : Listing) (named : List ℕ) (held : ColumnValues) (count : ℕ) → count ≡ length table.specs → HasWidth held count → HaveAtMost 0 held.tallies → ((section : List ℕ) (names : ℕ → ℕ) → HoldsValues section names (λ (k : ℕ). []) held) → AreGathered units table named [] held
gathered_none units table named held count wide width few none = record { wide = record { tallies = width.tallies ∙ wide; inside = width.inside ∙ wide }; few = few; holds = λ section are. none section (names_in table) }

-- The values that are gathered for a column are those of all entries that have its declaration, and its form spells them.
use Rattle.std.proofs.Common.{◌≡◌, ◌≢◌, ◌≤◌, ◌<◌, ◌+◌, ◌∙◌, inl, inr, ℕ, zero, suc, Bool, List, [], ◌∷◌, ◌++◌, length, map, take, drop, get_or, cond, eqb, sym, ap, refl, subst, arith}
use Rattle.std.specs.Prelude.{ℤ, slice_index, filter, flat_map}
use Rattle.std.specs.List.{All}
use Rattle.std.proofs.lemmas.Bool.{cases_eq, cases_lt, cases_Bool, cond-true, cond-false, cond_both, eq-eqb, ne_eqb, eqb-true}
use Rattle.std.proofs.lemmas.List.{append-nil, flat_map_more, get_or-take, get_or-drop, length-append, length-drop, length-map, length-take-le, map-append, take_more}
use Rattle.std.proofs.lemmas.List.Elements.{All-head, All-tail, All-from_get_or}
use Rattle.std.proofs.lemmas.List.Sums.{length-filter, sum_by-cons}
use Rattle.std.proofs.Math.Seq.{take-length}
use Rattle.form_codec.specs.declared.value.Value.{Value}
use Rattle.form_codec.specs.Forms.{Meaning, SpellsValue}
use Rattle.form_codec.specs.Values.{meant_in}
use Rattle.form_codec.specs.Columns.{AreSpelled}
use Rattle.abbrev_tables.specs.declared.decl.Decl.{Decl}
use Rattle.abbrev_tables.specs.declared.decl.Spec.{Spec}
use Rattle.abbrev_tables.specs.Tables.{Declared}
use Rattle.abbrev_tables.specs.Listings.{Listing, decl_at, spec_at, AreAdjacent}
use Rattle.abbrev_tables.proofs.Rows.{first_after}
use Rattle.column_forms.specs.Tallies.{meanings_in}
use Rattle.entry_arena.specs.declared.entry.Entry.{Entry}
use Rattle.entry_arena.specs.Arena.{entry_at, value_at}
use Rattle.entry_arena.specs.Trees.{ValuesBetween, declared_at}
use Rattle.entry_read.specs.declared.head.UnitHead.{UnitHead}
use Rattle.entry_read.specs.Units.{HeadAndForest, declarations_of, IsTable, IsUnitHeld}
use Rattle.entry_read.proofs.Declarations.{columns_inside, declared_is}
use Rattle.entry_read.proofs.PlaceLaws.{entry_stands}
use Rattle.value_links.specs.declared.units.NamedTable.{NamedTable}
use Rattle.written_files.proofs.ColumnSpellings.{IsSpelledBy, spelled_between}
use Rattle.written_files.specs.Uses.{entries_with, uses_of, values_with, column_values}
use Rattle.tidy_tables.specs.declared.column_values.ColumnValues.{ColumnValues}
use Rattle.tidy_tables.specs.inside.TableNamers.{unit_in, units_with, AreOfTable, AreUnitsOf}
use Rattle.tidy_tables.specs.inside.ColumnValues.{Headed, headed, without_heads, meant_with_heads, value_in_column, values_in_column, values_of_unit, values_of_units, AreGathered}
use Rattle.tidy_tables.specs.inside.UntidyDeclarations.{AreAllNamers, HoldsColumns}
use Rattle.tidy_tables.proofs.UnitsOfTables.{units_of_table}
use Rattle.tidy_tables.proofs.ColumnEntries.{column_outside, value_here, value_none, entry_declared, entry_counted}
use Rattle.tidy_tables.proofs.LeastColumns.{plain_same}

-- COLUMNS OF DECLARATIONS

-- those of a declaration stand before those of a later one
columns_rise : (from : ℕ) (decls : List Decl) (to i j : ℕ) → AreAdjacent from decls to → i < j → j < length decls → (decl_at decls i).first + (decl_at decls i).count ≤ (decl_at decls j).first
columns_rise from [] to i j a less below = absurd (omega arith)
columns_rise from (d ∷ decls) to i zero a less below = absurd (omega arith)
columns_rise from (d ∷ decls) to zero (suc j) (e, a) less below =
    let first : d.first ≡ from = e in
    let rest : from + d.count ≤ (decl_at decls j).first = first_after (from + d.count) decls to j a (omega arith) in
    omega arith
columns_rise from (d ∷ decls) to (suc i) (suc j) (e, a) less below = columns_rise (from + d.count) decls to i j a (omega arith) (omega arith)

-- whether an entry has the declaration with a number
abbrev has_decl : ℕ → Entry → Bool
has_decl number e = eqb e.decl number

module _ (decls : List Decl) (to : ℕ) (adjacent : AreAdjacent 0 decls to) (values : List Value) (number j : ℕ) (known : number < length decls) (inside : j < (decl_at decls number).count) where
  abbrev column : ℕ
  column = (decl_at decls number).first + j

  of_own : (e : Entry) → e.decl ≡ number → value_in_column decls values ((decl_at decls number).first + j) e ≡ value_at values (e.first + j) ∷ []
  of_own e same =
      let within : j < (decl_at decls e.decl).count = subst (λ (n : ℕ). j < (decl_at decls n).count) (sym same) inside in
      subst (λ (n : ℕ). value_in_column decls values ((decl_at decls n).first + j) e ≡ value_at values (e.first + j) ∷ []) same (value_here decls values e j within)

  of_other : (e : Entry) → e.decl < length decls → e.decl ≢ number → value_in_column decls values ((decl_at decls number).first + j) e ≡ []
  of_other e declared other = value_none decls values e column (column_outside (decl_at decls e.decl) column (elim (cases_lt e.decl number) [
    | inl less ↦ inr (omega (arith, columns_rise 0 decls to e.decl number adjacent less known))
    | inr more ↦
        let less : number < e.decl = (let o : e.decl ≢ number = other in omega arith) in
        inl (omega (arith, columns_rise 0 decls to number e.decl adjacent less declared, inside))
  ]))

  -- the values of entries in a column of a declaration are those of the entries that have the declaration
  values_are : (entries : List Entry) → All (λ (e : Entry). e.decl < length decls) entries → values_in_column decls values entries ((decl_at decls number).first + j) ≡ map (λ (e : Entry). value_at values (e.first + j)) (filter (λ (e : Entry). eqb e.decl number) entries)
  values_are [] all = refl
  values_are (e ∷ es) all =
      let value_of : Entry → Value = λ (x : Entry). value_at values (x.first + j) in
      let rest = values_are es (All-tail (λ (x : Entry). x.decl < length decls) e es all) in
      let few : List Entry = filter (has_decl number) es in
      elim (cases_eq e.decl number) [
        | inl same ↦
            ap (λ (vs : List Value). vs ++ values_in_column decls values es column) (of_own e same)
            ∙ ap (λ (vs : List Value). value_at values (e.first + j) ∷ vs) rest
            ∙ sym (ap (map value_of) (cond-true {A = List Entry} (eqb e.decl number) (e ∷ few) few (eq-eqb e.decl number same)))
        | inr other ↦
            ap (λ (vs : List Value). vs ++ values_in_column decls values es column) (of_other e (All-head (λ (x : Entry). x.decl < length decls) e es all) other)
            ∙ rest
            ∙ sym (ap (map value_of) (cond-false {A = List Entry} (eqb e.decl number) (e ∷ few) few (ne_eqb e.decl number other)))
      ]

-- WHAT THEY MEAN

-- the values of a unit in a column, if it names the table
abbrev term_of : ℕ → ℕ → ℕ → HeadAndForest → List (UnitHead × Meaning)
term_of place number j unit = cond (eqb unit.head.table place) (map (λ (v : Value). (unit.head, meant_in unit.forest.section v)) (values_with number j unit)) []

meant_headed : (section : List ℕ) (head : UnitHead) (values : List Value) → meant_with_heads section (headed head values) ≡ map (λ (v : Value). (head, meant_in section v)) values
meant_headed section head [] = refl
meant_headed section head (v ∷ vs) = ap (λ (ms : List (UnitHead × Meaning)). (head, meant_in section v) ∷ ms) (meant_headed section head vs)

meant_append : (section : List ℕ) (values others : List Headed) → meant_with_heads section (values ++ others) ≡ meant_with_heads section values ++ meant_with_heads section others
meant_append section values others = map-append (λ (v : Headed). (v.0, meant_in section v.1)) values others

module _ (units : List HeadAndForest) (table : NamedTable) (section table_of : List ℕ) (i : ℕ) (of : AreOfTable units table section table_of i) where
  -- the unit is held by the bytes that it lends
  held_here : (u : ℕ) → u < length units → slice_index table_of u ≡ i → IsUnitHeld (unit_in units u).forest.section (unit_in units u).head (declarations_of table.table) (unit_in units u).forest
  held_here u below is =
      let unit : HeadAndForest = unit_in units u in
      subst (λ (z : List ℕ). IsUnitHeld z unit.head (declarations_of table.table) unit.forest) (sym (of.lent u below is)) (of.held u below is)

  declared_here : (u : ℕ) → u < length units → slice_index table_of u ≡ i → All (λ (e : Entry). e.decl < length table.table.decls) (unit_in units u).forest.entries
  declared_here u below is =
      let unit : HeadAndForest = unit_in units u in
      All-from_get_or (λ (e : Entry). e.decl < length table.table.decls) unit.forest.entries (entry_at [] 0) (λ id inside. entry_declared table.table unit of.stands (held_here u below is) id inside)

  module _ (number j : ℕ) (known : number < length table.table.decls) (inside : j < (decl_at table.table.decls number).count) where
    abbrev place_of : ℕ
    place_of = (decl_at table.table.decls number).first + j

    abbrev term : HeadAndForest → List (UnitHead × Meaning)
    term = term_of table.place number j

    abbrev own : ℕ → List Headed
    own u = values_of_unit table.table.decls (unit_in units u) ((decl_at table.table.decls number).first + j)

    unit_means : (u : ℕ) → u < length units → slice_index table_of u ≡ i → meant_with_heads section (own u) ≡ term (unit_in units u)
    unit_means u below is =
        let unit : HeadAndForest = unit_in units u in
        let mean : List ℕ → Value → UnitHead × Meaning = λ (s : List ℕ) (v : Value). (unit.head, meant_in s v) in
        let all : List (UnitHead × Meaning) = map (mean unit.forest.section) (values_with number j unit) in
        meant_headed section unit.head (values_in_column table.table.decls unit.forest.values unit.forest.entries place_of)
        ∙ ap (map (mean section)) (values_are table.table.decls (length table.table.specs) of.stands.2.adjacent unit.forest.values number j known inside unit.forest.entries (declared_here u below is))
        ∙ ap (λ (s : List ℕ). map (mean s) (values_with number j unit)) (sym (of.lent u below is))
        ∙ sym (cond-true {A = List (UnitHead × Meaning)} (eqb unit.head.table table.place) all [] (eq-eqb unit.head.table table.place (of.named u below is)))

    unit_apart : (u : ℕ) → u < length units → slice_index table_of u ≢ i → term (unit_in units u) ≡ []
    unit_apart u below other =
        let unit : HeadAndForest = unit_in units u in
        let all : List (UnitHead × Meaning) = map (λ (v : Value). (unit.head, meant_in unit.forest.section v)) (values_with number j unit) in
        cond-false {A = List (UnitHead × Meaning)} (eqb unit.head.table table.place) all [] (ne_eqb unit.head.table table.place (of.apart u below other))

    means_to : (n : ℕ) → n ≤ length units → meant_with_heads section (values_of_units units table.table.decls (units_with table_of i n) place_of) ≡ flat_map term (take n units)
    means_to zero most = refl
    means_to (suc n) most =
        let below : n < length units = omega arith in
        let before = means_to n (omega arith) in
        let us : List ℕ = units_with table_of i n in
        let next : n + 1 ≡ suc n = omega arith in
        let more : flat_map term (take n units) ++ term (unit_in units n) ≡ flat_map term (take (suc n) units) =
        flat_map_more term [] (take n units) (unit_in units n) ∙ ap (flat_map term) (sym (take_more units n (unit_in [] 0) below) ∙ ap (λ (m : ℕ). take m units) next) in
        elim (cases_eq (get_or table_of n 0) i) [
          | inl same ↦
              ap (λ (ns : List ℕ). meant_with_heads section (flat_map own ns)) (cond-true {A = List ℕ} (eqb (get_or table_of n 0) i) (us ++ n ∷ []) us (eq-eqb (get_or table_of n 0) i same))
              ∙ ap (meant_with_heads section) (sym (flat_map_more own [] us n))
              ∙ meant_append section (flat_map own us) (own n)
              ∙ ap (λ (ms : List (UnitHead × Meaning)). ms ++ meant_with_heads section (own n)) before
              ∙ ap (λ (ms : List (UnitHead × Meaning)). flat_map term (take n units) ++ ms) (unit_means n below same)
              ∙ more
          | inr other ↦
              ap (λ (ns : List ℕ). meant_with_heads section (flat_map own ns)) (cond-false {A = List ℕ} (eqb (get_or table_of n 0) i) (us ++ n ∷ []) us (ne_eqb (get_or table_of n 0) i other))
              ∙ before
              ∙ sym (append-nil (flat_map term (take n units)))
              ∙ ap (λ (ms : List (UnitHead × Meaning)). flat_map term (take n units) ++ ms) (sym (unit_apart n below other))
              ∙ more
        ]

    -- the values that are gathered for a column of a declaration are those of all its entries
    means : meant_with_heads section (values_of_units units table.table.decls (units_with table_of i (length units)) ((decl_at table.table.decls number).first + j)) ≡ column_values units table.place number j
    means = means_to (length units) (omega arith) ∙ ap (flat_map term) (take-length units)

-- HOW MANY

-- there are as many as entries have the declaration
term_count : (place number j : ℕ) (unit : HeadAndForest) → length (term_of place number j unit) ≡ cond (eqb unit.head.table place) (entries_with number unit) 0
term_count place number j unit =
    let named : Value → UnitHead × Meaning = λ (v : Value). (unit.head, meant_in unit.forest.section v) in
    let all : List (UnitHead × Meaning) = map named (values_with number j unit) in
    let few : List Entry = filter (has_decl number) unit.forest.entries in
    elim (cases_Bool (eqb unit.head.table place)) [
      | inl here ↦
          ap length (cond-true {A = List (UnitHead × Meaning)} (eqb unit.head.table place) all [] here)
          ∙ length-map (values_with number j unit) named
          ∙ length-map few (λ (e : Entry). value_at unit.forest.values (e.first + j))
          ∙ length-filter (has_decl number) unit.forest.entries
          ∙ sym (cond-true {A = ℕ} (eqb unit.head.table place) (entries_with number unit) 0 here)
      | inr other ↦ ap length (cond-false {A = List (UnitHead × Meaning)} (eqb unit.head.table place) all [] other) ∙ sym (cond-false {A = ℕ} (eqb unit.head.table place) (entries_with number unit) 0 other)
    ]

values_count : (units : List HeadAndForest) (place number j : ℕ) → length (column_values units place number j) ≡ uses_of units place number
values_count [] place number j = refl
values_count (unit ∷ units) place number j =
    let rest : length (column_values units place number j) ≡ uses_of units place number = values_count units place number j in
    omega (arith, length-append (term_of place number j unit) (column_values units place number j), term_count place number j unit, rest, sum_by-cons (λ (x : HeadAndForest). cond (eqb x.head.table place) (entries_with number x) 0) unit units)

-- WHAT SPELLS THEM

module _ (table : Listing) (unit : HeadAndForest) (known : IsTable table) (held : IsUnitHeld unit.forest.section unit.head (declarations_of table) unit.forest) (id : ℕ) (inside : id < length unit.forest.entries) where
  own_spelled : (j : ℕ) → j < (decl_at table.decls (entry_at unit.forest.entries id).decl).count → IsSpelledBy unit.forest.section (spec_at table.specs ((decl_at table.decls (entry_at unit.forest.entries id).decl).first + j)) (value_at unit.forest.values ((entry_at unit.forest.entries id).first + j))
  own_spelled j below =
      let e : Entry = entry_at unit.forest.entries id in
      let d : Decl = decl_at table.decls e.decl in
      let stands = entry_stands unit.forest.section unit.head (declarations_of table) unit.forest refl held id inside in
      let declared : e.decl < length table.decls = entry_declared table unit known held id inside in
      let counted : e.count ≡ d.count = entry_counted table unit known held id inside in
      let columns : (declared_at (declarations_of table) e.decl).columns ≡ take d.count (drop d.first table.specs) = ap (λ (z : Declared). z.columns) (declared_is table e.decl declared) in
      let valued : ValuesBetween unit.forest.section (take d.count (drop d.first table.specs)) (take e.count (drop e.first unit.forest.values)) stands.values_at (e.at + e.len) =
      subst (λ (cs : List Spec). ValuesBetween unit.forest.section cs (take e.count (drop e.first unit.forest.values)) stands.values_at (e.at + e.len)) columns stands.valued in
      let wide : j < length (take d.count (drop d.first table.specs)) = omega (arith, length-take-le d.count (drop d.first table.specs) (omega (arith, length-drop d.first table.specs, columns_inside table e.decl known declared)), below) in
      let spelled = spelled_between unit.forest.section (take d.count (drop d.first table.specs)) (take e.count (drop e.first unit.forest.values)) stands.values_at (e.at + e.len) j valued wide in
      let spec : spec_at (take d.count (drop d.first table.specs)) j ≡ spec_at table.specs (d.first + j) = get_or-take d.count (drop d.first table.specs) j (spec_at [] 0) below ∙ get_or-drop d.first table.specs j (spec_at [] 0) in
      let value : value_at (take e.count (drop e.first unit.forest.values)) j ≡ value_at unit.forest.values (e.first + j) = get_or-take e.count (drop e.first unit.forest.values) j (value_at [] 0) (omega arith) ∙ get_or-drop e.first unit.forest.values j (value_at [] 0) in
      subst (λ (c : Spec). IsSpelledBy unit.forest.section c (value_at unit.forest.values (e.first + j))) spec (subst (λ (v : Value). IsSpelledBy unit.forest.section (spec_at (take d.count (drop d.first table.specs)) j) v) value spelled)

  entry_spelled : (number j : ℕ) → j < (decl_at table.decls number).count → (entry_at unit.forest.entries id).decl ≡ number → IsSpelledBy unit.forest.section (spec_at table.specs ((decl_at table.decls number).first + j)) (value_at unit.forest.values ((entry_at unit.forest.entries id).first + j))
  entry_spelled number j below same =
      let e : Entry = entry_at unit.forest.entries id in
      let within : j < (decl_at table.decls e.decl).count = subst (λ (n : ℕ). j < (decl_at table.decls n).count) (sym same) below in
      subst (λ (n : ℕ). IsSpelledBy unit.forest.section (spec_at table.specs ((decl_at table.decls n).first + j)) (value_at unit.forest.values (e.first + j))) same (own_spelled j within)

-- without the headers
abbrev plain : List (UnitHead × Meaning) → List Meaning
plain values = map (λ (v : UnitHead × Meaning). v.1) values

module _ (section : List ℕ) (head : UnitHead) (c : Spec) (values : List Value) (number j : ℕ) where
  abbrev value_of : Entry → Value
  value_of e = value_at values (e.first + j)

  abbrev Fits : Entry → Type 0
  Fits e = e.decl ≡ number → IsSpelledBy section c (value_at values (e.first + j))

  -- what values of entries mean
  abbrev meant : List Entry → List Meaning
  meant es = plain (map (λ (v : Value). (head, meant_in section v)) (map (λ (e : Entry). value_at values (e.first + j)) es))

  entries_spelled : (entries : List Entry) → All (λ (e : Entry). e.decl ≡ number → (bytes : List ℕ) × SpellsValue c.name c.form c.constant (meant_in section (value_at values (e.first + j))) bytes) entries → AreSpelled c.name c.form c.constant (plain (map (λ (v : Value). (head, meant_in section v)) (map (λ (e : Entry). value_at values (e.first + j)) (filter (λ (e : Entry). eqb e.decl number) entries))))
  entries_spelled [] all = tt
  entries_spelled (e ∷ es) all =
      let rest = entries_spelled es (All-tail Fits e es all) in
      let few : List Entry = filter (has_decl number) es in
      elim (cases_eq e.decl number) [
        | inl same ↦
            let more : AreSpelled c.name c.form c.constant (meant (e ∷ few)) = (All-head Fits e es all same, rest) in
            subst (λ (zs : List Entry). AreSpelled c.name c.form c.constant (meant zs)) (sym (cond-true {A = List Entry} (eqb e.decl number) (e ∷ few) few (eq-eqb e.decl number same))) more
        | inr other ↦ subst (λ (zs : List Entry). AreSpelled c.name c.form c.constant (meant zs)) (sym (cond-false {A = List Entry} (eqb e.decl number) (e ∷ few) few (ne_eqb e.decl number other))) rest
      ]

spelled_append : (name code : ℕ) (constant : ℤ) (ms ns : List Meaning) → AreSpelled name code constant ms → AreSpelled name code constant ns → AreSpelled name code constant (ms ++ ns)
spelled_append name code constant [] ns first second = second
spelled_append name code constant (m ∷ ms) ns (here, rest) second = (here, spelled_append name code constant ms ns rest second)

units_spelled : (name code : ℕ) (constant : ℤ) (term : HeadAndForest → List (UnitHead × Meaning)) (units : List HeadAndForest) → All (λ (unit : HeadAndForest). AreSpelled name code constant (plain (term unit))) units → AreSpelled name code constant (plain (flat_map term units))
units_spelled name code constant term [] all = tt
units_spelled name code constant term (unit ∷ units) all =
    let rest = units_spelled name code constant term units (All-tail (λ (x : HeadAndForest). AreSpelled name code constant (plain (term x))) unit units all) in
    let own = All-head (λ (x : HeadAndForest). AreSpelled name code constant (plain (term x))) unit units all in
    subst (λ (ms : List Meaning). AreSpelled name code constant ms) (sym (map-append (λ (v : UnitHead × Meaning). v.1) (term unit) (flat_map term units))) (spelled_append name code constant (plain (term unit)) (plain (flat_map term units)) own rest)

module _ (units : List HeadAndForest) (table : NamedTable) (section table_of : List ℕ) (i : ℕ) (of : AreOfTable units table section table_of i) (number j : ℕ) (inside : j < (decl_at table.table.decls number).count) where
  abbrev own_column : Spec
  own_column = spec_at table.table.specs ((decl_at table.table.decls number).first + j)

  unit_spelled : (u : ℕ) → u < length units → slice_index table_of u ≡ i → AreSpelled own_column.name own_column.form own_column.constant (plain (map (λ (v : Value). ((unit_in units u).head, meant_in (unit_in units u).forest.section v)) (values_with number j (unit_in units u))))
  unit_spelled u below is =
      let unit : HeadAndForest = unit_in units u in
      let each = All-from_get_or (λ (e : Entry). e.decl ≡ number → IsSpelledBy unit.forest.section own_column (value_at unit.forest.values (e.first + j))) unit.forest.entries (entry_at [] 0)
      (λ id known same. entry_spelled table.table unit of.stands (held_here units table section table_of i of u below is) id known number j inside same) in
      entries_spelled unit.forest.section unit.head own_column unit.forest.values number j unit.forest.entries each

  term_spelled : (u : ℕ) → u < length units → AreSpelled own_column.name own_column.form own_column.constant (plain (term_of table.place number j (unit_in units u)))
  term_spelled u below =
      let unit : HeadAndForest = unit_in units u in
      cond_both (eqb unit.head.table table.place) (map (λ (v : Value). (unit.head, meant_in unit.forest.section v)) (values_with number j unit)) [] (λ (ms : List (UnitHead × Meaning)). AreSpelled own_column.name own_column.form own_column.constant (plain ms))
      (λ named. elim (cases_eq (slice_index table_of u) i) [
        | inl is ↦ unit_spelled u below is
        | inr other ↦ absurd (of.apart u below other (eqb-true unit.head.table table.place named))
      ])
      (λ _. tt)

  -- the form of a column spells the values of all its entries
  values_spelled : AreSpelled (spec_at table.table.specs ((decl_at table.table.decls number).first + j)).name (spec_at table.table.specs ((decl_at table.table.decls number).first + j)).form (spec_at table.table.specs ((decl_at table.table.decls number).first + j)).constant (plain (column_values units table.place number j))
  values_spelled = units_spelled own_column.name own_column.form own_column.constant (term_of table.place number j) units (All-from_get_or (λ (unit : HeadAndForest). AreSpelled own_column.name own_column.form own_column.constant (plain (term_of table.place number j unit))) units (unit_in [] 0) term_spelled)

-- ALL COLUMNS OF A TABLE

module _ (units : List HeadAndForest) (table : NamedTable) (named : List ℕ) (all : AreAllNamers units table named) where
  -- what is asked of the units
  pub units_listed : AreUnitsOf units table.table named all.section
  units_listed = subst (λ (ns : List ℕ). AreUnitsOf units table.table ns all.section) (sym all.listed) (units_of_table units table all.section all.table_of all.number all.of)

  abbrev gathered_values : ℕ → List Headed
  gathered_values k = values_of_units units table.table.decls named k

  meant_here : (k j : ℕ) → k < length table.table.decls → j < (decl_at table.table.decls k).count → meant_with_heads all.section (gathered_values ((decl_at table.table.decls k).first + j)) ≡ column_values units table.place k j
  meant_here k j known inside =
      ap (λ (ns : List ℕ). meant_with_heads all.section (values_of_units units table.table.decls ns ((decl_at table.table.decls k).first + j))) all.listed
      ∙ means units table all.section all.table_of all.number all.of k j known inside

  -- what is gathered are the values of all columns
  pub columns_held : (held : ColumnValues) → AreGathered units table.table named named held → HoldsColumns units table held
  columns_held held gathered = record {
    wide = gathered.wide;
    section = all.section;
    values = gathered_values;
    holds = gathered.holds all.section units_listed;
    mean = meant_here;
    some = λ k j known inside none.
        let mean : column_values units table.place k j ≡ [] = sym (meant_here k j known inside) ∙ ap (meant_with_heads all.section) none in
        all.used k known (sym (values_count units table.place k j) ∙ ap length mean);
    spelled = λ k j known inside.
        let c : Spec = spec_at table.table.specs ((decl_at table.table.decls k).first + j) in
        let same : plain (column_values units table.place k j) ≡ meanings_in all.section (without_heads (gathered_values ((decl_at table.table.decls k).first + j))) = ap plain (sym (meant_here k j known inside)) ∙ plain_same all.section (gathered_values ((decl_at table.table.decls k).first + j)) in
        subst (λ (ms : List Meaning). AreSpelled c.name c.form c.constant ms) same (values_spelled units table all.section all.table_of all.number all.of k j inside);
  }

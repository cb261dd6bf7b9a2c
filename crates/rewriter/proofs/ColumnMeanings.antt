-- The values that are gathered for a column are those of all entries that have its declaration.
use Rattle.std.proofs.Common.{◌≡◌, ◌≢◌, ◌≤◌, ◌<◌, ◌+◌, ◌∙◌, inl, inr, ℕ, zero, suc, Bool, List, [], ◌∷◌, ◌++◌, length, map, take, get_or, cond, eqb, sym, ap, refl, subst, arith}
use Rattle.std.specs.Prelude.{slice_index, filter, flat_map}
use Rattle.std.specs.List.{All, sum_by}
use Rattle.std.proofs.lemmas.Bool.{cases_eq, cases_lt, cases_Bool, cond-true, cond-false, cond_both, eq-eqb, ne_eqb}
use Rattle.std.proofs.lemmas.List.{append-nil, flat_map_more, length-append, length-map, map-append, take_more}
use Rattle.std.proofs.lemmas.List.Elements.{All-head, All-tail, All-from_get_or}
use Rattle.std.proofs.lemmas.List.Sums.{length-filter, sum_by-cons}
use Rattle.std.proofs.Math.Seq.{take-length}
use Rattle.form_codec.specs.declared.value.Value.{Value}
use Rattle.form_codec.specs.Forms.{Meaning}
use Rattle.form_codec.specs.Values.{meant_in}
use Rattle.abbrev_tables.specs.declared.decl.Decl.{Decl}
use Rattle.abbrev_tables.specs.Listings.{decl_at, AreAdjacent}
use Rattle.abbrev_tables.proofs.Rows.{first_after}
use Rattle.entry_arena.specs.declared.entry.Entry.{Entry}
use Rattle.entry_arena.specs.Arena.{entry_at, value_at}
use Rattle.entry_read.specs.declared.head.UnitHead.{UnitHead}
use Rattle.entry_read.specs.Units.{HeadAndForest, declarations_of, IsTable, IsUnitHeld, entry_limit}
use Rattle.value_links.specs.declared.units.NamedTable.{NamedTable}
use Rattle.written_files.specs.Uses.{entries_with, uses_of, values_with, column_values, counted_inside, are_inside, taken_meanings, column_meanings}
use Rattle.rewriter.specs.inside.Placed.{unit_in}
use Rattle.rewriter.specs.inside.Columns.{units_with, value_in_column, values_in_column, values_of_units, meanings_of_units, with_head}
use Rattle.rewriter.proofs.ColumnRows.{column_outside, value_here, value_none}
use Rattle.rewriter.proofs.ColumnUnits.{entry_declared}

-- COLUMNS OF DECLARATIONS

-- those of a declaration stand before those of a later one
pub columns_rise : (from : ℕ) (decls : List Decl) (to i j : ℕ) → AreAdjacent from decls to → i < j → j < length decls → (decl_at decls i).first + (decl_at decls i).count ≤ (decl_at decls j).first
columns_rise from [] to i j a less below = absurd (omega arith)
columns_rise from (d ∷ decls) to i zero a less below = absurd (omega arith)
columns_rise from (d ∷ decls) to zero (suc j) (e, a) less below =
    let first : d.first ≡ from = e in
    let rest : from + d.count ≤ (decl_at decls j).first = first_after (from + d.count) decls to j a (omega arith) in
    omega arith
columns_rise from (d ∷ decls) to (suc i) (suc j) (e, a) less below = columns_rise (from + d.count) decls to i j a (omega arith) (omega arith)

-- A UNIT

-- whether an entry has the declaration with a number
abbrev pub has_decl : ℕ → Entry → Bool
has_decl number e = eqb e.decl number

module _ (decls : List Decl) (to : ℕ) (adjacent : AreAdjacent 0 decls to) (values : List Value) (number j : ℕ) (known : number < length decls) (inside : j < (decl_at decls number).count) where
  abbrev column : ℕ
  column = (decl_at decls number).first + j

  of_own : (e : Entry) → e.decl ≡ number → value_in_column decls values ((decl_at decls number).first + j) e ≡ value_at values (e.first + j) ∷ []
  of_own e same =
      let within : j < (decl_at decls e.decl).count = subst (λ (n : ℕ). j < (decl_at decls n).count) (sym same) inside in
      subst (λ (n : ℕ). value_in_column decls values ((decl_at decls n).first + j) e ≡ value_at values (e.first + j) ∷ []) same (value_here decls values e j within)

  of_other : (e : Entry) → e.decl < length decls → e.decl ≢ number → value_in_column decls values ((decl_at decls number).first + j) e ≡ []
  of_other e declared other = value_none decls values e column (column_outside (decl_at decls e.decl) column (elim (cases_lt e.decl number) [
    | inl less ↦ inr (omega (arith, columns_rise 0 decls to e.decl number adjacent less known))
    | inr more ↦
        let less : number < e.decl = (let o : e.decl ≢ number = other in omega arith) in
        inl (omega (arith, columns_rise 0 decls to number e.decl adjacent less declared, inside))
  ]))

  -- the values of entries in a column of a declaration are those of the entries that have the declaration
  pub values_are : (entries : List Entry) → All (λ (e : Entry). e.decl < length decls) entries → values_in_column decls values entries ((decl_at decls number).first + j) ≡ map (λ (e : Entry). value_at values (e.first + j)) (filter (λ (e : Entry). eqb e.decl number) entries)
  values_are [] all = refl
  values_are (e ∷ es) all =
      let value_of : Entry → Value = λ (x : Entry). value_at values (x.first + j) in
      let rest = values_are es (All-tail (λ (x : Entry). x.decl < length decls) e es all) in
      let few : List Entry = filter (has_decl number) es in
      elim (cases_eq e.decl number) [
        | inl same ↦
            ap (λ (vs : List Value). vs ++ values_in_column decls values es column) (of_own e same)
            ∙ ap (λ (vs : List Value). value_at values (e.first + j) ∷ vs) rest
            ∙ sym (ap (map value_of) (cond-true {A = List Entry} (eqb e.decl number) (e ∷ few) few (eq-eqb e.decl number same)))
        | inr other ↦
            ap (λ (vs : List Value). vs ++ values_in_column decls values es column) (of_other e (All-head (λ (x : Entry). x.decl < length decls) e es all) other)
            ∙ rest
            ∙ sym (ap (map value_of) (cond-false {A = List Entry} (eqb e.decl number) (e ∷ few) few (ne_eqb e.decl number other)))
      ]

-- ALL UNITS

abbrev pub entry_count : HeadAndForest → ℕ
entry_count unit = length unit.forest.entries

-- Those units that have the table with a number name its place, and no others do. Their entries are by its declarations, all in one
-- section, and there are no more of them than a file may have.
pub record AreOfTable (units : List HeadAndForest) (table : NamedTable) (section : List ℕ) (table_of : List ℕ) (i : ℕ) : Type 0 where
  pub stands : IsTable table.table
  pub named : (u : ℕ) → u < length units → slice_index table_of u ≡ i → (unit_in units u).head.table ≡ table.place
  pub apart : (u : ℕ) → u < length units → slice_index table_of u ≢ i → (unit_in units u).head.table ≢ table.place
  pub lent : (u : ℕ) → u < length units → slice_index table_of u ≡ i → (unit_in units u).forest.section ≡ section
  pub held : (u : ℕ) → u < length units → slice_index table_of u ≡ i → IsUnitHeld section (unit_in units u).head (declarations_of table.table) (unit_in units u).forest
  pub few : sum_by entry_count units ≤ entry_limit

-- the values of a unit in a column, if it names the table
abbrev pub term_of : ℕ → ℕ → ℕ → HeadAndForest → List (UnitHead × Meaning)
term_of place number j unit = cond (eqb unit.head.table place) (with_head unit (values_with number j unit)) []

module _ (units : List HeadAndForest) (table : NamedTable) (section table_of : List ℕ) (i : ℕ) (of : AreOfTable units table section table_of i) where
  -- the unit is held by the bytes that it lends
  pub held_here : (u : ℕ) → u < length units → slice_index table_of u ≡ i → IsUnitHeld (unit_in units u).forest.section (unit_in units u).head (declarations_of table.table) (unit_in units u).forest
  held_here u below is =
      let unit : HeadAndForest = unit_in units u in
      subst (λ (z : List ℕ). IsUnitHeld z unit.head (declarations_of table.table) unit.forest) (sym (of.lent u below is)) (of.held u below is)

  declared_here : (u : ℕ) → u < length units → slice_index table_of u ≡ i → All (λ (e : Entry). e.decl < length table.table.decls) (unit_in units u).forest.entries
  declared_here u below is =
      let unit : HeadAndForest = unit_in units u in
      All-from_get_or (λ (e : Entry). e.decl < length table.table.decls) unit.forest.entries (entry_at [] 0) (λ id inside. entry_declared table.table unit of.stands (held_here u below is) id inside)

  module _ (number j : ℕ) (known : number < length table.table.decls) (inside : j < (decl_at table.table.decls number).count) where
    abbrev place_of : ℕ
    place_of = (decl_at table.table.decls number).first + j

    abbrev term : HeadAndForest → List (UnitHead × Meaning)
    term = term_of table.place number j

    abbrev own : ℕ → List (UnitHead × Meaning)
    own u = with_head (unit_in units u) (values_in_column table.table.decls (unit_in units u).forest.values (unit_in units u).forest.entries ((decl_at table.table.decls number).first + j))

    unit_means : (u : ℕ) → u < length units → slice_index table_of u ≡ i → own u ≡ term (unit_in units u)
    unit_means u below is =
        let unit : HeadAndForest = unit_in units u in
        let all : List (UnitHead × Meaning) = with_head unit (values_with number j unit) in
        ap (with_head unit) (values_are table.table.decls (length table.table.specs) of.stands.2.adjacent unit.forest.values number j known inside unit.forest.entries (declared_here u below is))
        ∙ sym (cond-true {A = List (UnitHead × Meaning)} (eqb unit.head.table table.place) all [] (eq-eqb unit.head.table table.place (of.named u below is)))

    unit_apart : (u : ℕ) → u < length units → slice_index table_of u ≢ i → term (unit_in units u) ≡ []
    unit_apart u below other =
        let unit : HeadAndForest = unit_in units u in
        let all : List (UnitHead × Meaning) = with_head unit (values_with number j unit) in
        cond-false {A = List (UnitHead × Meaning)} (eqb unit.head.table table.place) all [] (ne_eqb unit.head.table table.place (of.apart u below other))

    means_to : (n : ℕ) → n ≤ length units → meanings_of_units units table.table.decls (units_with table_of i n) place_of ≡ flat_map term (take n units)
    means_to zero most = refl
    means_to (suc n) most =
        let below : n < length units = omega arith in
        let before = means_to n (omega arith) in
        let us : List ℕ = units_with table_of i n in
        let next : n + 1 ≡ suc n = omega arith in
        let more : flat_map term (take n units) ++ term (unit_in units n) ≡ flat_map term (take (suc n) units) =
        flat_map_more term [] (take n units) (unit_in units n) ∙ ap (flat_map term) (sym (take_more units n (unit_in [] 0) below) ∙ ap (λ (m : ℕ). take m units) next) in
        elim (cases_eq (get_or table_of n 0) i) [
          | inl same ↦
              ap (flat_map own) (cond-true {A = List ℕ} (eqb (get_or table_of n 0) i) (us ++ n ∷ []) us (eq-eqb (get_or table_of n 0) i same))
              ∙ sym (flat_map_more own [] us n)
              ∙ ap (λ (ms : List (UnitHead × Meaning)). ms ++ own n) before
              ∙ ap (λ (ms : List (UnitHead × Meaning)). flat_map term (take n units) ++ ms) (unit_means n below same)
              ∙ more
          | inr other ↦
              ap (flat_map own) (cond-false {A = List ℕ} (eqb (get_or table_of n 0) i) (us ++ n ∷ []) us (ne_eqb (get_or table_of n 0) i other))
              ∙ before
              ∙ sym (append-nil (flat_map term (take n units)))
              ∙ ap (λ (ms : List (UnitHead × Meaning)). flat_map term (take n units) ++ ms) (sym (unit_apart n below other))
              ∙ more
        ]

    -- the values that are gathered for a column of a declaration are those of all its entries
    pub means : meanings_of_units units table.table.decls (units_with table_of i (length units)) ((decl_at table.table.decls number).first + j) ≡ column_values units table.place number j
    means = means_to (length units) (omega arith) ∙ ap (flat_map term) (take-length units)

-- WITHOUT THE HEADERS

-- what the values mean
abbrev pub plain : List (UnitHead × Meaning) → List Meaning
plain values = map (λ (v : UnitHead × Meaning). v.1) values

pub plain_of : (unit : HeadAndForest) (values : List Value) → plain (with_head unit values) ≡ map (meant_in unit.forest.section) values
plain_of unit [] = refl
plain_of unit (v ∷ vs) = ap (λ (ms : List Meaning). meant_in unit.forest.section v ∷ ms) (plain_of unit vs)

pub plain_append : (values others : List (UnitHead × Meaning)) → plain (values ++ others) ≡ plain values ++ plain others
plain_append values others = map-append (λ (v : UnitHead × Meaning). v.1) values others

-- all in one section
abbrev Lends : List HeadAndForest → List ℕ → ℕ → Type 0
Lends units section u = (unit_in units u).forest.section ≡ section

pub plain_means : (units : List HeadAndForest) (decls : List Decl) (section named : List ℕ) (k : ℕ) → All (λ (u : ℕ). (unit_in units u).forest.section ≡ section) named → plain (meanings_of_units units decls named k) ≡ map (meant_in section) (values_of_units units decls named k)
plain_means units decls section [] k all = refl
plain_means units decls section (u ∷ us) k all =
    let unit : HeadAndForest = unit_in units u in
    let own : List Value = values_in_column decls unit.forest.values unit.forest.entries k in
    let rest = plain_means units decls section us k (All-tail (Lends units section) u us all) in
    let here : plain (with_head unit own) ≡ map (meant_in section) own = plain_of unit own ∙ ap (λ (z : List ℕ). map (meant_in z) own) (All-head (Lends units section) u us all) in
    plain_append (with_head unit own) (meanings_of_units units decls us k)
    ∙ ap (λ (ms : List Meaning). ms ++ plain (meanings_of_units units decls us k)) here
    ∙ ap (λ (ms : List Meaning). map (meant_in section) own ++ ms) rest
    ∙ sym (map-append (meant_in section) own (values_of_units units decls us k))

-- HOW MANY

-- there are as many as entries have the declaration
term_count : (place number j : ℕ) (unit : HeadAndForest) → length (term_of place number j unit) ≡ cond (eqb unit.head.table place) (entries_with number unit) 0
term_count place number j unit =
    let named : Value → UnitHead × Meaning = λ (v : Value). (unit.head, meant_in unit.forest.section v) in
    let all : List (UnitHead × Meaning) = with_head unit (values_with number j unit) in
    let few : List Entry = filter (has_decl number) unit.forest.entries in
    elim (cases_Bool (eqb unit.head.table place)) [
      | inl here ↦
          ap length (cond-true {A = List (UnitHead × Meaning)} (eqb unit.head.table place) all [] here)
          ∙ length-map (values_with number j unit) named
          ∙ length-map few (λ (e : Entry). value_at unit.forest.values (e.first + j))
          ∙ length-filter (has_decl number) unit.forest.entries
          ∙ sym (cond-true {A = ℕ} (eqb unit.head.table place) (entries_with number unit) 0 here)
      | inr other ↦ ap length (cond-false {A = List (UnitHead × Meaning)} (eqb unit.head.table place) all [] other) ∙ sym (cond-false {A = ℕ} (eqb unit.head.table place) (entries_with number unit) 0 other)
    ]

pub values_count : (units : List HeadAndForest) (place number j : ℕ) → length (column_values units place number j) ≡ uses_of units place number
values_count [] place number j = refl
values_count (unit ∷ units) place number j =
    let rest : length (column_values units place number j) ≡ uses_of units place number = values_count units place number j in
    omega (arith, length-append (term_of place number j unit) (column_values units place number j), term_count place number j unit, rest, sum_by-cons (λ (x : HeadAndForest). cond (eqb x.head.table place) (entries_with number x) 0) unit units)

taken_count : (values : List (UnitHead × Meaning)) → length (taken_meanings values) ≡ length values
taken_count values =
    let counted : UnitHead × Meaning → Meaning = λ (v : UnitHead × Meaning). counted_inside v.0 v.1 in
    cond_both (are_inside values) (map counted values) (plain values) (λ (ms : List Meaning). length ms ≡ length values) (λ _. length-map values counted) (λ _. length-map values (λ (v : UnitHead × Meaning). v.1))

-- and so many are what they are taken to mean
pub meanings_count : (units : List HeadAndForest) (place number j : ℕ) → length (column_meanings units place number j) ≡ uses_of units place number
meanings_count units place number j = taken_count (column_values units place number j) ∙ values_count units place number j

-- The form of a column spells the values that entries have in it.
use Rattle.std.proofs.Common.{◌≡◌, ◌<◌, ◌+◌, ◌∙◌, inl, inr, ℕ, zero, suc, List, [], ◌∷◌, ◌++◌, length, map, take, drop, eqb, sym, ap, subst, arith, refl}
use Rattle.std.specs.Prelude.{ℤ, slice_index, filter, flat_map}
use Rattle.std.specs.List.{All}
use Rattle.std.proofs.lemmas.Bool.{cases_eq, cond-true, cond-false, cond_both, eq-eqb, ne_eqb, eqb-true}
use Rattle.std.proofs.lemmas.List.{get_or-take, get_or-drop, length-drop, length-take-le}
use Rattle.std.proofs.lemmas.List.Elements.{All-head, All-tail, All-from_get_or}
use Rattle.form_codec.specs.declared.value.Value.{Value}
use Rattle.form_codec.specs.Forms.{Meaning, SpellsValue}
use Rattle.form_codec.specs.Values.{meant_in}
use Rattle.form_codec.specs.Columns.{AreSpelled}
use Rattle.abbrev_tables.specs.declared.decl.Decl.{Decl}
use Rattle.abbrev_tables.specs.declared.decl.Spec.{Spec}
use Rattle.abbrev_tables.specs.Tables.{Declared}
use Rattle.abbrev_tables.specs.Listings.{Listing, decl_at, spec_at}
use Rattle.entry_arena.specs.declared.entry.Entry.{Entry}
use Rattle.entry_arena.specs.Arena.{entry_at, value_at}
use Rattle.entry_arena.specs.Trees.{ValuesBetween, declared_at}
use Rattle.entry_read.specs.declared.head.UnitHead.{UnitHead}
use Rattle.entry_read.specs.Units.{HeadAndForest, declarations_of, IsTable, IsUnitHeld}
use Rattle.entry_read.proofs.Declarations.{columns_inside, declared_is}
use Rattle.entry_read.proofs.PlaceLaws.{entry_stands}
use Rattle.value_links.specs.declared.units.NamedTable.{NamedTable}
use Rattle.written_files.specs.Uses.{values_with, column_values}
use Rattle.rewriter.specs.inside.Placed.{unit_in}
use Rattle.rewriter.specs.inside.Columns.{with_head}
use Rattle.rewriter.proofs.ColumnUnits.{entry_declared, entry_counted}
use Rattle.rewriter.proofs.ColumnMeanings.{has_decl, AreOfTable, term_of, held_here, plain, plain_of, plain_append}

-- a column spells a value of a section
abbrev IsSpelled : List ℕ → Spec → Value → Type 0
IsSpelled section c v = (bytes : List ℕ) × SpellsValue c.name c.form c.constant (meant_in section v) bytes

value_spelled : (section : List ℕ) (cs : List Spec) (vs : List Value) (from to j : ℕ) → ValuesBetween section cs vs from to → j < length cs → IsSpelled section (spec_at cs j) (value_at vs j)
value_spelled section [] vs from to j p below = absurd (omega arith)
value_spelled section (c ∷ cs) [] from to j p below = absurd p
value_spelled section (c ∷ cs) (v ∷ vs) from to zero (next, s, placed, rest) below = (_, s.spelled)
value_spelled section (c ∷ cs) (v ∷ vs) from to (suc j) (next, s, placed, rest) below = value_spelled section cs vs next to j rest (omega arith)

-- AN ENTRY

module _ (table : Listing) (unit : HeadAndForest) (known : IsTable table) (held : IsUnitHeld unit.forest.section unit.head (declarations_of table) unit.forest) (id : ℕ) (inside : id < length unit.forest.entries) where
  own_spelled : (j : ℕ) → j < (decl_at table.decls (entry_at unit.forest.entries id).decl).count → IsSpelled unit.forest.section (spec_at table.specs ((decl_at table.decls (entry_at unit.forest.entries id).decl).first + j)) (value_at unit.forest.values ((entry_at unit.forest.entries id).first + j))
  own_spelled j below =
      let e : Entry = entry_at unit.forest.entries id in
      let d : Decl = decl_at table.decls e.decl in
      let stands = entry_stands unit.forest.section unit.head (declarations_of table) unit.forest refl held id inside in
      let declared : e.decl < length table.decls = entry_declared table unit known held id inside in
      let counted : e.count ≡ d.count = entry_counted table unit known held id inside in
      let columns : (declared_at (declarations_of table) e.decl).columns ≡ take d.count (drop d.first table.specs) = ap (λ (z : Declared). z.columns) (declared_is table e.decl declared) in
      let valued : ValuesBetween unit.forest.section (take d.count (drop d.first table.specs)) (take e.count (drop e.first unit.forest.values)) stands.values_at (e.at + e.len) =
      subst (λ (cs : List Spec). ValuesBetween unit.forest.section cs (take e.count (drop e.first unit.forest.values)) stands.values_at (e.at + e.len)) columns stands.valued in
      let wide : j < length (take d.count (drop d.first table.specs)) = omega (arith, length-take-le d.count (drop d.first table.specs) (omega (arith, length-drop d.first table.specs, columns_inside table e.decl known declared)), below) in
      let spelled = value_spelled unit.forest.section (take d.count (drop d.first table.specs)) (take e.count (drop e.first unit.forest.values)) stands.values_at (e.at + e.len) j valued wide in
      let spec : spec_at (take d.count (drop d.first table.specs)) j ≡ spec_at table.specs (d.first + j) = get_or-take d.count (drop d.first table.specs) j (spec_at [] 0) below ∙ get_or-drop d.first table.specs j (spec_at [] 0) in
      let value : value_at (take e.count (drop e.first unit.forest.values)) j ≡ value_at unit.forest.values (e.first + j) = get_or-take e.count (drop e.first unit.forest.values) j (value_at [] 0) (omega arith) ∙ get_or-drop e.first unit.forest.values j (value_at [] 0) in
      subst (λ (c : Spec). IsSpelled unit.forest.section c (value_at unit.forest.values (e.first + j))) spec (subst (λ (v : Value). IsSpelled unit.forest.section (spec_at (take d.count (drop d.first table.specs)) j) v) value spelled)

  pub entry_spelled : (number j : ℕ) → j < (decl_at table.decls number).count → (entry_at unit.forest.entries id).decl ≡ number → IsSpelled unit.forest.section (spec_at table.specs ((decl_at table.decls number).first + j)) (value_at unit.forest.values ((entry_at unit.forest.entries id).first + j))
  entry_spelled number j below same =
      let e : Entry = entry_at unit.forest.entries id in
      let within : j < (decl_at table.decls e.decl).count = subst (λ (n : ℕ). j < (decl_at table.decls n).count) (sym same) below in
      subst (λ (n : ℕ). IsSpelled unit.forest.section (spec_at table.specs ((decl_at table.decls n).first + j)) (value_at unit.forest.values (e.first + j))) same (own_spelled j within)

-- A UNIT

module _ (section : List ℕ) (c : Spec) (values : List Value) (number j : ℕ) where
  abbrev value_of : Entry → Value
  value_of e = value_at values (e.first + j)

  abbrev Fits : Entry → Type 0
  Fits e = e.decl ≡ number → IsSpelled section c (value_at values (e.first + j))

  pub entries_spelled : (entries : List Entry) → All (λ (e : Entry). e.decl ≡ number → (bytes : List ℕ) × SpellsValue c.name c.form c.constant (meant_in section (value_at values (e.first + j))) bytes) entries → AreSpelled c.name c.form c.constant (map (meant_in section) (map (λ (e : Entry). value_at values (e.first + j)) (filter (λ (e : Entry). eqb e.decl number) entries)))
  entries_spelled [] all = tt
  entries_spelled (e ∷ es) all =
      let rest = entries_spelled es (All-tail Fits e es all) in
      let few : List Entry = filter (has_decl number) es in
      elim (cases_eq e.decl number) [
        | inl same ↦
            let more : AreSpelled c.name c.form c.constant (map (meant_in section) (map value_of (e ∷ few))) = (All-head Fits e es all same, rest) in
            subst (λ (zs : List Entry). AreSpelled c.name c.form c.constant (map (meant_in section) (map value_of zs))) (sym (cond-true {A = List Entry} (eqb e.decl number) (e ∷ few) few (eq-eqb e.decl number same))) more
        | inr other ↦ subst (λ (zs : List Entry). AreSpelled c.name c.form c.constant (map (meant_in section) (map value_of zs))) (sym (cond-false {A = List Entry} (eqb e.decl number) (e ∷ few) few (ne_eqb e.decl number other))) rest
      ]

-- ALL UNITS

spelled_append : (name code : ℕ) (constant : ℤ) (ms ns : List Meaning) → AreSpelled name code constant ms → AreSpelled name code constant ns → AreSpelled name code constant (ms ++ ns)
spelled_append name code constant [] ns first second = second
spelled_append name code constant (m ∷ ms) ns (here, rest) second = (here, spelled_append name code constant ms ns rest second)

units_spelled : (name code : ℕ) (constant : ℤ) (term : HeadAndForest → List (UnitHead × Meaning)) (units : List HeadAndForest) → All (λ (unit : HeadAndForest). AreSpelled name code constant (plain (term unit))) units → AreSpelled name code constant (plain (flat_map term units))
units_spelled name code constant term [] all = tt
units_spelled name code constant term (unit ∷ units) all =
    let rest = units_spelled name code constant term units (All-tail (λ (x : HeadAndForest). AreSpelled name code constant (plain (term x))) unit units all) in
    let own = All-head (λ (x : HeadAndForest). AreSpelled name code constant (plain (term x))) unit units all in
    subst (λ (ms : List Meaning). AreSpelled name code constant ms) (sym (plain_append (term unit) (flat_map term units))) (spelled_append name code constant (plain (term unit)) (plain (flat_map term units)) own rest)

module _ (units : List HeadAndForest) (table : NamedTable) (section table_of : List ℕ) (i : ℕ) (of : AreOfTable units table section table_of i) (number j : ℕ) (inside : j < (decl_at table.table.decls number).count) where
  abbrev old : Spec
  old = spec_at table.table.specs ((decl_at table.table.decls number).first + j)

  unit_spelled : (u : ℕ) → u < length units → slice_index table_of u ≡ i → AreSpelled old.name old.form old.constant (plain (with_head (unit_in units u) (values_with number j (unit_in units u))))
  unit_spelled u below is =
      let unit : HeadAndForest = unit_in units u in
      let each = All-from_get_or (λ (e : Entry). e.decl ≡ number → IsSpelled unit.forest.section old (value_at unit.forest.values (e.first + j))) unit.forest.entries (entry_at [] 0)
      (λ id known same. entry_spelled table.table unit of.stands (held_here units table section table_of i of u below is) id known number j inside same) in
      subst (λ (ms : List Meaning). AreSpelled old.name old.form old.constant ms) (sym (plain_of unit (values_with number j unit))) (entries_spelled unit.forest.section old unit.forest.values number j unit.forest.entries each)

  term_spelled : (u : ℕ) → u < length units → AreSpelled old.name old.form old.constant (plain (term_of table.place number j (unit_in units u)))
  term_spelled u below =
      let unit : HeadAndForest = unit_in units u in
      cond_both (eqb unit.head.table table.place) (with_head unit (values_with number j unit)) [] (λ (ms : List (UnitHead × Meaning)). AreSpelled old.name old.form old.constant (plain ms))
      (λ named. elim (cases_eq (slice_index table_of u) i) [
        | inl is ↦ unit_spelled u below is
        | inr other ↦ absurd (of.apart u below other (eqb-true unit.head.table table.place named))
      ])
      (λ _. tt)

  -- the old form of a column spells the values of all its entries
  pub values_spelled : AreSpelled (spec_at table.table.specs ((decl_at table.table.decls number).first + j)).name (spec_at table.table.specs ((decl_at table.table.decls number).first + j)).form (spec_at table.table.specs ((decl_at table.table.decls number).first + j)).constant (plain (column_values units table.place number j))
  values_spelled = units_spelled old.name old.form old.constant (term_of table.place number j) units (All-from_get_or (λ (unit : HeadAndForest). AreSpelled old.name old.form old.constant (plain (term_of table.place number j unit))) units (unit_in [] 0) term_spelled)

-- The new numbers of a unit, from those of its values.
use Rattle.std.proofs.Common.{◌≡◌, ◌≤◌, ◌<◌, ◌+◌, ◌++◌, ℕ, List, [], ◌∷◌, length, take, drop, slice_index, get_or, ◌∙◌, sym, ap, subst, arith}
use Rattle.std.proofs.lemmas.List.{get_or_read, get_or-map, get_or-take, get_or-drop, length-append, length-drop, length-take-le}
use Rattle.std.proofs.Math.Seq.{get_or-append_seam}
use Rattle.dw_base.specs.declared.classes.Classes.{Classes}
use Rattle.dw_base.specs.declared.fault.Reach.{Reach}
use Rattle.form_codec.specs.declared.value.Value.{Value}
use Rattle.form_codec.specs.declared.value.Value.TheVariants as value
use Rattle.form_codec.specs.Forms.{Meaning}
use Rattle.form_codec.specs.Values.{meant_in}
use Rattle.abbrev_tables.specs.declared.decl.Decl.{Decl}
use Rattle.abbrev_tables.specs.declared.decl.Spec.{Spec}
use Rattle.abbrev_tables.specs.Listings.{Listing, decl_at, spec_at, declared_in}
use Rattle.entry_arena.specs.declared.entry.Entry.{Entry}
use Rattle.entry_arena.specs.Arena.{entry_at, value_at}
use Rattle.entry_arena.proofs.StepLaws.{values_counted}
use Rattle.entry_read.specs.Units.{HeadAndForest}
use Rattle.unit_write.specs.declared.places.Places.{Places}
use Rattle.value_links.specs.Sections.{debug_info, debug_abbrev}
use Rattle.value_links.specs.Reading.{UnitRead, Reading, unit_at, IsUnitRead}
use Rattle.value_links.specs.Values.{HasValueAt, values_of, declaration_of}
use Rattle.value_links.specs.World.{World, head_and_forest, table_at, Holds, IsWorldOf}
use Rattle.value_links.specs.declared.units.NamedTable.{NamedTable}
use Rattle.rewriter.specs.declared.tables.NewTable.{NewTable}
use Rattle.rewriter.specs.declared.new_places.NewPlaces.{NewPlaces}
use Rattle.rewriter.specs.inside.Tables.{table_anew, new_table_at, AreTablesWritten}
use Rattle.rewriter.specs.inside.Placed.{PlacesAnew, places_anew, places_at, unit_in}
use Rattle.rewriter.specs.inside.Numbers.{IsNewNumber, IsNewType}
use Rattle.rewriter.specs.inside.Held.{HasTable, table_for, entry_in, name_in, value_in, EntryMeans, IsTypeMoved}
use Rattle.rewriter.proofs.Standing.{held_unit, held_count, has_table}
use Rattle.rewriter.proofs.Meant.{owners, read_unit_at, column_same, value_same, values_size}

-- what is read of the parts of a world

pub named_is : (world : World) (u : ℕ) (tables : List NamedTable) (table_of : List ℕ) (i : ℕ) (named : NamedTable) → u < length world.table_of → slice_index world.table_of u < length world.tables → tables ≡ world.tables → table_of ≡ world.table_of → i ≡ get_or table_of u i → named ≡ get_or tables i named → named ≡ table_at world.tables (slice_index world.table_of u)
named_is world u tables table_of i named inside old same_tables same_numbers is there =
    let at : i ≡ slice_index world.table_of u = get_or_read world.table_of u i inside (subst (λ (z : List ℕ). i ≡ get_or z u i) same_numbers is) 0 in
    get_or_read world.tables (slice_index world.table_of u) named old (subst (λ (z : List NamedTable). named ≡ get_or z (slice_index world.table_of u) named) same_tables (subst (λ (j : ℕ). named ≡ get_or tables j named) at there)) (record { place = 0; table = record { decls = []; specs = []; end = 0 } })

module _ (world : World) (u id column : ℕ) (own : HeadAndForest) (named : NamedTable) (entry : Entry) (written : HeadAndForest) (known : EntryMeans world written u id) (own_is : own ≡ unit_in world.units u) (named_is : named ≡ table_at world.tables (slice_index world.table_of u)) (entry_is : entry ≡ entry_at own.forest.entries id) where
  entry_there : entry ≡ entry_in world u id
  entry_there = entry_is ∙ ap (λ (h : HeadAndForest). entry_at h.forest.entries id) own_is

  table_there : named.table ≡ table_for world u
  table_there = ap (λ (n : NamedTable). n.table) named_is

  -- its declaration is one of the table
  pub decl_there : entry.decl < length named.table.decls
  decl_there = subst (λ (e : Entry). e.decl < length named.table.decls) (sym entry_there) (subst (λ (t : Listing). (entry_in world u id).decl < length t.decls) (sym table_there) known.declared)

  module _ (columns : List Spec) (columns_are : columns ≡ (declared_in named.table.specs (decl_at named.table.decls entry.decl)).columns) where
    abbrev table : Listing
    table = table_for world u

    abbrev decl : Decl
    decl = decl_at (table_for world u).decls (entry_in world u id).decl

    columns_there : columns ≡ take (decl_at (table_for world u).decls (entry_in world u id).decl).count (drop (decl_at (table_for world u).decls (entry_in world u id).decl).first (table_for world u).specs)
    columns_there = columns_are ∙ ap (λ (t : Listing). (declared_in t.specs (decl_at t.decls entry.decl)).columns) table_there ∙ ap (λ (e : Entry). (declared_in table.specs (decl_at table.decls e.decl)).columns) entry_there

    -- there is a column for each value of the entry
    pub column_there : column < (entry_in world u id).count → column < length columns
    column_there below =
        let wide : length (take decl.count (drop decl.first table.specs)) ≡ decl.count = length-take-le decl.count (drop decl.first table.specs) (omega (arith, length-drop decl.first table.specs, known.columns, known.counted)) in
        omega (arith, ap length columns_there, wide, known.counted, below)

    pub name_same : column < (entry_in world u id).count → (spec_at columns column).name ≡ name_in world u id column
    name_same below =
        let within : column < decl.count = omega (arith, known.counted, below) in
        ap (λ (cs : List Spec). (spec_at cs column).name) columns_there ∙ ap (λ (c : Spec). c.name) (get_or-take decl.count (drop decl.first table.specs) column (spec_at [] 0) within ∙ get_or-drop decl.first table.specs column (spec_at [] 0))

pub value_there : (world : World) (u id column : ℕ) (own : HeadAndForest) (entry : Entry) (written : HeadAndForest) (values : List Value) → own ≡ unit_in world.units u → entry ≡ entry_at own.forest.entries id → values ≡ written.forest.values → value_at values (entry.first + column) ≡ value_in world written u id column
value_there world u id column own entry written values own_is entry_is values_are =
    let e : entry ≡ entry_in world u id = entry_is ∙ ap (λ (h : HeadAndForest). entry_at h.forest.entries id) own_is in
    ap (λ (vs : List Value). value_at vs (entry.first + column)) values_are ∙ ap (λ (x : Entry). value_at written.forest.values (x.first + column)) e

-- A UNIT IS HELD AS IT IS READ

abbrev pub unit_from : HeadAndForest → Listing → UnitRead
unit_from h t = record { head = h.head; table = t; forest = h.forest }

pub table_known : (file : List ℕ) (world : World) (r : Reading) (u : ℕ) → Holds file world r → u < length r.links.units → table_for world u ≡ (unit_at r.links u).table
table_known file world r u holds inside = ap (λ (t : NamedTable). t.table) (holds.tables.each u inside)

pub unit_known : (file : List ℕ) (world : World) (r : Reading) (u : ℕ) → Holds file world r → u < length r.links.units → unit_from (unit_in world.units u) (table_for world u) ≡ unit_at r.links u
unit_known file world r u holds inside =
    ap (λ (h : HeadAndForest). unit_from h (table_for world u)) (held_unit file world r u holds) ∙ ap (unit_from (head_and_forest (unit_at r.links u))) (table_known file world r u holds inside)

-- so each reading has the units of any
pub unit_once : (file other : List ℕ) (world : World) (r s : Reading) (u : ℕ) → Holds file world r → Holds other world s → u < length world.units → unit_at r.links u ≡ unit_at s.links u
unit_once file other world r s u holds held inside =
    let a : length world.units ≡ length r.links.units = held_count file world r holds in
    let b : length world.units ≡ length s.links.units = held_count other world s held in
    sym (unit_known file world r u holds (omega arith)) ∙ unit_known other world s u held (omega arith)

pub unit_reads : (file : List ℕ) (world : World) (r : Reading) (u : ℕ) (reach : Reach) (is : IsWorldOf world.image reach world) → Holds file world r → u < length world.units → IsUnitRead (debug_info world.image) (debug_abbrev world.image) (unit_at r.links u)
unit_reads file world r u reach is holds inside =
    let size : length world.units ≡ length is.r.links.units = held_count world.image world is.r is.holds in
    subst (IsUnitRead (debug_info world.image) (debug_abbrev world.image)) (unit_once world.image file world is.r r u is.holds holds inside) (read_unit_at world.image is.r u is.read.links.units.each (omega arith))

-- a value of an entry is that of its number among those of the unit
pub value_among : (info abbrevs : List ℕ) (unit : UnitRead) → IsUnitRead info abbrevs unit → (id number name : ℕ) (meaning : Meaning) (place : ℕ) → (h : HasValueAt unit id number name meaning place) → (number < length unit.forest.values) × (value_at unit.forest.values number ≡ h.value)
value_among info abbrevs unit is id number name meaning place h =
    let size : length (values_of unit id) ≡ (entry_at unit.forest.entries id).count = values_size info abbrevs unit is id h.known in
    let parts : length (values_of unit id) ≡ length h.earlier + length (h.value ∷ h.later) = ap length h.values ∙ length-append h.earlier (h.value ∷ h.later) in
    let below : length h.earlier < (entry_at unit.forest.entries id).count = omega arith in
    let inside : (entry_at unit.forest.entries id).first + (entry_at unit.forest.entries id).count ≤ length unit.forest.values = (owners info abbrevs unit is).inside id h.known in
    let numbered : number ≡ (entry_at unit.forest.entries id).first + length h.earlier = h.numbered in
    let here : value_at (values_of unit id) (length h.earlier) ≡ h.value = ap (λ (vs : List Value). value_at vs (length h.earlier)) h.values ∙ get_or-append_seam h.earlier h.value h.later (value.Addr 0) in
    (omega (arith, below, inside, numbered), ap (value_at unit.forest.values) numbered ∙ sym (value_same info abbrevs unit is id h.known (length h.earlier) below) ∙ here)

-- the new numbers of values, where the unit and its table are given
abbrev pub NumbersIn : Reading → List Places → NewPlaces → ℕ → List ℕ → List Value → HeadAndForest → Listing → Type 0
NumbersIn r places new_places u held values h t =
    (id j : ℕ) → id < length h.forest.entries → j < (entry_at h.forest.entries id).count → IsNewNumber r.links places new_places u id (spec_at t.specs ((decl_at t.decls (entry_at h.forest.entries id).decl).first + j)).name (meant_in (unit_at r.links u).forest.section (value_at values ((entry_at h.forest.entries id).first + j))) (slice_index held ((entry_at h.forest.entries id).first + j))

-- an attribute is the one with its number among the columns, and its value, as it is written, has the new number
module _ (r : Reading) (places : List Places) (new_places : NewPlaces) (u : ℕ) (held : List ℕ) (written : List Value) (info abbrevs : List ℕ) (is : IsUnitRead info abbrevs (unit_at r.links u)) (numbers : NumbersIn r places new_places u held written (head_and_forest (unit_at r.links u)) (unit_at r.links u).table) where
  pub attribute_numbered : (id number name : ℕ) (meaning : Meaning) (place : ℕ) → HasValueAt (unit_at r.links u) id number name meaning place → IsNewNumber r.links places new_places u id name (meant_in (unit_at r.links u).forest.section (value_at written number)) (slice_index held number)
  attribute_numbered id number name meaning place h =
      let size : length (values_of (unit_at r.links u) id) ≡ (entry_at (unit_at r.links u).forest.entries id).count = values_size info abbrevs (unit_at r.links u) is id h.known in
      let parts : length (values_of (unit_at r.links u) id) ≡ length h.earlier + length (h.value ∷ h.later) = ap length h.values ∙ length-append h.earlier (h.value ∷ h.later) in
      let below : length h.earlier < (entry_at (unit_at r.links u).forest.entries id).count = omega arith in
      let counted : length h.earlier ≡ length h.earlier_columns = values_counted (unit_at r.links u).forest.section h.earlier_columns h.earlier h.values_at place h.valued in
      let none : Spec = spec_at [] 0 in
      let column : spec_at (declaration_of (unit_at r.links u) id).columns (length h.earlier) ≡ h.column = ap (λ (cs : List Spec). spec_at cs (length h.earlier)) h.columns ∙ subst (λ (k : ℕ). spec_at (h.earlier_columns ++ h.column ∷ h.later_columns) k ≡ h.column) (sym counted) (get_or-append_seam h.earlier_columns h.column h.later_columns none) in
      let name_is : (spec_at (unit_at r.links u).table.specs ((decl_at (unit_at r.links u).table.decls (entry_at (unit_at r.links u).forest.entries id).decl).first + length h.earlier)).name ≡ name = ap (λ (c : Spec). c.name) (sym (column_same info abbrevs (unit_at r.links u) is id h.known (length h.earlier) below) ∙ column) ∙ sym h.named in
      let raw = numbers id (length h.earlier) h.known below in
      let here = subst (λ (n : ℕ). IsNewNumber r.links places new_places u id n (meant_in (unit_at r.links u).forest.section (value_at written ((entry_at (unit_at r.links u).forest.entries id).first + length h.earlier))) (slice_index held ((entry_at (unit_at r.links u).forest.entries id).first + length h.earlier))) name_is raw in
      subst (λ (n : ℕ). IsNewNumber r.links places new_places u id name (meant_in (unit_at r.links u).forest.section (value_at written n)) (slice_index held n)) (sym h.numbered) here

pub type_moved : (file : List ℕ) (world : World) (r : Reading) (places : List Places) (u : ℕ) (own : HeadAndForest) (mine : Places) (new : ℕ) → Holds file world r → own ≡ unit_in world.units u → places_anew mine ≡ places_at places u → IsTypeMoved own (places_anew mine) new → IsNewType r.links (places_at places u) u new
type_moved file world r places u own mine new holds own_is mine_is moved =
    let there : own ≡ head_and_forest (unit_at r.links u) = own_is ∙ held_unit file world r u holds in
    let m : IsTypeMoved (head_and_forest (unit_at r.links u)) (places_at places u) new = subst (λ (p : PlacesAnew). IsTypeMoved (head_and_forest (unit_at r.links u)) p new) mine_is (subst (λ (h : HeadAndForest). IsTypeMoved h (places_anew mine) new) there moved) in
    record { entry = m.entry; none = m.none }

pub new_table_is : (world : World) (tables : List NewTable) (u : ℕ) (table_of : List ℕ) (i : ℕ) (table : NewTable) → HasTable world tables u → table_of ≡ world.table_of → i ≡ get_or table_of u i → table ≡ get_or tables i table → table_anew table ≡ new_table_at tables (slice_index world.table_of u)
new_table_is world tables u table_of i table has same is there =
    let at : i ≡ slice_index world.table_of u = get_or_read world.table_of u i has.numbered (subst (λ (z : List ℕ). i ≡ get_or z u i) same is) 0 in
    ap table_anew (subst (λ (j : ℕ). table ≡ get_or tables j table) at there) ∙ sym (get_or-map table_anew tables (slice_index world.table_of u) table (record { at = 0; columns = []; numbers = [] }) has.new)

pub has_anew : {classes : Classes} → (world : World) (section : List ℕ) (tables : List NewTable) (u : ℕ) → ((reach : Reach) × IsWorldOf world.image reach world) → AreTablesWritten classes world section tables → u < length world.units → HasTable world tables u
has_anew world section tables u (reach, is) written known =
    let size : length world.units ≡ length is.r.links.units = held_count world.image world is.r is.holds in
    let count : length tables ≡ length world.tables = written.count in
    let old : slice_index world.table_of u < length world.tables = is.holds.tables.inside u (omega arith) in
    has_table world tables u (reach, is) (omega arith) known

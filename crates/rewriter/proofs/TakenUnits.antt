-- A unit of a valid file, and the values that are written for its own by the new columns of its table.
use Rattle.std.proofs.Common.{◌≡◌, ◌<◌, ◌+◌, ◌∙◌, ℕ, List, length, Bool, true, false, map, slice_index, sym, ap, refl, subst, arith}
use Rattle.std.specs.List.{each_same}
use Rattle.dw_base.specs.declared.fault.Reach.TheVariants.{Narrow}
use Rattle.form_codec.specs.declared.value.Value.{Value}
use Rattle.form_codec.specs.declared.value.Value.TheVariants as value
use Rattle.abbrev_tables.specs.declared.decl.Decl.{Decl}
use Rattle.abbrev_tables.specs.declared.decl.Spec.{Spec}
use Rattle.abbrev_tables.specs.Listings.{Listing, decl_at, spec_at}
use Rattle.entry_arena.specs.declared.entry.Entry.{Entry}
use Rattle.entry_arena.specs.Arena.{entry_at, span_of}
use Rattle.entry_arena.specs.Order.{LendAlike}
use Rattle.entry_read.specs.Units.{HeadAndForest, unit_with, declarations_of, IsTable, IsUnitHeld}
use Rattle.unit_write.specs.Placing.{columns_of}
use Rattle.value_links.specs.declared.units.NamedTable.{NamedTable}
use Rattle.value_links.specs.Sections.{debug_info, debug_abbrev}
use Rattle.value_links.specs.Reading.{UnitRead, unit_at, IsUnitRead}
use Rattle.value_links.specs.World.{World, IsWorldOf}
use Rattle.rewriter.specs.declared.tables.NewTable.{NewTable}
use Rattle.rewriter.specs.inside.Held.{table_for}
use Rattle.rewriter.specs.inside.Placed.{unit_in, written_in, AreWritable}
use Rattle.rewriter.specs.inside.Tables.{new_table_at}
use Rattle.rewriter.specs.inside.Taken.{is_taken, taken_value, taken_values}
use Rattle.rewriter.proofs.ColumnLaws.{column_here}
use Rattle.rewriter.proofs.ColumnUnits.{entry_columns}
use Rattle.rewriter.proofs.Meant.{read_unit_at}
use Rattle.rewriter.proofs.PlacedUnits.{no_lens}
use Rattle.rewriter.proofs.Standing.{held_unit, held_count}
use Rattle.rewriter.proofs.TakenValues.{columns_count, taken_zip}

-- what is written for a value lends the same bytes, and is the value where its column isn't taken
taken_lends : (at : ℕ) (taken : Bool) (v : Value) → span_of (taken_value at taken v) ≡ span_of v
taken_lends at true (value.SectionRef n) = refl
taken_lends at false (value.SectionRef n) = refl
taken_lends at taken v = refl

untaken : (at : ℕ) (v : Value) → taken_value at false v ≡ v
untaken at (value.SectionRef n) = refl
untaken at v = refl

module _ (world : World) (tables : List NewTable) (u : ℕ) (is : IsWorldOf world.image Narrow world) (writable : AreWritable world tables) (known : u < length world.units) where
  abbrev unit : HeadAndForest
  unit = unit_in world.units u

  abbrev columns : List Spec
  columns = (new_table_at tables (slice_index world.table_of u)).columns

  inside : u < length is.r.links.units
  inside = omega (arith, known, held_count world.image world is.r is.holds)

  unit_is : IsUnitRead (debug_info world.image) (debug_abbrev world.image) (unit_at is.r.links u)
  unit_is = read_unit_at world.image is.r u is.read.links.units.each inside

  table_same : table_for world u ≡ (unit_at is.r.links u).table
  table_same = ap (λ (t : NamedTable). t.table) (is.holds.tables.each u inside)

  pub table_stands : IsTable (table_for world u)
  table_stands = subst IsTable (sym table_same) (debug_abbrev world.image, (unit_at is.r.links u).head.table, unit_is.table)

  pub unit_held : IsUnitHeld (unit_in world.units u).forest.section (unit_in world.units u).head (declarations_of (table_for world u)) (unit_in world.units u).forest
  unit_held =
      let read : UnitRead = unit_at is.r.links u in
      let own = subst (λ (z : List ℕ). IsUnitHeld z read.head (declarations_of read.table) read.forest) (sym unit_is.section) unit_is.entries in
      let by_table = subst (λ (t : Listing). IsUnitHeld read.forest.section read.head (declarations_of t) read.forest) (sym table_same) own in
      subst (λ (h : HeadAndForest). IsUnitHeld h.forest.section h.head (declarations_of (table_for world u)) h.forest) (sym (held_unit world.image world is.r u is.holds)) by_table

  pub renewed : length (new_table_at tables (slice_index world.table_of u)).columns ≡ length (table_for world u).specs
  renewed = (writable u (map (λ (v : Value). 0) (written_in world tables u).forest.values) known (no_lens (written_in world tables u).forest)).renewed

  -- the values that are written lend the bytes that those of the unit do
  pub lend_alike : LendAlike (unit_in world.units u).forest.values (taken_values (table_for world u) (new_table_at tables (slice_index world.table_of u)).columns (unit_in world.units u))
  lend_alike = taken_zip unit (table_for world u) columns table_stands unit_held renewed (λ v w. span_of w ≡ span_of v) (λ id j there below. taken_lends unit.head.at _ _)

  -- where no column is taken, the unit is written as it is
  module _ (none : (k : ℕ) → k < length (table_for world u).specs → is_taken (spec_at (table_for world u).specs k) (spec_at (new_table_at tables (slice_index world.table_of u)).columns k) ≡ false) where
    value_stays : (id j : ℕ) (v : Value) → id < length (unit_in world.units u).forest.entries → j < (entry_at (unit_in world.units u).forest.entries id).count → taken_value (unit_in world.units u).head.at (is_taken (spec_at (columns_of (table_for world u) (table_for world u).specs (entry_at (unit_in world.units u).forest.entries id).decl) j) (spec_at (columns_of (table_for world u) columns (entry_at (unit_in world.units u).forest.entries id).decl) j)) v ≡ v
    value_stays id j v there below =
        let table : Listing = table_for world u in
        let e : Entry = entry_at unit.forest.entries id in
        let d : Decl = decl_at table.decls e.decl in
        let many : (specs : List Spec) → length specs ≡ length table.specs → j < length (columns_of table specs e.decl) = λ specs same. subst (λ (n : ℕ). j < n) (sym (columns_count unit table columns table_stands unit_held renewed specs id same there)) below in
        let was = column_here table.specs d.first d.count j (many table.specs refl) in
        let now = column_here columns d.first d.count j (many columns renewed) in
        let within : d.first + j < length table.specs = omega (arith, below, entry_columns table unit table_stands unit_held id there) in
        let not : is_taken (spec_at (columns_of table table.specs e.decl) j) (spec_at (columns_of table columns e.decl) j) ≡ false = ap (λ (c : Spec). is_taken c (spec_at (columns_of table columns e.decl) j)) was.0 ∙ ap (is_taken (spec_at table.specs (d.first + j))) now.0 ∙ none (d.first + j) within in
        ap (λ (t : Bool). taken_value unit.head.at t v) not ∙ untaken unit.head.at v

    pub none_taken : unit_in world.units u ≡ written_in world tables u
    none_taken =
        let same : taken_values (table_for world u) columns unit ≡ unit.forest.values = each_same unit.forest.values (taken_values (table_for world u) columns unit) (taken_zip unit (table_for world u) columns table_stands unit_held renewed (λ v w. w ≡ v) (λ id j there below. value_stays id j _ there below)) in
        ap (unit_with unit) (sym same)

-- the values that are written, of lists that are the world's
pub values_same : (table : NamedTable) (news : List Spec) (unit : HeadAndForest) (named : NamedTable) (columns : List Spec) (own : HeadAndForest) → table ≡ named → news ≡ columns → unit ≡ own → taken_values table.table news unit ≡ taken_values named.table columns own
values_same table news unit named columns own old new is =
    ap (λ (t : NamedTable). taken_values t.table news unit) old
    ∙ ap (λ (cs : List Spec). taken_values named.table cs unit) new
    ∙ ap (taken_values named.table columns) is

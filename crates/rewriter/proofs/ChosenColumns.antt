-- Units can be written anew in columns that are in their least forms.
use Rattle.std.proofs.Common.{◌≡◌, ◌≢◌, ◌<◌, ◌+◌, ◌∙◌, ℕ, List, length, drop, sym, ap, refl, subst, arith}
use Rattle.std.specs.Prelude.{slice_index}
use Rattle.std.specs.List.{Contains}
use Rattle.std.proofs.lemmas.List.{get_or-map, length-map, length-take, length-drop}
use Rattle.dw_base.specs.declared.classes.Classes.{Classes}
use Rattle.leb_codec.specs.Leb.{least_unsigned_len}
use Rattle.form_codec.specs.declared.value.Value.{Value}
use Rattle.form_codec.specs.declared.value.Value.TheVariants as value
use Rattle.form_codec.specs.Values.{meant_in}
use Rattle.abbrev_tables.specs.declared.decl.Decl.{Decl}
use Rattle.abbrev_tables.specs.declared.decl.Spec.{Spec}
use Rattle.abbrev_tables.specs.Listings.{Listing, decl_at, spec_at}
use Rattle.entry_arena.specs.Arena.{entry_at, value_at}
use Rattle.entry_read.specs.Heads.{IsHead}
use Rattle.entry_read.specs.Units.{HeadAndForest, declarations_of, IsTable, IsUnitHeld}
use Rattle.unit_write.specs.Sizes.{NumbersHaveSizes, ExpressionsHaveSizes, ShortestHaveSizes}
use Rattle.unit_write.specs.Placing.{EntrySize, columns_of, values_in, among_values}
use Rattle.unit_write.specs.Lens.{AreLensFor}
use Rattle.unit_write.specs.Moved.{IsWritable}
use Rattle.unit_write.specs.Taken.{StandsFor}
use Rattle.value_links.specs.declared.units.NamedTable.{NamedTable}
use Rattle.value_links.specs.Sections.{debug_info, debug_abbrev}
use Rattle.value_links.specs.Reading.{UnitRead, Reading, no_unit, unit_at}
use Rattle.value_links.specs.Whole.{IsReading}
use Rattle.value_links.specs.World.{World, head_and_forest, named_by, table_at, Holds}
use Rattle.written_files.specs.Uses.{column_values, uses_of}
use Rattle.value_links.proofs.TabledUnits.{follow_head}
use Rattle.rewriter.specs.declared.tables.NewTable.{NewTable}
use Rattle.rewriter.specs.inside.Tables.{TableAnew, new_table_at, AreTablesWritten}
use Rattle.rewriter.specs.inside.Placed.{unit_in, written_in, AreTaken, AreWritable}
use Rattle.rewriter.specs.inside.Taken.{is_taken, taken_value, taken_unit, IsTakenFrom}
use Rattle.rewriter.proofs.UsedDeclarations.{unit_is, table_written, decl_known, decl_has_uses, decl_used}
use Rattle.rewriter.proofs.ColumnLaws.{IsSpelledBy, column_here, column_spelled}
use Rattle.rewriter.proofs.ColumnSpelled.{entry_spelled}
use Rattle.rewriter.proofs.MeaningsAmong.{value_among}
use Rattle.rewriter.proofs.MovedValues.{part_at, as_many}
use Rattle.rewriter.proofs.SizedValues.{values_sized}
use Rattle.rewriter.proofs.TakenMeanings.{IsTakenIn, taken_in}
use Rattle.rewriter.proofs.TakenValues.{columns_count, values_count, taken_count, taken_at, taken_zip}

module _ {classes : Classes} (file : List ℕ) (world : World) (r : Reading) (abbrevs : List ℕ) (tables : List NewTable) (read : IsReading file r) (holds : Holds file world r) (written : AreTablesWritten classes world abbrevs tables) where
  abbrev new_table : ℕ → TableAnew
  new_table u = new_table_at tables (slice_index world.table_of u)

  -- the declaration of an entry, and its old columns
  abbrev decl_of : ℕ → ℕ → ℕ
  decl_of u id = (entry_at (unit_at r.links u).forest.entries id).decl

  abbrev old_columns : UnitRead → ℕ → List Spec
  old_columns unit decl = columns_of unit.table unit.table.specs decl

  units_count : length world.units ≡ length r.links.units
  units_count = ap (λ (z : List HeadAndForest). length z) holds.units ∙ length-map r.links.units head_and_forest

  unit_same : (u : ℕ) → u < length r.links.units → unit_in world.units u ≡ head_and_forest (unit_at r.links u)
  unit_same u inside = ap (λ (z : List HeadAndForest). unit_in z u) holds.units ∙ get_or-map head_and_forest r.links.units u no_unit (head_and_forest no_unit) inside

  -- the unit, its table and its new columns
  abbrev held_unit : ℕ → HeadAndForest
  held_unit u = head_and_forest (unit_at r.links u)

  abbrev anew : ℕ → HeadAndForest
  anew u = taken_unit (unit_at r.links u).table (new_table u).columns (held_unit u)

  table_is : (u : ℕ) → u < length r.links.units → IsTable (unit_at r.links u).table
  table_is u inside = (debug_abbrev file, (unit_at r.links u).head.table, (unit_is read holds written u inside).table)

  unit_held : (u : ℕ) → u < length r.links.units → IsUnitHeld (unit_at r.links u).forest.section (unit_at r.links u).head (declarations_of (unit_at r.links u).table) (unit_at r.links u).forest
  unit_held u inside =
      let is = unit_is read holds written u inside in
      subst (λ (z : List ℕ). IsUnitHeld z (unit_at r.links u).head (declarations_of (unit_at r.links u).table) (unit_at r.links u).forest) (sym is.section) is.entries

  renewed : (u : ℕ) → u < length r.links.units → length (new_table u).columns ≡ length (unit_at r.links u).table.specs
  renewed u inside = (table_written read holds written u inside).columns.count

  -- what a value of an entry means is one of the values of its column
  meaning_here : (u id j : ℕ) → u < length r.links.units → id < length (unit_at r.links u).forest.entries → Contains (column_values world.units (unit_at r.links u).head.table (decl_of u id) j) ((unit_at r.links u).head, meant_in (unit_at r.links u).forest.section (value_at (unit_at r.links u).forest.values ((entry_at (unit_at r.links u).forest.entries id).first + j)))
  meaning_here u id j inside known =
      let size = units_count in
      let same : unit_in world.units u ≡ head_and_forest (unit_at r.links u) = unit_same u inside in
      let there : id < length (unit_in world.units u).forest.entries = subst (λ (z : HeadAndForest). id < length z.forest.entries) (sym same) known in
      subst (λ (z : HeadAndForest). Contains (column_values world.units z.head.table (entry_at z.forest.entries id).decl j) (z.head, meant_in z.forest.section (value_at z.forest.values ((entry_at z.forest.entries id).first + j)))) same (value_among world.units u id j (omega (arith, size, inside)) there)

  -- a value of an entry is taken by its column, old and new
  value_here : (u id j : ℕ) → u < length r.links.units → id < length (unit_at r.links u).forest.entries → j < (entry_at (unit_at r.links u).forest.entries id).count → IsTakenIn (unit_at r.links u).head (unit_at r.links u).forest.section (spec_at (old_columns (unit_at r.links u) (decl_of u id)) j) (spec_at (columns_of (unit_at r.links u).table (new_table u).columns (decl_of u id)) j) (value_at (unit_at r.links u).forest.values ((entry_at (unit_at r.links u).forest.entries id).first + j))
  value_here u id j inside known below =
      let unit : UnitRead = unit_at r.links u in
      let decl : ℕ = decl_of u id in
      let d : Decl = decl_at unit.table.decls decl in
      let v : Value = value_at unit.forest.values ((entry_at unit.forest.entries id).first + j) in
      let w = table_written read holds written u inside in
      let declared : decl < length unit.table.decls = decl_known read holds written u id inside known in
      let uses = decl_has_uses read holds written u id inside known in
      let used : uses_of world.units unit.head.table decl ≢ 0 = λ none. omega (arith, uses, none) in
      let many : (specs : List Spec) → length specs ≡ length unit.table.specs → j < length (columns_of unit.table specs decl) = λ specs same. subst (λ (n : ℕ). j < n) (sym (columns_count (held_unit u) unit.table (new_table u).columns (table_is u inside) (unit_held u inside) (renewed u inside) specs id same known)) below in
      let was = column_here unit.table.specs d.first d.count j (many unit.table.specs refl) in
      let is = column_here (new_table u).columns d.first d.count j (many (new_table u).columns (renewed u inside)) in
      let read_by = entry_spelled unit.table (held_unit u) (table_is u inside) (unit_held u inside) id known decl j was.1 refl in
      let taken = taken_in (column_values world.units unit.head.table decl j) unit.head unit.forest.section (spec_at unit.table.specs (d.first + j)) (spec_at (new_table u).columns (d.first + j)) (λ m among. column_spelled world.units (named_by unit) (new_table u).columns w.columns decl j m declared used is.1 among) v (meaning_here u id j inside known) read_by.0 read_by.1 in
      subst (λ (c : Spec). IsTakenIn unit.head unit.forest.section c (spec_at (columns_of unit.table (new_table u).columns decl) j) v) (sym was.0) (subst (λ (c : Spec). IsTakenIn unit.head unit.forest.section (spec_at unit.table.specs (d.first + j)) c v) (sym is.0) taken)

  -- so the values of the unit as it is written stand for those that were read
  unit_taken : (u : ℕ) → u < length r.links.units → IsTakenFrom (held_unit u) (anew u)
  unit_taken u inside = record {
    same = refl;
    each = taken_zip (held_unit u) (unit_at r.links u).table (new_table u).columns (table_is u inside) (unit_held u inside) (renewed u inside) (StandsFor (unit_at r.links u).head) (λ id j known below. (value_here u id j inside known below).stands);
  }

  unit_head : (u : ℕ) → u < length r.links.units → IsHead (debug_info file) (unit_at r.links u).head
  unit_head u inside = follow_head (debug_info file) r.links.units 0 (length (debug_info file)) u read.links.units.tiled inside

  -- there is a length for each value of an entry
  lens_of_entry : (u : ℕ) (lens : List ℕ) → AreLensFor (anew u).forest lens → (id : ℕ) → length (among_values (anew u).forest lens id) ≡ length (values_in (anew u).forest id)
  lens_of_entry u lens are id =
      let f = (anew u).forest in
      let e = entry_at f.entries id in
      let each : length lens ≡ length f.values = are.each in
      omega (arith, each, length-take e.count (drop e.first lens), length-take e.count (drop e.first f.values), length-drop e.first lens, length-drop e.first f.values)

  -- an entry has as many values as its new declaration has columns
  values_here : (u id : ℕ) → u < length r.links.units → id < length (unit_at r.links u).forest.entries → length (values_in (anew u).forest id) ≡ length (columns_of (unit_at r.links u).table (new_table u).columns (decl_of u id))
  values_here u id inside known =
      let unit : UnitRead = unit_at r.links u in
      let e = entry_at unit.forest.entries id in
      let same : length (anew u).forest.values ≡ length unit.forest.values = taken_count (held_unit u) unit.table (new_table u).columns (table_is u inside) (unit_held u inside) (renewed u inside) in
      as_many unit.forest.values (anew u).forest.values e.first e.count same
      ∙ values_count (held_unit u) unit.table (new_table u).columns (table_is u inside) (unit_held u inside) (renewed u inside) id known
      ∙ sym (columns_count (held_unit u) unit.table (new_table u).columns (table_is u inside) (unit_held u inside) (renewed u inside) (new_table u).columns id (renewed u inside) known)

  -- the new column of a value of an entry spells the one that is written
  value_spelled : (u id j : ℕ) → u < length r.links.units → id < length (unit_at r.links u).forest.entries → j < length (values_in (anew u).forest id) → IsSpelledBy (spec_at (columns_of (unit_at r.links u).table (new_table u).columns (decl_of u id)) j) (meant_in (unit_at r.links u).forest.section (value_at (values_in (anew u).forest id) j))
  value_spelled u id j inside known here =
      let unit : UnitRead = unit_at r.links u in
      let e = entry_at unit.forest.entries id in
      let part = part_at (anew u).forest.values e.first e.count j (value.Addr 0) here in
      let is : value_at (values_in (anew u).forest id) j ≡ taken_value unit.head.at (is_taken (spec_at (old_columns unit e.decl) j) (spec_at (columns_of unit.table (new_table u).columns e.decl) j)) (value_at unit.forest.values (e.first + j)) = part.0 ∙ taken_at (held_unit u) unit.table (new_table u).columns (table_is u inside) (unit_held u inside) (renewed u inside) id j known part.1 in
      subst (λ (v : Value). IsSpelledBy (spec_at (columns_of unit.table (new_table u).columns e.decl) j) (meant_in unit.forest.section v)) (sym is) (value_here u id j inside known part.1).spelled

  -- a unit as it is written, where the unit and its table are held
  table_same : (u : ℕ) → u < length r.links.units → (table_at world.tables (slice_index world.table_of u)).table ≡ (unit_at r.links u).table
  table_same u inside = ap (λ (z : NamedTable). z.table) (holds.tables.each u inside)

  anew_same : (u : ℕ) → u < length r.links.units → written_in world tables u ≡ anew u
  anew_same u inside =
      ap (λ (z : Listing). taken_unit z (new_table u).columns (unit_in world.units u)) (table_same u inside)
      ∙ ap (λ (z : HeadAndForest). taken_unit (unit_at r.links u).table (new_table u).columns z) (unit_same u inside)

  read_inside : (u : ℕ) → u < length world.units → u < length r.links.units
  read_inside u among = let size = units_count in omega (arith, size, among)

  -- Each unit's values as they are written stand for those that were read.
  pub chosen_columns_are_taken : AreTaken world tables
  chosen_columns_are_taken u among =
      let inside : u < length r.links.units = read_inside u among in
      subst (IsTakenFrom (unit_in world.units u)) (sym (anew_same u inside)) (subst (λ (z : HeadAndForest). IsTakenFrom z (anew u)) (sym (unit_same u inside)) (unit_taken u inside))

  module _ (numbers_sized : NumbersHaveSizes) (expressions_sized : ExpressionsHaveSizes) (others_sized : ShortestHaveSizes) where
    -- something can be written for an entry
    entry_sized : (u : ℕ) (lens : List ℕ) → u < length r.links.units → AreLensFor (anew u).forest lens → (id : ℕ) → id < length (unit_at r.links u).forest.entries → (size : ℕ) × EntrySize (unit_at r.links u).table (new_table u).columns (new_table u).numbers (anew u).forest lens id size
    entry_sized u lens inside are id known =
        let unit : UnitRead = unit_at r.links u in
        let decl : ℕ = decl_of u id in
        let sized = values_sized numbers_sized expressions_sized others_sized unit.forest.section (columns_of unit.table (new_table u).columns decl) (values_in (anew u).forest id) (among_values (anew u).forest lens id) (values_here u id inside known) (lens_of_entry u lens are id) (λ j here. value_spelled u id j inside known here) in
        (least_unsigned_len (slice_index (new_table u).numbers decl) + sized.0, (sized.0, sized.1, refl))

    unit_writable : (u : ℕ) (lens : List ℕ) → u < length r.links.units → AreLensFor (anew u).forest lens → IsWritable (anew u) (unit_at r.links u).table (new_table u).columns (new_table u).numbers lens
    unit_writable u lens inside are =
        let unit : UnitRead = unit_at r.links u in
        let is = unit_is read holds written u inside in
        let w = table_written read holds written u inside in
        record {
          head = subst (λ (z : List ℕ). IsHead z unit.head) (sym is.section) (unit_head u inside);
          held = record { values = unit.forest.values; taken = (unit_taken u inside).each; held = unit_held u inside };
          numbered = w.least.member.same_length ∙ w.used.count;
          renewed = renewed u inside;
          used = λ id known none. absurd (let some = decl_used read holds written u id inside known in omega (arith, some, none));
          sized = λ id known. entry_sized u lens inside are id known;
        }

    -- Each unit can be written anew in its new columns, whatever sizes its references have.
    pub chosen_columns_are_writable : AreWritable world tables
    chosen_columns_are_writable u lens among are =
        let inside : u < length r.links.units = read_inside u among in
        let fit : AreLensFor (anew u).forest lens = subst (λ (z : HeadAndForest). AreLensFor z.forest lens) (anew_same u inside) are in
        let by_unit = subst (λ (z : HeadAndForest). IsWritable z (unit_at r.links u).table (new_table u).columns (new_table u).numbers lens) (sym (anew_same u inside)) (unit_writable u lens inside fit) in
        subst (λ (z : Listing). IsWritable (written_in world tables u) z (new_table u).columns (new_table u).numbers lens) (sym (table_same u inside)) by_unit

-- Each column of an entry's declaration is in its least form in a file that is written anew, and in the first of these.
use Rattle.std.proofs.Common.{◌≡◌, ◌≢◌, ◌≤◌, ◌<◌, ◌+◌, ◌-◌, ◌∙◌, ℕ, List, length, sym, ap, subst, arith}
use Rattle.std.specs.Prelude.{map, slice_index}
use Rattle.dw_base.specs.declared.classes.Classes.{Classes}
use Rattle.abbrev_tables.specs.declared.decl.Decl.{Decl}
use Rattle.abbrev_tables.specs.declared.decl.Spec.{Spec}
use Rattle.abbrev_tables.specs.Tables.{Declared}
use Rattle.abbrev_tables.specs.Listings.{decl_at, spec_at, declared_in}
use Rattle.abbrev_tables.specs.Written.{numbered_as}
use Rattle.abbrev_tables.specs.LeastColumns.{IsLeastColumn, IsFirstColumn}
use Rattle.column_forms.specs.Columns.{IsChosen}
use Rattle.entry_arena.specs.Trees.{declared_at}
use Rattle.entry_read.specs.Units.{HeadAndForest}
use Rattle.entry_read.proofs.Declarations.{declared_is}
use Rattle.unit_write.specs.declared.places.Places.{Places}
use Rattle.unit_write.specs.Placing.{columns_of}
use Rattle.value_links.specs.Reading.{Reading, unit_at, declarations}
use Rattle.value_links.specs.Values.{entry_of, declaration_of}
use Rattle.value_links.specs.World.{World, head_and_forest, named_by}
use Rattle.written_files.specs.Uses.{uses_of, column_meanings}
use Rattle.written_files.specs.Classes.{HasColumns, HaveColumns}
use Rattle.rewriter.specs.declared.tables.NewTable.{NewTable}
use Rattle.rewriter.specs.declared.new_places.NewPlaces.{NewPlaces}
use Rattle.rewriter.specs.inside.Tables.{TableAnew, new_table_at}
use Rattle.rewriter.specs.inside.Follows.{AreReadAnew}
use Rattle.rewriter.proofs.UsedDeclarations.{table_written, decl_known, decl_has_uses, decl_used}
use Rattle.rewriter.proofs.ColumnLaws.{column_here, columns_count}
use Rattle.rewriter.proofs.MovedEntries.{moved, entry_moved}

module _ {classes : Classes} {file : List ℕ} {world : World} {tables : List NewTable} {places : List Places} {new_places : NewPlaces} {info abbrevs : List ℕ} {r s : Reading} (all : AreReadAnew classes file world tables places new_places info abbrevs r s) where
  abbrev new_table : ℕ → TableAnew
  new_table u = new_table_at tables (slice_index world.table_of u)

  -- the declaration of an entry
  abbrev decl_of : ℕ → ℕ → Decl
  decl_of u id = decl_at (unit_at r.links u).table.decls (entry_of (unit_at r.links u) id).decl

  -- it has the new columns
  new_columns : (u id : ℕ) → u < length r.links.units → id < length (unit_at r.links u).forest.entries → (declaration_of (unit_at s.links u) id).columns ≡ (declared_in (new_table u).columns (decl_of u id)).columns
  new_columns u id inside known =
      let decl : ℕ = (entry_of (unit_at r.links u) id).decl in
      let number : ℕ = slice_index (new_table u).numbers decl in
      let ds : List Declared = declarations (unit_at s.links u) in
      let declared : decl < length (unit_at r.links u).table.decls = decl_known all.read all.holds all.tables_written u id inside known in
      let positive : 1 ≤ number = decl_used all.read all.holds all.tables_written u id inside known in
      let some : number ≢ 0 = λ none. omega arith in
      let is : declared_at ds (number - 1) ≡ numbered_as number (decl_of u id) (columns_of (unit_at r.links u).table (new_table u).columns decl) = ((moved all u inside).renumbered.each decl declared some).1 in
      let here : declaration_of (unit_at s.links u) id ≡ declared_at ds (number - 1) = ap (λ (z : ℕ). declared_at ds z) (entry_moved all u id inside known).decl in
      ap (λ (z : Declared). z.columns) (here ∙ is)

  -- and had the old ones
  old_columns : (u id : ℕ) → u < length r.links.units → id < length (unit_at r.links u).forest.entries → (declaration_of (unit_at r.links u) id).columns ≡ (declared_in (unit_at r.links u).table.specs (decl_of u id)).columns
  old_columns u id inside known =
      let declared : (entry_of (unit_at r.links u) id).decl < length (unit_at r.links u).table.decls = decl_known all.read all.holds all.tables_written u id inside known in
      ap (λ (z : Declared). z.columns) (declared_is (unit_at r.links u).table (entry_of (unit_at r.links u) id).decl declared)

  -- since an entry has it, each of its columns is in the least form
  chosen_column : (u id j : ℕ) → u < length r.links.units → id < length (unit_at r.links u).forest.entries → j < (decl_of u id).count → IsChosen classes (spec_at (unit_at r.links u).table.specs ((decl_of u id).first + j)) (column_meanings (map head_and_forest r.links.units) (unit_at r.links u).head.table (entry_of (unit_at r.links u) id).decl j) (spec_at (new_table u).columns ((decl_of u id).first + j))
  chosen_column u id j inside known below =
      let decl : ℕ = (entry_of (unit_at r.links u) id).decl in
      let old : Spec = spec_at (unit_at r.links u).table.specs ((decl_of u id).first + j) in
      let new : Spec = spec_at (new_table u).columns ((decl_of u id).first + j) in
      let w = table_written all.read all.holds all.tables_written u inside in
      let declared : decl < length (unit_at r.links u).table.decls = decl_known all.read all.holds all.tables_written u id inside known in
      let uses = decl_has_uses all.read all.holds all.tables_written u id inside known in
      let used : uses_of world.units (unit_at r.links u).head.table decl ≢ 0 = λ none. omega (arith, uses, none) in
      subst (λ (z : List HeadAndForest). IsChosen classes old (column_meanings z (unit_at r.links u).head.table decl j) new) all.holds.units (w.columns.each decl j declared used below)

  -- so the new declaration of each entry has its columns in the first of their least forms
  chosen_columns : (u id : ℕ) → u < length r.links.units → id < length (unit_at r.links u).forest.entries → HasColumns (IsChosen classes) r.links s.links u id
  chosen_columns u id inside known =
      let decl : ℕ = (entry_of (unit_at r.links u) id).decl in
      let specs : List Spec = (unit_at r.links u).table.specs in
      let columns : List Spec = (new_table u).columns in
      let d : Decl = decl_of u id in
      let w = table_written all.read all.holds all.tables_written u inside in
      let old = old_columns u id inside known in
      let new = new_columns u id inside known in
      let size : length (declared_in columns d).columns ≡ length (declared_in specs d).columns = columns_count world.units (named_by (unit_at r.links u)) columns w.columns decl in
      record {
        count = ap (λ (z : List Spec). length z) new ∙ size ∙ sym (ap (λ (z : List Spec). length z) old);
        each = λ j below.
            let among : j < length (declared_in specs d).columns = subst (λ (z : List Spec). j < length z) old below in
            let was = column_here specs d.first d.count j among in
            let is = column_here columns d.first d.count j (omega (arith, size, among)) in
            let meanings = column_meanings (map head_and_forest r.links.units) (unit_at r.links u).head.table decl j in
            let old_is : spec_at (declaration_of (unit_at r.links u) id).columns j ≡ spec_at specs (d.first + j) = ap (λ (z : List Spec). spec_at z j) old ∙ was.0 in
            let new_is : spec_at (declaration_of (unit_at s.links u) id).columns j ≡ spec_at columns (d.first + j) = ap (λ (z : List Spec). spec_at z j) new ∙ is.0 in
            let chosen = chosen_column u id j inside known was.1 in
            let by_old = subst (λ (z : Spec). IsChosen classes z meanings (spec_at columns (d.first + j))) (sym old_is) chosen in
            subst (λ (z : Spec). IsChosen classes (spec_at (declaration_of (unit_at r.links u) id).columns j) meanings z) (sym new_is) by_old;
      }

  pub least_columns : HaveColumns (IsLeastColumn classes) r.links s.links
  least_columns u id inside known =
      let chosen = chosen_columns u id inside known in
      record { count = chosen.count; each = λ j below. (chosen.each j below).least }

  pub first_columns : HaveColumns (IsFirstColumn classes) r.links s.links
  first_columns u id inside known =
      let chosen = chosen_columns u id inside known in
      record { count = chosen.count; each = λ j below. (chosen.each j below).first }

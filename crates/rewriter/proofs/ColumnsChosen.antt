-- The columns that are chosen for a table are those in their least forms, and can be written.
use Rattle.std.proofs.Common.{◌≡◌, ◌≢◌, ◌<◌, ◌+◌, ◌∙◌, inl, inr, ℕ, List, [], length, map, sym, ap, subst, arith}
use Rattle.std.specs.List.{All}
use Rattle.std.proofs.lemmas.Bool.{cases_eq}
use Rattle.std.proofs.lemmas.List.{length-map, nil_from_length}
use Rattle.std.proofs.lemmas.List.Elements.{All-get_or, All-from_get_or}
use Rattle.dw_base.specs.declared.classes.Classes.{Classes}
use Rattle.form_codec.specs.declared.value.Value.{Value}
use Rattle.form_codec.specs.Forms.{Meaning}
use Rattle.form_codec.specs.Values.{meant_in}
use Rattle.form_codec.specs.Columns.{AreSpelled}
use Rattle.abbrev_tables.specs.declared.decl.Spec.{Spec}
use Rattle.abbrev_tables.specs.Listings.{decl_at, spec_at}
use Rattle.abbrev_tables.specs.Written.{IsWritableColumn}
use Rattle.column_forms.specs.Columns.{IsChosen}
use Rattle.column_forms.specs.TableColumns.{IsBestFor}
use Rattle.entry_read.specs.declared.head.UnitHead.{UnitHead}
use Rattle.entry_read.specs.Units.{HeadAndForest, IsTable}
use Rattle.entry_read.proofs.Declarations.{columns_inside}
use Rattle.value_links.specs.declared.units.NamedTable.{NamedTable}
use Rattle.written_files.specs.Uses.{column_values, column_meanings, uses_of}
use Rattle.rewriter.specs.inside.Tables.{AreColumnsChosen}
use Rattle.rewriter.specs.inside.Placed.{unit_in}
use Rattle.rewriter.specs.inside.Columns.{units_with, values_of_units, column_inside, AreBestInside}
use Rattle.rewriter.proofs.ColumnMeanings.{AreOfTable, means, plain, plain_means, values_count, meanings_count}
use Rattle.rewriter.proofs.ColumnNamed.{units_of_table}
use Rattle.rewriter.proofs.ColumnSpelled.{values_spelled}
use Rattle.rewriter.proofs.ColumnWritable.{chosen_writable, HasOwner, owner}
use Rattle.rewriter.proofs.InsideForms.{chosen_inside, kept_inside}
use Rattle.rewriter.proofs.Writables.{table_writable}

module _ {classes : Classes} (units : List HeadAndForest) (table : NamedTable) (section table_of : List ℕ) (i : ℕ) (of : AreOfTable units table section table_of i) (columns : List Spec) (chosen : AreBestInside classes section units table.table.decls (units_with table_of i (length units)) table.table.specs columns) where
  abbrev named : List ℕ
  named = units_with table_of i (length units)

  -- the units that have the table are all of one section
  all_lent : All (λ (u : ℕ). (unit_in units u).forest.section ≡ section) named
  all_lent = All-from_get_or (λ (u : ℕ). (unit_in units u).forest.section ≡ section) named 0 (units_of_table units table section table_of i of).lent

  module _ (number j : ℕ) (known : number < length table.table.decls) (inside : j < (decl_at table.table.decls number).count) where
    abbrev place : ℕ
    place = (decl_at table.table.decls number).first + j

    abbrev gathered : List Value
    gathered = values_of_units units table.table.decls named place

    abbrev values : List (UnitHead × Meaning)
    values = column_values units table.place number j

    abbrev old : Spec
    old = spec_at table.table.specs place

    abbrev best : Spec
    best = spec_at chosen.best place

    place_inside : place < length table.table.specs
    place_inside = omega (arith, columns_inside table.table number of.stands known, inside)

    best_here : IsBestFor classes section gathered old best
    best_here = chosen.are.each place place_inside

    meanings_are : map (meant_in section) gathered ≡ plain values
    meanings_are = sym (plain_means units table.table.decls section named place all_lent) ∙ ap plain (means units table section table_of i of number j known inside)

    often : length values ≡ uses_of units table.place number
    often = values_count units table.place number j

    as_many : length gathered ≡ length values
    as_many = sym (length-map gathered (meant_in section)) ∙ ap length meanings_are ∙ length-map values (λ (v : UnitHead × Meaning). v.1)

    -- the best column becomes one of references within units where its values allow it
    new_here : spec_at columns place ≡ column_inside values best
    new_here =
        let below : place < length chosen.best = omega (arith, place_inside, chosen.are.count) in
        chosen.inside.each place below ∙ ap (λ (vs : List (UnitHead × Meaning)). column_inside vs best) (means units table section table_of i of number j known inside)

    chosen_here : uses_of units table.place number ≢ 0 → IsChosen classes old (column_meanings units table.place number j) (spec_at columns place)
    chosen_here used =
        let some : length values ≢ 0 = λ none. used (sym often ∙ none) in
        let spelled : AreSpelled old.name old.form old.constant (map (meant_in section) gathered) = subst (λ (ms : List Meaning). AreSpelled old.name old.form old.constant ms) (sym meanings_are) (values_spelled units table section table_of i of number j inside) in
        let plainly : IsChosen classes old (plain values) best = subst (λ (ms : List Meaning). IsChosen classes old ms best) meanings_are (best_here.chosen (λ none. some (sym as_many ∙ ap length none)) spelled) in
        subst (λ (c : Spec). IsChosen classes old (column_meanings units table.place number j) c) (sym new_here) (chosen_inside old best values (λ none. some (ap length none)) plainly)

    kept_here : uses_of units table.place number ≡ 0 → spec_at columns place ≡ old
    kept_here unused =
        let none : length values ≡ 0 = often ∙ unused in
        new_here ∙ kept_inside values best (nil_from_length values none) ∙ best_here.unused (nil_from_length gathered (as_many ∙ none))

  pub columns_chosen : AreColumnsChosen classes units table columns
  columns_chosen = record {
    count = chosen.inside.count ∙ chosen.are.count;
    each = λ number j known some inside. chosen_here number j known inside some;
    unused = λ number j known none inside. kept_here number j known inside none;
  }

-- columns in their least forms can be written
module _ {classes : Classes} (units : List HeadAndForest) (table : NamedTable) (stands : IsTable table.table) (columns : List Spec) (chosen : AreColumnsChosen classes units table columns) where
  writable_here : (number j : ℕ) → number < length table.table.decls → j < (decl_at table.table.decls number).count → IsWritableColumn (spec_at table.table.specs ((decl_at table.table.decls number).first + j)) → IsWritableColumn (spec_at columns ((decl_at table.table.decls number).first + j))
  writable_here number j known inside writable =
      let place : ℕ = (decl_at table.table.decls number).first + j in
      let old : Spec = spec_at table.table.specs place in
      let meanings : List Meaning = column_meanings units table.place number j in
      elim (cases_eq (uses_of units table.place number) 0) [
        | inl none ↦ subst IsWritableColumn (sym (chosen.unused number j known none inside)) writable
        | inr some ↦
            let filled : 0 < length meanings = (let s : uses_of units table.place number ≢ 0 = some in omega (arith, meanings_count units table.place number j, s)) in
            chosen_writable old (spec_at columns place) meanings writable filled (chosen.each number j known some inside)
      ]

  pub columns_writable : All IsWritableColumn columns
  columns_writable =
      let writable : All IsWritableColumn table.table.specs = table_writable table.table stands in
      All-from_get_or IsWritableColumn columns (spec_at [] 0) (λ k below.
      let within : k < length table.table.specs = omega (arith, chosen.count, below) in
      let has : HasOwner table.table.decls k = owner 0 table.table.decls (length table.table.specs) k stands.2.adjacent (omega arith) within in
      let old : IsWritableColumn (spec_at table.table.specs k) = All-get_or IsWritableColumn table.table.specs k (spec_at [] 0) within writable in
      let own : IsWritableColumn (spec_at table.table.specs ((decl_at table.table.decls has.number).first + has.j)) = subst (λ (n : ℕ). IsWritableColumn (spec_at table.table.specs n)) (sym has.is) old in
      subst (λ (n : ℕ). IsWritableColumn (spec_at columns n)) has.is (writable_here has.number has.j has.known has.inside own))

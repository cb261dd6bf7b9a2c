-- The columns of a file that is written anew are least for the values that they have there.
use Rattle.std.proofs.Common.{◌≡◌, ◌<◌, ◌∙◌, ℕ, true, List, length, map, sym, ap, subst}
use Rattle.std.specs.List.{AllZip}
use Rattle.form_codec.specs.Forms.{Meaning, SpellsValue}
use Rattle.form_codec.specs.Forms.Meaning.{InSection}
use Rattle.form_codec.specs.Columns.{AreSpelled, IsLeastForm}
use Rattle.abbrev_tables.specs.declared.decl.Spec.{Spec}
use Rattle.abbrev_tables.specs.Listings.{Listing, spec_at, IsTableAt}
use Rattle.abbrev_tables.specs.LeastColumns.{IsLeastColumn}
use Rattle.abbrev_tables.specs.Tables.{Declared}
use Rattle.abbrev_tables.proofs.ListingOnce.{listing_once}
use Rattle.entry_arena.specs.Trees.{declared_at}
use Rattle.entry_read.specs.declared.head.UnitHead.{UnitHead}
use Rattle.entry_read.specs.Units.{declarations_of}
use Rattle.value_links.specs.Sections.{debug_info, debug_abbrev}
use Rattle.value_links.specs.Reading.{Reading, unit_at}
use Rattle.value_links.specs.Resolved.{Resolves}
use Rattle.value_links.specs.Values.{entry_of, declaration_of}
use Rattle.value_links.specs.World.{head_and_forest}
use Rattle.value_links.proofs.HeldUnits.{unit_is, unit_owners}
use Rattle.written_files.specs.Classes.{HaveColumns}
use Rattle.written_files.specs.Uses.{column_values, taken_meanings, names_inside}
use Rattle.written_files.specs.inside.Counterparts.{AreAnew, Correspond}
use Rattle.written_files.proofs.AlikeMeanings.{alike_values}
use Rattle.written_files.proofs.ColumnSpellings.{column_spelled}
use Rattle.written_files.proofs.Counterparts.{MeansAlike, holds_of_these, correspond, columns_alike}
use Rattle.written_files.proofs.SameValues.{meaning_in, name_in}
use Rattle.tidy_tables.specs.Untidy.{place_of, number_of}
use Rattle.tidy_tables.specs.inside.Written.{SameDeclarations, ColumnsStayLeast}
use Rattle.tidy_tables.proofs.WrittenColumnKinds.{spelled_in, least_for_kin}
use Rattle.tidy_tables.proofs.WrittenColumnMeanings.{ArePaired, taken_kins}
use Rattle.tidy_tables.proofs.WrittenColumnTargets.{target_inside}
use Rattle.tidy_tables.proofs.WrittenColumnValues.{value_in, values_paired}

module _ (declarations_same : SameDeclarations) (file written : List ℕ) (r s : Reading) (anew : AreAnew file written r s) where
  same : Correspond r s
  same = correspond file written r s anew.read anew.again anew.anew.same

  back : (u : ℕ) → u < length s.links.units → u < length r.links.units
  back u inside = subst (λ (n : ℕ). u < n) same.units inside

  forth : (u : ℕ) → u < length r.links.units → u < length s.links.units
  forth u inside = subst (λ (n : ℕ). u < n) (sym same.units) inside

  -- units that name one table have one
  one_table : (u v : ℕ) → u < length s.links.units → v < length s.links.units → place_of s.links v ≡ place_of s.links u → (unit_at s.links v).table ≡ (unit_at s.links u).table
  one_table u v inside known here =
      let own = unit_is (debug_info written) (debug_abbrev written) s.links.units anew.again.links.units u inside in
      let other = unit_is (debug_info written) (debug_abbrev written) s.links.units anew.again.links.units v known in
      listing_once (debug_abbrev written) (place_of s.links u) (unit_at s.links v).table (unit_at s.links u).table (subst (λ (n : ℕ). IsTableAt (debug_abbrev written) n (unit_at s.links v).table) here other.table) own.table

  -- so entries with one number there have one declaration
  one_declaration : (u id v other : ℕ) → u < length s.links.units → v < length s.links.units → (place_of s.links v ≡ place_of s.links u) × (number_of s.links v other ≡ number_of s.links u id) → declaration_of (unit_at s.links v) other ≡ declaration_of (unit_at s.links u) id
  one_declaration u id v other inside known (here, number) =
      ap (λ (t : Listing). declared_at (declarations_of t) (number_of s.links v other)) (one_table u v inside known here)
      ∙ ap (declared_at (declarations_of (unit_at s.links u).table)) number

  module _ (u id j : ℕ) (inside : u < length s.links.units) (known : id < length (unit_at s.links u).forest.entries) (below : j < length (declaration_of (unit_at s.links u) id).columns) where
    abbrev column : Spec
    column = spec_at (declaration_of (unit_at s.links u) id).columns j

    abbrev Pair : UnitHead × Meaning → UnitHead × Meaning → Type 0
    Pair old new = ArePaired (spec_at (declaration_of (unit_at s.links u) id).columns j).name (spec_at (declaration_of (unit_at s.links u) id).columns j).form (spec_at (declaration_of (unit_at s.links u) id).columns j).constant old new

    names_back : (v other n m : ℕ) → v < length s.links.units → (one : MeansAlike r s v other j) → meaning_in (unit_at r.links v) other j ≡ InSection n → meaning_in (unit_at s.links v) other j ≡ InSection m → names_inside (unit_at s.links v).head (meaning_in (unit_at s.links v) other j) ≡ true → names_inside (unit_at r.links v).head (meaning_in (unit_at r.links v) other j) ≡ true
    names_back v other n m there one old new is =
        let first : Resolves r v other (name_in (unit_at r.links v) other j) (InSection n) one.value = subst (λ (z : Meaning). Resolves r v other (name_in (unit_at r.links v) other j) z one.value) old one.means in
        let second : Resolves s v other (name_in (unit_at s.links v) other j) (InSection m) one.value = subst (λ (z : Meaning). Resolves s v other (name_in (unit_at s.links v) other j) z one.value) new one.also in
        subst (λ (z : Meaning). names_inside (unit_at r.links v).head z ≡ true) (sym old)
        (target_inside file written r s anew.read anew.again v other (name_in (unit_at r.links v) other j) (name_in (unit_at s.links v) other j) n m one.value (back v there) there first second (subst (λ (z : Meaning). names_inside (unit_at s.links v).head z ≡ true) new is))

    -- the values of an entry that has the declaration are paired
    pair_of : (v other : ℕ) → v < length s.links.units → other < length (unit_at s.links v).forest.entries → (place_of s.links v ≡ place_of s.links u) × (number_of s.links v other ≡ number_of s.links u id) → Pair (value_in r.links.units v other j) (value_in s.links.units v other j)
    pair_of v other there entry has =
        let is = unit_is (debug_info written) (debug_abbrev written) s.links.units anew.again.links.units v there in
        let owned = unit_owners (debug_info written) (debug_abbrev written) s.links.units anew.again.links.units v there in
        let declared : declaration_of (unit_at s.links v) other ≡ declaration_of (unit_at s.links u) id = one_declaration u id v other inside there has in
        let count : (entry_of (unit_at s.links v) other).count ≡ length (declaration_of (unit_at s.links u) id).columns = owned.counted other entry ∙ ap (λ (d : Declared). length d.columns) declared in
        let within : j < (entry_of (unit_at s.links v) other).count = subst (λ (n : ℕ). j < n) (sym count) below in
        let one : MeansAlike r s v other j = columns_alike file written r s anew.read anew.again anew.anew.same v other j there entry within in
        let spelled = subst (λ (d : Declared). (bytes : List ℕ) × SpellsValue (spec_at d.columns j).name (spec_at d.columns j).form (spec_at d.columns j).constant (meaning_in (unit_at s.links v) other j) bytes) declared
        (column_spelled (debug_info written) (debug_abbrev written) (unit_at s.links v) is owned other j entry within) in
        record {
          alike = alike_values r s v v other other (name_in (unit_at r.links v) other j) (name_in (unit_at s.links v) other j) (meaning_in (unit_at r.links v) other j) (meaning_in (unit_at s.links v) other j) one.value one.means one.also;
          inside = λ n m old new is. names_back v other n m there one old new is;
          bytes = spelled.0;
          spelled = spelled.1;
        }

    all_paired : AllZip Pair (column_values (map head_and_forest r.links.units) (place_of r.links u) (number_of r.links u id) j) (column_values (map head_and_forest s.links.units) (place_of s.links u) (number_of s.links u id) j)
    all_paired =
        values_paired Pair r.links.units s.links.units (place_of r.links u) (number_of r.links u id) (place_of s.links u) (number_of s.links u id) j (sym same.units)
        (λ v there. sym (same.entries v (forth v there)))
        (λ v other there entry.
        let here : v < length s.links.units = forth v there in
        let iff = declarations_same file written r s anew u id v other inside known here (subst (λ (n : ℕ). other < n) (sym (same.entries v here)) entry) in
        (iff.1, iff.0))
        (λ v other there entry has.
        let here : v < length s.links.units = forth v there in
        let also : other < length (unit_at s.links v).forest.entries = subst (λ (n : ℕ). other < n) (sym (same.entries v here)) entry in
        pair_of v other here also ((declarations_same file written r s anew u id v other inside known here also).1 has))

    stays : IsLeastForm anew.classes (spec_at (declaration_of (unit_at s.links u) id).columns j).name (taken_meanings (column_values (map head_and_forest s.links.units) (place_of s.links u) (number_of s.links u id) j)) (spec_at (declaration_of (unit_at s.links u) id).columns j).form (spec_at (declaration_of (unit_at s.links u) id).columns j).constant
    stays =
        let columns : HaveColumns (IsLeastColumn anew.classes) r.links s.links = holds_of_these (λ x y. HaveColumns (IsLeastColumn anew.classes) x.links y.links) file written r s anew.read anew.again anew.anew.columns in
        let here = columns u id (back u inside) (subst (λ (n : ℕ). id < n) (same.entries u inside) known) in
        let olds : List Meaning = taken_meanings (column_values (map head_and_forest r.links.units) (place_of r.links u) (number_of r.links u id) j) in
        let new_column = here.each j (subst (λ (n : ℕ). j < n) here.count below) in
        let least : IsLeastForm anew.classes column.name olds column.form column.constant = subst (λ (n : ℕ). IsLeastForm anew.classes n olds column.form column.constant) (sym new_column.name) new_column.least in
        let spelled : AreSpelled column.name column.form column.constant olds = spelled_in column.name column.form column.constant olds least.enough.entries least.enough.within in
        let (kins, again) = taken_kins column.name column.form column.constant least.enough.choice (column_values (map head_and_forest r.links.units) (place_of r.links u) (number_of r.links u id) j) (column_values (map head_and_forest s.links.units) (place_of s.links u) (number_of s.links u id) j) all_paired spelled in
        least_for_kin anew.classes column.name olds (taken_meanings (column_values (map head_and_forest s.links.units) (place_of s.links u) (number_of s.links u id) j)) column.form column.constant kins again least

-- Where entries share declarations in the written file as they did in the old one, its columns are least for the values that they have in it.
pub columns_stay_least : SameDeclarations → ColumnsStayLeast
columns_stay_least declarations_same file written r s anew u id j inside known below = stays declarations_same file written r s anew u id j inside known below

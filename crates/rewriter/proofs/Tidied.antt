-- A file that is written anew holds tables, units and lists, and nothing else.
use Rattle.std.proofs.Common.{◌≡◌, ◌≤◌, ◌<◌, ◌+◌, ◌-◌, ◌∙◌, ℕ, suc, List, [], ◌∷◌, length, get_or, map, refl, sym, ap, subst, arith}
use Rattle.std.specs.Prelude.{slice_index}
use Rattle.std.specs.List.{All}
use Rattle.std.proofs.lemmas.List.{get_or-map, length-map}
use Rattle.std.proofs.lemmas.List.Elements.{All-from_get_or}
use Rattle.dw_base.specs.declared.classes.Classes.{Classes}
use Rattle.leb_codec.specs.Numbering.{IsUsed}
use Rattle.abbrev_tables.specs.declared.decl.Spec.{Spec}
use Rattle.abbrev_tables.specs.Tables.{Declared}
use Rattle.abbrev_tables.specs.Listings.{decl_at, declared_in, names_of}
use Rattle.abbrev_tables.specs.Written.{numbered_as}
use Rattle.entry_arena.specs.Trees.{declared_at}
use Rattle.entry_read.specs.Units.{HeadAndForest, declarations_of}
use Rattle.entry_read.proofs.Declarations.{declared_is}
use Rattle.unit_write.specs.declared.places.Places.{Places}
use Rattle.unit_write.specs.Placing.{columns_of}
use Rattle.value_links.specs.declared.units.NamedTable.{NamedTable}
use Rattle.value_links.specs.Reading.{Reading, no_unit}
use Rattle.value_links.specs.World.{World, table_at}
use Rattle.written_files.specs.Uses.{AreUses}
use Rattle.list_model.specs.declared.entry.ListKind.{ListKind}
use Rattle.written_files.specs.TidyLists.{AreTidyLists, AreTidyViews}
use Rattle.written_files.specs.Tidy.{TablesTile, IsRenewed, IsTidyTable, AreTidyTables, IsTidyUnit, AreTidy}
use Rattle.rewriter.specs.declared.tables.NewTable.{NewTable}
use Rattle.rewriter.specs.declared.new_places.NewPlaces.{NewPlaces}
use Rattle.rewriter.specs.inside.Tables.{TableAnew, table_anew, anew_at, new_table_at, IsTableWritten, TablesStand}
use Rattle.rewriter.specs.inside.Follows.{AreReadAnew}
use Rattle.rewriter.proofs.Codes.{codes_by}
use Rattle.rewriter.proofs.ColumnLaws.{AreNamedAlike, columns_named}
use Rattle.rewriter.proofs.WideExpressions.{expressions_are_tidy}

-- ONE TABLE

names_same : (old new : List Spec) → AreNamedAlike old new → names_of new ≡ names_of old
names_same [] [] alike = refl
names_same [] (c ∷ new) alike = absurd (let e : suc (length new) ≡ 0 = alike.count in omega arith)
names_same (c ∷ old) [] alike = absurd (let e : 0 ≡ suc (length old) = alike.count in omega arith)
names_same (c ∷ old) (d ∷ new) alike =
    let count : suc (length new) ≡ suc (length old) = alike.count in
    let first : d.name ≡ c.name = alike.each 0 (omega arith) in
    let rest : names_of new ≡ names_of old = names_same old new (record { count = omega arith; each = λ j below. alike.each (suc j) (let b : j < length old = below in omega arith) }) in
    ap (λ (n : ℕ). n ∷ names_of new) first ∙ ap (λ (ns : List ℕ). c.name ∷ ns) rest

module _ {classes : Classes} (units : List HeadAndForest) (section : List ℕ) (old : NamedTable) (new : TableAnew) (written : IsTableWritten classes units section old new) where
  abbrev ds : List Declared
  ds = declarations_of written.listing

  -- a used declaration stands there with its new code
  pub renewed_at : (i : ℕ) → IsUsed written.uses i → (k : ℕ) × (k < length (declarations_of written.listing)) × ((declared_at (declarations_of written.listing) k).code ≡ slice_index new.numbers i) × IsRenewed (declared_at (declarations_of old.table) i) (declared_at (declarations_of written.listing) k)
  renewed_at i used =
      let known : i < length old.table.decls = omega (arith, used.inside, written.used.count) in
      let positive : 1 ≤ get_or new.numbers i 0 = written.least.member.positive i used in
      let moved = written.renumbered.each i known (λ none. omega (arith, positive, none)) in
      let was : declared_at (declarations_of old.table) i ≡ declared_in old.table.specs (decl_at old.table.decls i) = declared_is old.table i known in
      let names = names_same (declared_in old.table.specs (decl_at old.table.decls i)).columns (declared_in new.columns (decl_at old.table.decls i)).columns (columns_named units old new.columns written.columns i known) in (
        get_or new.numbers i 0 - 1,
        moved.0,
        ap (λ (d : Declared). d.code) moved.1,
        record {
          tag = ap (λ (d : Declared). d.tag) moved.1 ∙ sym (ap (λ (d : Declared). d.tag) was);
          children = ap (λ (d : Declared). d.children) moved.1 ∙ sym (ap (λ (d : Declared). d.children) was);
          names = ap (λ (d : Declared). names_of d.columns) moved.1 ∙ names ∙ sym (ap (λ (d : Declared). names_of d.columns) was);
        },
      )

  -- the declaration from which the one with a number comes
  record IsFrom (k : ℕ) : Type 0 where
    number : ℕ
    same : declared_at (declarations_of written.listing) k ≡ numbered_as (k + 1) (decl_at old.table.decls number) (columns_of old.table new.columns number)

  source : (k : ℕ) → k < length (declarations_of written.listing) → IsFrom k
  source k below =
      let (number, used, is) = (written.first (k + 1)).0 (omega arith, omega (arith, below, written.only)) in
      let inside : number < length old.table.decls = omega (arith, used.inside, written.used.count) in
      let moved = (written.renumbered.each number inside (let e : get_or new.numbers number 0 ≡ k + 1 = is in λ none. absurd (omega (arith, e, none)))).1 in
      let place : k + 1 - 1 ≡ k = omega arith in
      record {
        number = number;
        same = subst (λ (m : ℕ). declared_at (declarations_of written.listing) m ≡ numbered_as (k + 1) (decl_at old.table.decls number) (columns_of old.table new.columns number)) place (subst (λ (n : ℕ). declared_at (declarations_of written.listing) (n - 1) ≡ numbered_as n (decl_at old.table.decls number) (columns_of old.table new.columns number)) is moved);
      }

  -- the declarations stand by rising code: the one at k has the code k + 1
  pub codes_rise : (k l : ℕ) → k < l → l < length (declarations_of written.listing) → (declared_at (declarations_of written.listing) k).code < (declared_at (declarations_of written.listing) l).code
  codes_rise k l below inside =
      let first : (declared_at ds k).code ≡ k + 1 = ap (λ (d : Declared). d.code) (source k (omega (arith, below, inside))).same in
      let second : (declared_at ds l).code ≡ l + 1 = ap (λ (d : Declared). d.code) (source l inside).same in
      omega (arith, first, second, below)

-- ALL TABLES

abbrev places_of : List TableAnew → List ℕ
places_of tables = map (λ (table : TableAnew). table.at) tables

tables_tile : (section : List ℕ) (tables : List TableAnew) (at : ℕ) → TablesStand section tables at → TablesTile section (places_of tables) at
tables_tile section [] at same = same
tables_tile section (table ∷ tables) at (here, (listing, stands, rest)) = (here, (listing, stands, tables_tile section tables listing.end rest))

place_at : (tables : List NewTable) (i : ℕ) → i < length tables → slice_index (places_of (map table_anew tables)) i ≡ (new_table_at tables i).at
place_at tables i inside =
    get_or-map (λ (table : TableAnew). table.at) (map table_anew tables) i (anew_at [] 0) 0 (subst (λ (n : ℕ). i < n) (sym (length-map tables table_anew)) inside)

module _ {classes : Classes} {file : List ℕ} {world : World} {tables : List NewTable} {places : List Places} {new_places : NewPlaces} {info abbrevs : List ℕ} {r s : Reading} (all : AreReadAnew classes file world tables places new_places info abbrevs r s) where
  tidy_table : (i : ℕ) → i < length world.tables → IsTidyTable r.links s.links abbrevs (table_at world.tables i) (new_table_at tables i).at
  tidy_table i inside =
      let old : NamedTable = table_at world.tables i in
      let new : TableAnew = new_table_at tables i in
      let w = all.tables_written.each i inside in
      record {
        uses = w.uses;
        used = subst (λ (z : List HeadAndForest). AreUses z old w.uses) all.holds.units w.used;
        numbers = new.numbers;
        numbered = w.least.member;
        codes = codes_by all i inside;
        listing = w.listing;
        inside = w.inside;
        stands = w.stands;
        each = renewed_at world.units abbrevs old new w;
        only = w.only;
        rising = codes_rise world.units abbrevs old new w;
        short = w.short;
      }

  place_here : (i : ℕ) → i < length world.tables → slice_index (places_of (map table_anew tables)) i ≡ (new_table_at tables i).at
  place_here i inside = place_at tables i (subst (λ (n : ℕ). i < n) (sym all.tables_written.count) inside)

  tidy_tables : AreTidyTables r.links s.links abbrevs
  tidy_tables = record {
    tables = world.tables;
    table_of = world.table_of;
    named = all.holds.tables;
    places = places_of (map table_anew tables);
    count = length-map (map table_anew tables) (λ (table : TableAnew). table.at) ∙ length-map tables table_anew ∙ all.tables_written.count;
    tiled = tables_tile abbrevs (map table_anew tables) 0 all.tables_written.tiled;
    names = λ u inside. (all.units.each u inside).table_at ∙ sym (place_here (slice_index world.table_of u) (all.holds.tables.inside u inside));
    each = λ i inside. subst (λ (place : ℕ). IsTidyTable r.links s.links abbrevs (table_at world.tables i) place) (sym (place_here i inside)) (tidy_table i inside);
  }

  tidy_units : All IsTidyUnit s.links.units
  tidy_units =
      All-from_get_or IsTidyUnit s.links.units no_unit (λ u inside.
      let moved = all.units.each u (subst (λ (n : ℕ). u < n) all.units.count inside) in
      record { short = moved.short; ends = moved.ends_short; filled = moved.filled })

  pub are_tidy : ((kind : ListKind) → AreTidyLists kind r s) → AreTidyViews r s → AreTidy abbrevs r s
  are_tidy lists views = record { tables = tidy_tables; units = tidy_units; expressions = expressions_are_tidy classes file world tables places new_places info abbrevs r s all; lists = lists; views = views }

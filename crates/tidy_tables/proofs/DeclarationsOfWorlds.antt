-- What a world says of the uses of declarations, and which of its declarations are untidy.
use Rattle.std.proofs.Common.{◌≡◌, ◌≢◌, ◌≤◌, ◌<◌, ◌+◌, ◌⊎◌, ◌∙◌, inl, inr, ℕ, List, [], length, map, get_or, sym, ap, refl, subst, arith}
use Rattle.std.specs.Prelude.{Option, Some, None, IsNone, slice_index}
use Rattle.std.specs.List.{range_with_len}
use Rattle.std.proofs.lemmas.Bool.{cases_lt}
use Rattle.std.proofs.lemmas.List.{get_or-map, get_or_default}
use Rattle.std.proofs.lemmas.List.FromFn.{length-map-range_with_len, get_or-map-range_with_len}
use Rattle.dw_base.specs.declared.classes.Classes.{Classes}
use Rattle.entry_read.specs.Units.{HeadAndForest}
use Rattle.value_links.specs.declared.units.NamedTable.{NamedTable}
use Rattle.value_links.specs.Sections.{debug_info}
use Rattle.value_links.specs.Reading.{Reading, unit_at}
use Rattle.written_files.specs.Uses.{AreUses, uses_of}
use Rattle.value_links.specs.Whole.{IsReading}
use Rattle.value_links.specs.World.{World, Holds, head_and_forest, table_at, named_by}
use Rattle.tidy_places.specs.Firsts.{IsLeastFound}
use Rattle.tidy_tables.specs.declared.table_namers.Namers.{Namers}
use Rattle.tidy_tables.specs.Untidy.{place_of, HasUnused, IsUntidyDeclaration}
use Rattle.tidy_tables.specs.inside.TableNamers.{units_with, AreNamers}
use Rattle.tidy_tables.specs.inside.UntidyDeclarations.{AreAllNamers, AreAllShort, AreShortAmong, HaveShortColumns, IsUntidyIn, IsUntidyAmong}
use Rattle.tidy_tables.specs.inside.Marked.{lesser_of}
use Rattle.tidy_tables.proofs.UnitsOfTables.{unit_count, of_table}
use Rattle.tidy_tables.proofs.LeastPlaces.{least_same, least_either}

-- USES

-- for each declaration of a table its uses
abbrev pub uses_in : List HeadAndForest → NamedTable → List ℕ
uses_in units table = map (uses_of units table.place) (range_with_len 0 (length table.table.decls))

pub uses_are : (units : List HeadAndForest) (table : NamedTable) → AreUses units table (uses_in units table)
uses_are units table =
    let count : ℕ = length table.table.decls in
    record {
      count = length-map-range_with_len (uses_of units table.place) 0 count;
      each = λ n below. get_or-map-range_with_len (uses_of units table.place) 0 count n n 0 below (omega arith);
    }

-- ALL TABLES

-- one table more
pub among_more : (classes : Classes) (units : List HeadAndForest) (tables : List NamedTable) (i : ℕ) (found place : Option ℕ) → IsLeastFound (IsUntidyAmong classes units tables i) found → IsLeastFound (IsUntidyIn classes units (table_at tables i)) place → IsLeastFound (IsUntidyAmong classes units tables (i + 1)) (lesser_of found place)
among_more classes units tables i found place before here =
    least_same (λ (p : ℕ). IsUntidyAmong classes units tables i p ⊎ IsUntidyIn classes units (table_at tables i) p) (IsUntidyAmong classes units tables (i + 1)) (lesser_of found place) to from (least_either (IsUntidyAmong classes units tables i) (IsUntidyIn classes units (table_at tables i)) found place before here)
  where
    to : (p : ℕ) → IsUntidyAmong classes units tables i p ⊎ IsUntidyIn classes units (table_at tables i) p → IsUntidyAmong classes units tables (i + 1) p
    to p (inl (n, below, untidy)) = (n, omega arith, untidy)
    to p (inr untidy) = (i, omega arith, untidy)

    from : (p : ℕ) → IsUntidyAmong classes units tables (i + 1) p → IsUntidyAmong classes units tables i p ⊎ IsUntidyIn classes units (table_at tables i) p
    from p (n, below, untidy) = elim (cases_lt n i) [
      | inl earlier ↦ inl (n, earlier, untidy)
      | inr last ↦ let same : n ≡ i = omega arith in inr (subst (λ (z : ℕ). IsUntidyIn classes units (table_at tables z) p) same untidy)
    ]

-- there is no least place of one or the other
none_of_both : (a b : Option ℕ) → IsNone (lesser_of a b) → IsNone a × IsNone b
none_of_both None b none = (refl, none)
none_of_both (Some p) None none = absurd (cc none)
none_of_both (Some p) (Some q) none = absurd (cc none)

-- and the columns of one table more are in least forms
pub short_among_more : (classes : Classes) (units : List HeadAndForest) (tables : List NamedTable) (i : ℕ) (found place : Option ℕ) → (IsNone found → AreShortAmong classes units tables i) → (IsNone place → AreAllShort classes units (table_at tables i)) → IsNone (lesser_of found place) → AreShortAmong classes units tables (i + 1)
short_among_more classes units tables i found place before here none n below =
    let (first, second) = none_of_both found place none in
    elim (cases_lt n i) [
      | inl earlier ↦ before first n earlier
      | inr last ↦ let same : i ≡ n = omega arith in subst (λ (z : ℕ). AreAllShort classes units (table_at tables z)) same (here second)
    ]

module _ (world : World) (r : Reading) (read : IsReading world.image r) (holds : Holds world.image world r) where
  abbrev units_read : List HeadAndForest
  units_read = map head_and_forest r.links.units

  -- an untidy declaration of a table is one of a unit that names it
  untidy_to : (classes : Classes) (n p : ℕ) → n ≤ length world.tables → IsUntidyAmong classes world.units world.tables n p → IsUntidyDeclaration classes r.links p
  untidy_to classes n p most (i, below, untidy) =
      let named = holds.tables.named i (omega arith) in
      let u : ℕ = named.0 in
      let same : table_at world.tables i ≡ named_by (unit_at r.links u) = ap (table_at world.tables) (sym named.2) ∙ holds.tables.each u named.1 in
      let here : IsUntidyIn classes units_read (table_at world.tables i) p = subst (λ (us : List HeadAndForest). IsUntidyIn classes us (table_at world.tables i) p) holds.units untidy in
      let own : IsUntidyIn classes units_read (named_by (unit_at r.links u)) p = subst (λ (t : NamedTable). IsUntidyIn classes units_read t p) same here in
      (u, own.0, named.1, own.1, own.2, own.3)

  untidy_from : (classes : Classes) (n p : ℕ) → length world.tables ≤ n → IsUntidyDeclaration classes r.links p → IsUntidyAmong classes world.units world.tables n p
  untidy_from classes n p past (u, k, inside, known, place, untidy) =
      let i : ℕ = slice_index world.table_of u in
      let below : i < length world.tables = holds.tables.inside u inside in
      let own : IsUntidyIn classes units_read (named_by (unit_at r.links u)) p = (k, known, place, untidy) in
      let here : IsUntidyIn classes units_read (table_at world.tables i) p = subst (λ (t : NamedTable). IsUntidyIn classes units_read t p) (sym (holds.tables.each u inside)) own in
      (i, omega arith, subst (λ (us : List HeadAndForest). IsUntidyIn classes us (table_at world.tables i) p) (sym holds.units) here)

  -- the first of all tables is the first of all
  pub first_of_all : (classes : Classes) (n : ℕ) (found : Option ℕ) → n ≡ length world.tables → IsLeastFound (IsUntidyAmong classes world.units world.tables n) found → IsLeastFound (IsUntidyDeclaration classes r.links) found
  first_of_all classes n found all least = least_same (IsUntidyAmong classes world.units world.tables n) (IsUntidyDeclaration classes r.links) found (λ p untidy. untidy_to classes n p (omega arith) untidy) (λ p untidy. untidy_from classes n p (omega arith) untidy) least

  -- where the columns of all tables are in least forms, those of the table of each unit are
  pub all_short : (classes : Classes) (n : ℕ) → n ≡ length world.tables → AreShortAmong classes world.units world.tables n → HaveShortColumns classes r.links
  all_short classes n all short u inside =
      let i : ℕ = slice_index world.table_of u in
      let below : i < length world.tables = holds.tables.inside u inside in
      let here : AreAllShort classes units_read (table_at world.tables i) = subst (λ (us : List HeadAndForest). AreAllShort classes us (table_at world.tables i)) holds.units (short i (omega arith)) in
      subst (AreAllShort classes units_read) (holds.tables.each u inside) here

  module _ (used : (q : ℕ) → HasUnused r.links q → ⊥) where
    -- each declaration of the table of a unit has uses
    uses_some : (u k : ℕ) → u < length r.links.units → k < length (unit_at r.links u).table.decls → uses_of units_read (place_of r.links u) k ≢ 0
    uses_some u k inside known none =
        let uses : List ℕ = uses_in units_read (named_by (unit_at r.links u)) in
        let are : AreUses units_read (named_by (unit_at r.links u)) uses = uses_are units_read (named_by (unit_at r.links u)) in
        used (place_of r.links u) (u, uses, k, inside, refl, are, omega (arith, are.count, known), are.each k known ∙ none)

    -- the units that have a table
    all_namers : (i : ℕ) → i < length world.tables → AreAllNamers world.units (table_at world.tables i) (units_with world.table_of i (length world.table_of))
    all_namers i below = record {
      section = debug_info world.image;
      table_of = world.table_of;
      number = i;
      of = of_table world r read holds i below;
      listed = ap (units_with world.table_of i) (holds.tables.count ∙ sym (unit_count world r read holds));
      used = λ k known none.
          let named = holds.tables.named i below in
          let u : ℕ = named.0 in
          let same : table_at world.tables i ≡ named_by (unit_at r.links u) = ap (table_at world.tables) (sym named.2) ∙ holds.tables.each u named.1 in
          let known' : k < length (unit_at r.links u).table.decls = subst (λ (t : NamedTable). k < length t.table.decls) same known in
          let none' : uses_of units_read (place_of r.links u) k ≡ 0 = sym (ap (λ (us : List HeadAndForest). uses_of us (table_at world.tables i).place k) holds.units ∙ ap (λ (t : NamedTable). uses_of units_read t.place k) same) ∙ none in
          uses_some u k named.1 known' none';
    }

    -- the same of lists that are the world's
    pub listed_namers : (units : List HeadAndForest) → units ≡ world.units → (tables : List NamedTable) → tables ≡ world.tables → (table_of : List ℕ) → table_of ≡ world.table_of → (all : List Namers) (count : ℕ) → count ≡ length tables → AreNamers table_of count (length table_of) all → (i : ℕ) → i < length tables → (table : NamedTable) → table ≡ get_or tables i table → (namers : Namers) → namers ≡ get_or all i namers → AreAllNamers units table namers.units.items
    listed_namers units units_are tables tables_are table_of numbers_are all count count_is are i below table table_is namers namers_is =
        let inside : i < length world.tables = subst (λ (ts : List NamedTable). i < length ts) tables_are below in
        let table' : table ≡ table_at world.tables i = table_is ∙ get_or_default tables i table (table_at [] 0) below ∙ ap (λ (ts : List NamedTable). table_at ts i) tables_are in
        let listed : namers.units.items ≡ units_with world.table_of i (length world.table_of) =
        ap (λ (n : Namers). n.units.items) namers_is
        ∙ sym (get_or-map (λ (n : Namers). n.units.items) all i namers [] (omega (arith, are.count, count_is, below)))
        ∙ are.each i (omega (arith, count_is, below))
        ∙ ap (λ (ns : List ℕ). units_with ns i (length ns)) numbers_are in
        let one : AreAllNamers world.units (table_at world.tables i) namers.units.items = subst (λ (ns : List ℕ). AreAllNamers world.units (table_at world.tables i) ns) (sym listed) (all_namers i inside) in
        let two : AreAllNamers world.units table namers.units.items = subst (λ (t : NamedTable). AreAllNamers world.units t namers.units.items) (sym table') one in
        subst (λ (us : List HeadAndForest). AreAllNamers us table namers.units.items) (sym units_are) two
